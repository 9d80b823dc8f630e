-- From block 4 on the tests are a rule's (`rule_tests_law`). Assumes nothing.
use Rattle.std.proofs.Common.{arith, rules, ◌≡◌, ◌∙◌}
use Rattle.book.specs.Refusals.{block_tests}
use Rattle.book.specs.Inner.Faults.{outcome_at}
use Rattle.book.proofs.Tests.{rule_tests_law}
use Rattle.book.proofs.checking.test_contents.Goals as goal

pub returns-in-0 : goal.returns-in-0
unfolding block_tests
returns-in-0 c = record { told = λ w h. rw c.in-0.is c.test_users_block.ensures }

pub returns-in-1 : goal.returns-in-1
unfolding block_tests
returns-in-1 c = record { told = λ w h. rw c.in-1.is c.test_data_block.ensures }

pub returns-in-2 : goal.returns-in-2
unfolding block_tests
returns-in-2 c = record { told = λ w h. rw c.in-2.is (c.test_columns_block.ensures (record { told = w; counts = h (omega arith) })) }

pub returns-in-3 : goal.returns-in-3
unfolding block_tests
returns-in-3 c = record { told = λ w h. rw c.in-3.is c.test_functions_block.ensures }

pub returns-in_default : goal.returns-in_default
returns-in_default c =
    let a = c.args in
    let placed : c.map_err.result ≡ outcome_at a.i c.test_rule_block.result = search rules in
    record {
      told =
          λ w h.
          rw (rule_tests_law a.head.now a.block.now a.i (omega arith))
          (placed ∙ c.test_rule_block.ensures a.i a.head.now (record { told = w; counts = h (omega arith) }));
    }
