-- A test that fails ends the call, one that passes leaves the rest to decide. Once the counts hold there are at most
-- three references, and once the numbers hold the masks can be read. Assumes nothing.
use Rattle.std.proofs.Common.{rules, ◌≡◌, ◌∙◌, sym, true, false}
use Rattle.std.specs.Prelude.{None, Some, Err}
use Rattle.book.specs.declared.rule_tests.RuleFault.TheVariants.{RuleNumber}
use Rattle.book.specs.Tests.{first_failing}
use Rattle.book.specs.Refusals.{rule_block_tests, rule_counted, numbers_hold}
use Rattle.book.proofs.Lists.{and_left}
use Rattle.book.proofs.References.{leaf_sets_apart_law}
use Rattle.book.proofs.Tests.{rule_bounds, references_held}
use Rattle.book.proofs.rule_tests.test_rule_block.Goals as goal

pub returns-then-not-rule_counts-rule_zeros : goal.returns-then-not-rule_counts-rule_zeros
unfolding rule_block_tests rule_counted first_failing
returns-then-not-rule_counts-rule_zeros c i head w =
    rw (← c.rule_counts.ensures, ← c.rule_zeros.ensures, c.if-not-rule_counts-rule_zeros.true) (search rules)

pub returns-in_err-a : goal.returns-in_err-a
unfolding rule_block_tests rule_counted first_failing
returns-in_err-a c i head w =
    let rule = c.args.rule.now in
    let passed = c.if-not-rule_counts-rule_zeros.false in
    let few = (rule_bounds rule (sym c.rule_counts.ensures ∙ and_left _ _ passed)).1 in
    let none : c.read_references.result ≡ None = search rules in
    let wrong : numbers_hold head rule ≡ false = rw none at (c.read_references.ensures head w few) in
    let out : c.from_residual.result ≡ Err RuleNumber = search rules in
    rw (out, ← c.rule_counts.ensures, ← c.rule_zeros.ensures, passed, wrong) (search rules)

pub returns-then-not-leaves_apart : goal.returns-then-not-leaves_apart
unfolding rule_block_tests rule_counted first_failing
returns-then-not-leaves_apart c i head w =
    let rule = c.args.rule.now in
    let passed = c.if-not-rule_counts-rule_zeros.false in
    let few = (rule_bounds rule (sym c.rule_counts.ensures ∙ and_left _ _ passed)).1 in
    let some : c.read_references.result ≡ Some c.in_ok-a.field-0 = search rules in
    let read = rw some at (c.read_references.ensures head w few) in
    let words = c.leaves_apart.ensures.words in
    let apart =
    c.leaves_apart.ensures.apart
    ∙ leaf_sets_apart_law head rule _ _ _ w.counts.categories few words.0 words.1 words.2 read.1 read.2 read.3 in
    rw (← c.rule_counts.ensures, ← c.rule_zeros.ensures, passed, read.0, ← apart, c.if-not-leaves_apart.true) (search rules)

pub returns-then-not-masks_hold : goal.returns-then-not-masks_hold
unfolding rule_block_tests rule_counted first_failing
returns-then-not-masks_hold c i head w =
    let rule = c.args.rule.now in
    let passed = c.if-not-rule_counts-rule_zeros.false in
    let few = (rule_bounds rule (sym c.rule_counts.ensures ∙ and_left _ _ passed)).1 in
    let some : c.read_references.result ≡ Some c.in_ok-a.field-0 = search rules in
    let read = rw some at (c.read_references.ensures head w few) in
    let words = c.leaves_apart.ensures.words in
    let apart =
    c.leaves_apart.ensures.apart
    ∙ leaf_sets_apart_law head rule _ _ _ w.counts.categories few words.0 words.1 words.2 read.1 read.2 read.3 in
    let held = c.masks_hold.ensures head w (references_held head rule (rw read.0)) in
    rw (
      ← c.rule_counts.ensures,
      ← c.rule_zeros.ensures,
      passed,
      read.0,
      ← apart,
      c.if-not-leaves_apart.false,
      ← held,
      c.if-not-masks_hold.true,
    ) (search rules)

pub returns : goal.returns
unfolding rule_block_tests rule_counted first_failing
returns c i head w =
    let rule = c.args.rule.now in
    let passed = c.if-not-rule_counts-rule_zeros.false in
    let few = (rule_bounds rule (sym c.rule_counts.ensures ∙ and_left _ _ passed)).1 in
    let some : c.read_references.result ≡ Some c.in_ok-a.field-0 = search rules in
    let read = rw some at (c.read_references.ensures head w few) in
    let words = c.leaves_apart.ensures.words in
    let apart =
    c.leaves_apart.ensures.apart
    ∙ leaf_sets_apart_law head rule _ _ _ w.counts.categories few words.0 words.1 words.2 read.1 read.2 read.3 in
    let held = c.masks_hold.ensures head w (references_held head rule (rw read.0)) in
    rw (
      ← c.rule_counts.ensures,
      ← c.rule_zeros.ensures,
      passed,
      read.0,
      ← apart,
      c.if-not-leaves_apart.false,
      ← held,
      c.if-not-masks_hold.false,
    ) (search rules)
