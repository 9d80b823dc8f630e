-- Each row's outcome is that of its test. Assumes nothing.
use Rattle.std.proofs.Common.{rules, ◌≡◌}
use Rattle.book.specs.Tests.{first_failing}
use Rattle.book.proofs.Answers.{walked}
use Rattle.lineage.specs.Answers.{row_tests}
use Rattle.lineage.proofs.rows.test_rows.Goals as goal

pub returns : goal.returns
returns c =
    let tests = row_tests c.args.head.now c.args.plan.now in
    walked tests c.args.n (λ i r. r ≡ first_failing (tests i)) (λ i r l low e. e) c.first_refusal.result
    c.first_refusal.ensures.passed c.first_refusal.ensures.refused
    (λ f i h. let e = f i h in search rules)
    (λ r f. (f.0, f.1, let e = f.2 in search rules, λ j l. let e = f.3 j l in search rules))
