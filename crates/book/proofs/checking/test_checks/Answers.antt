-- Each block's outcome is that of its tests. Assumes nothing.
use Rattle.std.proofs.Common.{rules, ◌≡◌}
use Rattle.book.specs.Tests.{first_failing}
use Rattle.book.specs.Refusals.{check_tests}
use Rattle.book.proofs.Answers.{walked}
use Rattle.book.proofs.checking.test_checks.Goals as goal

pub returns : goal.returns
returns c =
    let book = c.args.book.now in
    walked (check_tests book) c.args.n (λ i r. r ≡ first_failing (check_tests book i)) (λ i r l low e. e) c.first_refusal.result
    c.first_refusal.ensures.passed c.first_refusal.ensures.refused
    (λ f i h. let e = f i h in search rules)
    (λ r f. (f.0, f.1, let e = f.2 in search rules, λ j l. let e = f.3 j l in search rules))
