-- What the length refuses ends the check, and a length that holds gives a number of blocks that fits a byte. What the
-- three passes refuse is found by the laws that the function names. Assumes nothing.
use Rattle.std.proofs.Common.{rules, arith, ◌∙◌, sym, length}
use Rattle.book.proofs.Answers.{last_passed}
use Rattle.book.proofs.Tests.{length_true}
use Rattle.book.proofs.CheckLaws.{length_stopped}
use Rattle.book.proofs.checking.test_book.Goals as goal

pub returns-in_err-ensure : goal.returns-in_err-ensure
returns-in_err-ensure c w =
    length_stopped c.args.book.now c.in_err-ensure.field-0.0 _ (search rules)
    (rw c.length_holds.ensures at (sym c.ensure.ensures ∙ c.in_err-ensure.was))

pub overflow_cast-n : goal.overflow_cast-n
overflow_cast-n c =
    let n = length c.args.book.now in
    let long = length_true n (sym c.length_holds.ensures ∙ last_passed _ _ (sym c.ensure.ensures ∙ c.in_ok-ensure.was)) in
    omega arith
