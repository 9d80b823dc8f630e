-- Two writes at the end of a block of 512 bytes leave its first 510 and the check. Assumes nothing.
use Rattle.std.proofs.Common.{◌≡◌, ◌∙◌, sym}
use lib.ListN.{length}
use borrow.Author.Tests.{eqb-true}
use Rattle.book.proofs.Answers.{last_passed}
use Rattle.book.proofs.Seals.{sealed_writes}
use Rattle.book.proofs.sealing.seal.Goals as goal

pub returns-clause-bytes : goal.returns-clause-bytes
returns-clause-bytes c =
    let l = c.args.block.now in
    let full : length l ≡ 512 =
    eqb-true _ _ (last_passed _ _ (sym c.ensure.ensures ∙ c.in_ok-ensure.was)) in
    sealed_writes l full c.check_sum-check.result c.check_sum-check.ensures.0
