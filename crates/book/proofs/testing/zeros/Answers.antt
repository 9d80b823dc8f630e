-- A union of bytes is zero where each is: the law `none_seen`. Assumes nothing.
use Rattle.std.proofs.Common.{arith, ◌∙◌, refl}
use lib.Seq.{take_all}
use lib.Dec.{eqb}
use Rattle.book.specs.Lists.{all}
use Rattle.book.specs.Refusals.{zeros}
use Rattle.book.proofs.Lists.{all_take}
use Rattle.book.proofs.Members.{none_seen}
use Rattle.book.proofs.testing.zeros.Goals as goal

pub loop-byte-init : goal.loop-byte-init
unfolding all
loop-byte-init c = refl

pub loop-byte-preserved : goal.loop-byte-preserved
loop-byte-preserved c =
    let l = c.loop-byte in
    let items = c.part-byte-items.result.now in
    none_seen l.seen _ ∙ rw (l.invariant, all_take (λ x. eqb x 0) items l.byte-index c.loop-byte-test.true)

pub returns : goal.returns
unfolding zeros
returns c =
    let l = c.loop-byte in
    let items = c.part-byte-items in
    rw (← c.saturating_sub.ensures, ← items.ensures)
    (rw (take_all l.byte-index items.result.now (omega arith)) at l.invariant)
