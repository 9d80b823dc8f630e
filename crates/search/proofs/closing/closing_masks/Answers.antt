-- One order a turn (`Masking`). Assumes nothing.
use Rattle.std.proofs.Common.{refl}
use native.Mathlib.Omega.{arith}
use Rattle.search.proofs.ClosingLaws.{masking_none, masking_more, masking_skip, masking_end}
use Rattle.search.proofs.ClosingLaws.{closing_met, closing_unmet}
use Rattle.search.proofs.closing.closing_masks.Goals as goal
use Rattle.search.proofs.closing.closing_masks.Goals.{then-meets, else-meets}

pub loop-i-init : goal.loop-i-init
loop-i-init c = (refl, masking_none c.args.t.now c.args.q c.args.b c.args.c)

pub loop-i-preserved : goal.loop-i-preserved
loop-i-preserved c =
    let a = c.args in
    let loop = c.loop-i in
    let b = c.meets in
    let d = c.meets-in-loop-i in
    elim c.if-meets.branch [
      | then-meets w ↦ (
        refl,
        rw (w.masks-is, w.from.ensures)
            (masking_more a.t.now a.q a.b a.c loop.masks loop.i-index _ (omega arith)
            (λ p.
            closing_met a.t.now a.q a.b a.c _ _ _ w.accepted_beside.result p b.result d.result w.if-meets.true b.ensures
            d.ensures w.accepted_beside.type_inv (w.accepted_beside.ensures p)) loop.invariant.1),
      )
      | else-meets w ↦ (
        refl,
        rw w.masks-is
            (masking_skip a.t.now a.q a.b a.c loop.masks loop.i-index (omega arith)
            (λ p. closing_unmet a.t.now a.q a.b a.c _ _ _ p b.result d.result w.if-meets.false b.ensures d.ensures)
            loop.invariant.1),
      )
    ]

pub returns : goal.returns
returns c = masking_end c.args.t.now c.args.q c.args.b c.args.c c.loop-i.masks c.loop-i.i-index (omega arith) c.loop-i.invariant.1
