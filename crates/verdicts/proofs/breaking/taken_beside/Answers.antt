-- One restriction a turn (`beside_more`, `beside_other`). Assumes nothing.
use native.Mathlib.Omega.{arith}
use lib.Seq.{take_all}
use Rattle.verdicts.proofs.Masks.{beside_none, beside_more, beside_other}
use Rattle.verdicts.proofs.breaking.taken_beside.Goals.{then-contains, else-contains}
use Rattle.verdicts.proofs.breaking.taken_beside.Goals as goal

pub loop-row-init : goal.loop-row-init
loop-row-init c = beside_none _ _

pub loop-row-preserved : goal.loop-row-preserved
loop-row-preserved c =
    let a = c.args in
    let l = c.loop-row in
    let first = c.contains in
    let second = c.contains-in-loop-row in
    elim c.if-contains.branch [
      | then-contains w ↦ rw w.found-is
          (beside_more a.masks.now a.a a.b l.row-index l.found first.result second.result (omega arith) l.invariant
          first.ensures second.ensures w.if-contains.true)
      | else-contains w ↦ rw w.found-is
          (beside_other a.masks.now a.a a.b l.row-index l.found first.result second.result (omega arith) l.invariant
          first.ensures second.ensures w.if-contains.false)
    ]

pub returns : goal.returns
returns c k = rw (take_all c.loop-row.row-index c.args.masks.now (omega arith)) at (c.loop-row.invariant k)
