-- The cell of the first place that is left, one a turn (`Asked`). Assumes nothing.
use Rattle.std.proofs.Common.{None, ◌≡◌, refl, ◌+◌, ◌*◌, ◌/◌, ◌<◌}
use native.Mathlib.Omega.{arith}
use Rattle.blocked.specs.Inner.Pairs.{Asked}
use Rattle.blocked.proofs.RowLaws.{asked_gone, asked_skip, asked_start, asked_stays}
use borrow.Author.Rules.{rules}
use Rattle.blocked.proofs.rows.remove_open.Goals.{else-some_accepted, then-some_accepted}
use Rattle.blocked.proofs.rows.remove_open.Goals as goal

pub loop-next-init : goal.loop-next-init
loop-next-init c =
    let a = c.args in (
      c.first_from-next.ensures.there,
      asked_skip a.s.now a.met.now a.masks.now a.pairs.now a.places.now 0 a.places.now
          (asked_start a.s.now a.met.now a.masks.now a.pairs.now a.places.now) 0 _
          refl (c.first_from-next.ensures.first (omega arith)),
    )

pub loop-next-smaller : goal.loop-next-smaller
loop-next-smaller c =
    let small : c.in-Some.x < 2112 = rw c.in-Some.is at c.loop-next.invariant.0 in
    rw c.in-Some.is (omega (arith, small, (c.first_from-next-in-Some.ensures.first (omega arith)).low))

pub loop-next-preserved : goal.loop-next-preserved
loop-next-preserved c =
    let a = c.args in
    let loop = c.loop-next in
    let place : c.in-Some.x < 2112 = rw c.in-Some.is at loop.invariant.0 in
    let n = c.in-Some.x / 16 in
    let small : n < 132 = omega arith in
    let asked : Asked a.s.now a.met.now a.masks.now a.pairs.now n a.places.now loop.places =
    rw c.in-Some.is at loop.invariant.1 in
    let word = c.cell_word in
    let answer = c.some_accepted in
    let rest = c.if-some_accepted.places in
    let turned : Asked a.s.now a.met.now a.masks.now a.pairs.now (n + 1) a.places.now rest =
    elim c.if-some_accepted.branch [
      | then-some_accepted w ↦ rw w.places-is
          (asked_gone a.s.now a.met.now a.masks.now a.pairs.now a.places.now n loop.places asked
          word.result answer.result small (word.ensures.members small) answer.ensures w.remove_cell.new.set w.if-some_accepted.true
          (w.remove_cell.ensures small))
      | else-some_accepted w ↦ rw w.places-is
          (asked_stays a.s.now a.met.now a.masks.now a.pairs.now a.places.now n loop.places asked
          word.result answer.result small (word.ensures.members small) answer.ensures w.if-some_accepted.false)
    ] in (
      c.first_from-next-in-Some.ensures.there,
      asked_skip a.s.now a.met.now a.masks.now a.pairs.now a.places.now (n + 1) rest turned
          (16 * n + 16) _ (omega arith) (c.first_from-next-in-Some.ensures.first (omega arith)),
    )

pub returns : goal.returns
returns c =
    let ended : c.loop-next.next ≡ None = search rules in
    rw ended at c.loop-next.invariant.1
