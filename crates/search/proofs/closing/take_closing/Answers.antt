-- One word a turn (`Mapped`); the law `without_places` reads the words as places. Assumes nothing.
use Rattle.std.proofs.Common.{rules, ◌/◌, Fits, w64, get_or}
use native.Mathlib.Omega.{arith}
use Rattle.search.proofs.PlaceLaws.{same_words}
use Rattle.search.proofs.ClosingLaws.{without_places}
use Rattle.search.proofs.closing.take_closing.Goals as goal

pub returns-clause-rest : goal.returns-clause-rest
returns-clause-rest c p h =
    let a = c.args in
    let first : Fits w64 (get_or a.masks.now 0 0) = search rules in
    let second : Fits w64 (get_or a.masks.now 1 0) = search rules in
    let third : Fits w64 (get_or a.masks.now 2 0) = search rules in
    let word : Fits w64 (get_or a.set.now (p / 64) 0) = search rules in
    without_places a.t.now a.q a.masks.now a.set.now c.loop-w.set c.loop-w.w p first.fits second.fits third.fits
    word.fits c.loop-w.invariant.0 (omega arith)

pub returns-clause-same : goal.returns-clause-same
returns-clause-same c none =
    same_words c.loop-w.set c.args.set.now c.loop-w.w (omega arith) c.loop-w.invariant.0.size (search rules)
    (c.loop-w.invariant.1 none)
