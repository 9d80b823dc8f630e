-- One word a turn (`Mapped`). Assumes nothing.
use native.Mathlib.Omega.{arith}
use Rattle.search.proofs.Candidates.{without_operations}
use Rattle.search.proofs.searching.take_operations.Goals as goal

pub returns : goal.returns
returns c p h =
    let a = c.args in
    without_operations a.set.now c.loop-word.set a.operations c.loop-word.word-index p c.ranges.operations.fits
    c.loop-word.invariant (omega arith)
