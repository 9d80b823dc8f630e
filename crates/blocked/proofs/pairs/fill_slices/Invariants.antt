-- One order a turn (`Sliced`). Assumes nothing.
use Rattle.blocked.proofs.SliceLaws.{Sliced}
use Rattle.blocked.proofs.pairs.fill_slices.Given as goal

abbrev pub invariant-loop-v : goal.invariant-loop-v
invariant-loop-v l = Sliced l.t l.masks l.a l.s l.v
