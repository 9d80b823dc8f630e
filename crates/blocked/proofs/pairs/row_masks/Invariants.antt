-- One order a turn (`Filled`). Assumes nothing.
use Rattle.book.proofs.Loops.{Filled}
use Rattle.blocked.specs.Inner.Pairs.{MetHolds}
use Rattle.blocked.proofs.MetLaws.{OrderWord}
use Rattle.blocked.proofs.pairs.row_masks.Given as goal

abbrev pub invariant-loop-v : goal.invariant-loop-v
invariant-loop-v l = Filled 6 (λ v word. MetHolds l.t l.met → OrderWord l.t l.rules l.a l.m v word) l.masks l.v
