-- The orders have their turns one after the other (`Asking`); a word that is not 0 has a member. Assumes nothing.
use Rattle.blocked.proofs.NarrowLaws.{Asking}
use Rattle.blocked.proofs.pairs.some_accepted.Given as goal

abbrev pub invariant-loop-v : goal.invariant-loop-v
invariant-loop-v l = Asking l.s l.met l.masks l.initial.rest l.rest l.v
