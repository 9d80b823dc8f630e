-- Each turn takes one rule off those that wait (`Narrowing`), which makes that word smaller. Assumes nothing.
use Rattle.blocked.proofs.NarrowLaws.{Narrowing}
use Rattle.blocked.proofs.pairs.narrow.Given as goal

abbrev pub invariant-loop-waiting : goal.invariant-loop-waiting
invariant-loop-waiting l = Narrowing l.slices l.rules l.initial.pairs l.pairs l.waiting

abbrev pub decreases-loop-waiting : goal.decreases-loop-waiting
decreases-loop-waiting l = l.waiting
