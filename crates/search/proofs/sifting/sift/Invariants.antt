-- Each turn takes one rule off those that wait (`Sieving`), which makes that word smaller. Assumes nothing.
use Rattle.search.specs.Inner.Closing.{remaining}
use Rattle.search.proofs.Sieves.{Sieving}
use Rattle.search.proofs.sifting.sift.Given as goal

abbrev pub invariant-loop-waiting : goal.invariant-loop-waiting
invariant-loop-waiting l =
    Sieving l.t l.rules l.b l.c (remaining l.initial.set l.initial.takers) (remaining l.set l.takers) l.waiting

abbrev pub decreases-loop-waiting : goal.decreases-loop-waiting
decreases-loop-waiting l = l.waiting
