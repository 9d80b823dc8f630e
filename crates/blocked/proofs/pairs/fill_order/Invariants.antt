-- Each turn takes one rule off those that wait (`Slicing`), which makes that word smaller. Assumes nothing.
use Rattle.blocked.proofs.SliceLaws.{Slicing}
use Rattle.blocked.proofs.pairs.fill_order.Given as goal

abbrev pub invariant-loop-waiting : goal.invariant-loop-waiting
invariant-loop-waiting l = Slicing l.t l.mask l.order.third l.order.first l.order.second l.a l.slices l.waiting

abbrev pub decreases-loop-waiting : goal.decreases-loop-waiting
decreases-loop-waiting l = l.waiting
