-- One pattern a turn (`weighed`). Assumes nothing.
use Prim.Native.Nat.{◌-◌}
use Rattle.search.specs.Inner.Weight.{solves_among, FirstOf}
use Rattle.search.proofs.WeightLaws.{weighed}
use Rattle.search.proofs.weighing.of_weight.Given as goal

abbrev pub invariant-loop-pattern : goal.invariant-loop-pattern
invariant-loop-pattern l =
    FirstOf (weighed (solves_among l.ask.tables.now l.ask.rule l.ask.references l.rules l.sets) l.weight l.pattern) l.found

abbrev pub decreases-loop-pattern : goal.decreases-loop-pattern
decreases-loop-pattern l = 8 - l.pattern
