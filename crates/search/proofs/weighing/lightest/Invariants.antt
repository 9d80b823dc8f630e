-- One weight a turn: none has fewer functions (`LightestOf`). Assumes nothing.
use Prim.Native.Nat.{◌-◌}
use Rattle.search.specs.Inner.Weight.{solves_among, LightestOf}
use Rattle.std.specs.Prelude.{None}
use Rattle.search.proofs.weighing.lightest.Given as goal

abbrev pub invariant-loop-weight : goal.invariant-loop-weight
invariant-loop-weight l = LightestOf (solves_among l.ask.tables.now l.ask.rule l.ask.references l.rules l.sets) l.weight None

abbrev pub decreases-loop-weight : goal.decreases-loop-weight
decreases-loop-weight l = l.most - l.weight
