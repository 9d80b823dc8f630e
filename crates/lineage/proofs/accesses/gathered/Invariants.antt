-- One row a turn (`give`). Assumes nothing.
use Rattle.std.proofs.Common.{ℕ, ◌<◌, List}
use Rattle.lineage.specs.Inner.Table.{Gathered, Given, PlanSound, Reached}
use Rattle.lineage.proofs.accesses.gathered.Given as goal

abbrev pub invariant-loop-i : goal.invariant-loop-i
invariant-loop-i l =
    (head : List ℕ)
    → PlanSound head l.plan
    → Reached head l.plan l.n l.reach
    → ((j : ℕ) → j < l.n → Given l.plan l.n j)
    → Gathered head l.plan l.i l.words
