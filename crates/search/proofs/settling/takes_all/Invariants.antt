-- One word a turn (`Leaving`); the law `takes_all` reads the words as places. Assumes nothing.
use Prim.Native.Nat.{◌≤◌, ◌-◌}
use Rattle.search.proofs.SettlingLaws.{Leaving}
use Rattle.search.proofs.settling.takes_all.Given as goal

abbrev pub invariant-loop-w : goal.invariant-loop-w
invariant-loop-w l = (l.w ≤ 33) × Leaving l.t l.q l.i l.thirds l.own l.other l.w l.rest

abbrev pub decreases-loop-w : goal.decreases-loop-w
decreases-loop-w l = 33 - l.w
