-- One word of each action a turn (`HadWords`): four leaves with sixteen operations each. Assumes nothing.
use Prim.Native.Nat.{◌-◌}
use Rattle.search.proofs.Obtained.{HadWords}
use Rattle.search.proofs.obtaining.obtainable.Given as goal

abbrev pub invariant-loop-w : goal.invariant-loop-w
invariant-loop-w l = HadWords l.head l.had l.w

abbrev pub decreases-loop-w : goal.decreases-loop-w
decreases-loop-w l = 16 - l.w
