-- One word of each channel a turn (`Channels`). Assumes nothing.
use Prim.Native.Nat.{◌-◌}
use Rattle.search.proofs.RuleWords.{Channels}
use Rattle.search.proofs.tables.channel_words.Given as goal

abbrev pub invariant-loop-w : goal.invariant-loop-w
invariant-loop-w l = Channels l.leaves l.projected l.tested l.words l.w

abbrev pub decreases-loop-w : goal.decreases-loop-w
decreases-loop-w l = 16 - l.w
