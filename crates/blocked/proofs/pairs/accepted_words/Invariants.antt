-- One restriction a turn: `pairs_skip` if it does not take the first place, `pairs_more` if it does. Assumes nothing.
use Prim.Native.Nat.{◌-◌, ◌≤◌}
use mathlib.Core.Path.{◌≡◌}
use lib.ListN.{length}
use Rattle.blocked.proofs.SliceLaws.{PairWords}
use Rattle.blocked.proofs.pairs.accepted_words.Given as goal

abbrev pub invariant-loop-j : goal.invariant-loop-j
invariant-loop-j l =
    (l.j ≤ 8) × (length l.found ≡ 4) × PairWords l.t l.q l.order.third l.order.first l.order.second l.a l.j l.found

abbrev pub decreases-loop-j : goal.decreases-loop-j
decreases-loop-j l = 8 - l.j
