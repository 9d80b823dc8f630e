-- The sum so far is the weighted sum of the bytes passed: those of the whole rows, then at most 130,050 for each byte.
-- Assumes nothing.
use Prim.Native.Nat.{◌≤◌, ◌+◌, ◌-◌, ◌*◌}
use mathlib.Core.Path.{◌≡◌}
use lib.ListN.{length, take}
use Rattle.book.specs.Blocks.{weighted}
use Rattle.book.proofs.sealing.check_sum.Given as goal

abbrev pub invariant-loop-i : goal.invariant-loop-i
invariant-loop-i l =
    (l.i ≤ length l.body)
    × (l.i-end ≡ length l.body)
    × (length l.body ≤ 510)
    × (l.sum ≡ weighted 1 (take l.i l.body))
    × (l.sum ≤ 68935680 + 130050 * l.i)

abbrev pub decreases-loop-i : goal.decreases-loop-i
decreases-loop-i l = length l.body - l.i
