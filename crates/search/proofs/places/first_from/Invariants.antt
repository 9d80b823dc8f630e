-- No place from p on is in the words passed (`NoneFrom`). Assumes nothing.
use Prim.Native.Nat.{◌≤◌, ◌<◌, ◌-◌, ◌*◌, ◌/◌}
use Rattle.search.proofs.PlaceLaws.{NoneFrom}
use Rattle.search.proofs.places.first_from.Given as goal

abbrev pub invariant-loop-w : goal.invariant-loop-w
invariant-loop-w l = (l.p / 64 < l.w) × (l.w ≤ 33) × NoneFrom l.set l.p (64 * l.w)

abbrev pub decreases-loop-w : goal.decreases-loop-w
decreases-loop-w l = 33 - l.w
