-- The cell of the first place that is left, one a turn (`Asked`). Assumes nothing.
use Rattle.std.proofs.Common.{IfSome, ◌-◌, ◌/◌, ◌<◌}
use Rattle.search.specs.Inner.Places.{place_or_past}
use Rattle.blocked.specs.Inner.Pairs.{Asked}
use Rattle.blocked.proofs.rows.remove_open.Given as goal

abbrev pub invariant-loop-next : goal.invariant-loop-next
invariant-loop-next l =
    IfSome l.next (λ x. x < 2112)
    × Asked l.s l.met l.masks l.pairs (place_or_past l.next / 16) l.initial.places l.places

abbrev pub decreases-loop-next : goal.decreases-loop-next
decreases-loop-next l = 2112 - place_or_past l.next
