-- One second place a turn (`Seeking`), out of those that no rule has settled. Assumes nothing.
use Rattle.std.proofs.Common.{IfSome, ℕ, ◌-◌, ◌<◌, ◌≡◌, true, length}
use Rattle.book.specs.Sets.{has}
use Rattle.search.specs.Inner.Places.{in_places, place_or_past}
use Rattle.search.specs.Inner.Closing.{Within}
use Rattle.search.specs.Inner.Search.{asked, solves_beside}
use Rattle.search.proofs.Solutions.{Seeking}
use Rattle.search.proofs.searching.beside.Given as goal

abbrev pub invariant-loop-next : goal.invariant-loop-next
invariant-loop-next l =
    IfSome l.next (λ y. y < 2112)
    × (length l.seconds ≡ 33)
    × ((p : ℕ) → p < 2112 → in_places l.seconds p ≡ true → in_places l.fn.seconds p ≡ true)
    × (Within (has l.fn.takers.rules) (has l.rules)
    → Seeking (asked solves_beside l.ask l.a l.fn.seconds l.thirds) (λ b z w. z) l.seconds l.rules l.fn.takers.rules
    l.takers.rules (place_or_past l.next))

abbrev pub decreases-loop-next : goal.decreases-loop-next
decreases-loop-next l = 2112 - place_or_past l.next
