-- One first place a turn (`Seeking`). Assumes nothing.
use Rattle.std.proofs.Common.{IfSome, ◌<◌, ◌-◌}
use Rattle.book.specs.Sets.{has}
use Rattle.search.specs.Inner.Places.{place_or_past}
use Rattle.search.specs.Inner.Closing.{Within}
use Rattle.search.specs.Inner.Search.{asked, solves_in}
use Rattle.search.proofs.Solutions.{Seeking}
use Rattle.search.proofs.searching.among.Given as goal

abbrev pub invariant-loop-next : goal.invariant-loop-next
invariant-loop-next l =
    IfSome l.next (λ a. a < 2112)
    × (Within (has l.fn.takers.rules) (has l.rules)
    → Seeking (asked solves_in l.ask l.firsts l.seconds l.thirds) (λ b z w. b) l.firsts l.rules l.fn.takers.rules
    l.takers.rules (place_or_past l.next))

abbrev pub decreases-loop-next : goal.decreases-loop-next
decreases-loop-next l = 2112 - place_or_past l.next
