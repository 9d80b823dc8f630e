-- The words of one place a turn, where it is the user's.
use Rattle.ledger.specs.Inner.Steps.{places_with}
use Rattle.ledger.proofs.PlaceLaws.{Gathered}
use Rattle.ledger.proofs.places.held_words.Given as goal

abbrev pub invariant-loop-p : goal.invariant-loop-p
invariant-loop-p l = Gathered (places_with l.users l.numbers l.words) l.user l.all l.p
