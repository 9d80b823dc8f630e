-- The bit of a place in its word. Assumes nothing.
use native.Mathlib.Omega.{arith}
use Rattle.search.specs.Inner.Places.{in_places}
use Rattle.blocked.proofs.cells.inside.Goals as goal

pub returns-then-p-ge-PAST_PLACES : goal.returns-then-p-ge-PAST_PLACES
returns-then-p-ge-PAST_PLACES c l = absurd (omega arith)

pub returns : goal.returns
unfolding in_places
returns c l = c.contains.ensures
