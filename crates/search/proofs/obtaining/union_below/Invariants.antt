-- The union of the words so far. Assumes nothing.
use Rattle.std.proofs.Common.{ℕ, ◌<◌, ◌≤◌, Bool}
use Rattle.book.specs.Lists.{any, up_to}
use Rattle.book.specs.Sets.{WordOf}
use Rattle.search.proofs.obtaining.union_below.Given as goal

abbrev pub invariant-loop-q : goal.invariant-loop-q
invariant-loop-q g l =
    (l.q ≤ l.n)
    × ((f : ℕ → ℕ → Bool)
    → ((q w : ℕ) → q < l.n → goal.F-post g l.word q w → WordOf (f q) w)
    → WordOf (λ i. any (λ q. f q i) (up_to l.q)) l.found)
