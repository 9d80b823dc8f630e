use Rattle.std.proofs.Common.{◌≡◌, ◌<◌, ◌≤◌, ℕ, false}
use Rattle.book.specs.Sets.{has}
use Rattle.book.proofs.sets.those_below.Given as goal

abbrev pub invariant-loop-q : goal.invariant-loop-q
invariant-loop-q g l =
    record {
      below : (j : ℕ) → j < l.q → goal.F-post g l.passes j (has l.found j);
      above : (j : ℕ) → l.q ≤ j → has l.found j ≡ false;
    }
