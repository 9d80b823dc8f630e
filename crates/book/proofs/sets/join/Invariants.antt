use Rattle.std.proofs.Common.{◌≡◌, ◌<◌, ◌≤◌, ℕ, get_or, length}
use Rattle.std.specs.Int.Bits.{bit_or}
use Rattle.book.proofs.sets.join.Given as goal

-- the words below k are joined, the others as they were
abbrev pub invariant-loop-k : goal.invariant-loop-k
invariant-loop-k g l =
    record {
      long : length l.set ≡ length l.initial.set;
      below : (j : ℕ) → j < l.k → get_or l.set j 0 ≡ bit_or (get_or l.initial.set j 0) (get_or l.other j 0);
      above : (j : ℕ) → l.k ≤ j → get_or l.set j 0 ≡ get_or l.initial.set j 0;
    }
