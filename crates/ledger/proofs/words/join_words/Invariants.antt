-- The user's words below the index are joined, all others are as they were.
use Rattle.std.proofs.Common.{◌≡◌, ℕ, ◌+◌, ◌*◌, ◌<◌, ◌≤◌, ◌⊎◌, length, get_or, bit_or}
use Rattle.ledger.proofs.words.join_words.Given as goal

abbrev pub invariant-loop-w : goal.invariant-loop-w
invariant-loop-w l =
    record {
      own :
          (k : ℕ)
          → k < l.w
          → 32 * l.user + k < length l.ledger
          → get_or l.ledger (32 * l.user + k) 0 ≡ bit_or (get_or l.initial.ledger (32 * l.user + k) 0) (get_or l.words k 0);
      others :
          (j : ℕ)
          → (j < 32 * l.user) ⊎ (32 * l.user + l.w ≤ j)
          → get_or l.ledger j 0 ≡ get_or l.initial.ledger j 0;
    }
