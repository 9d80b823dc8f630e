-- The tally: counts for each user number. Document 02, N3, N8 and N10. Assumes nothing.
use Rattle.std.specs.Prelude.{ℕ, ◌+◌, ◌≡◌, cond, List, length, get_or, set, ltb}
use Rattle.ledger.specs.declared.Tally.{Tally}

-- how many plans of a user were admitted, how many were declined, and "each user's dropped plans too"
pub record Counts : Type 0 where
  pub admitted : ℕ
  pub declined : ℕ
  pub dropped : ℕ

-- "for each user number": three times 32 counts
pub record WholeTally (tally : Tally) : Type 0 where
  pub admitted : length tally.admitted ≡ 32
  pub declined : length tally.declined ≡ 32
  pub dropped : length tally.dropped ≡ 32

-- the counts of a user; zeros for a number past the tally's end
unfoldable pub counts_of : Tally → (user : ℕ) → Counts
counts_of tally user =
    record {
      admitted = get_or tally.admitted user 0;
      declined = get_or tally.declined user 0;
      dropped = get_or tally.dropped user 0;
    }

-- "a count at its top value stays there"
unfoldable pub raised : (count : ℕ) → ℕ
raised count = cond (ltb count 4294967295) (count + 1) count

-- one more for a user; the counts of all others are as they were
unfoldable pub raised_for : (counts : List ℕ) (user : ℕ) → List ℕ
raised_for counts user = set counts user (raised (get_or counts user 0))
