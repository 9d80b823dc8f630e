-- The ledger: the words of each user, and what an admitted plan adds. Document 02, N3 and N10. Assumes nothing.
use Rattle.std.specs.Prelude.{ℕ, ◌+◌, ◌*◌, ◌/◌, ◌%◌, cond, List, map, length, get_or, eqb}
use Rattle.std.specs.Int.Bits.{bit_or}
use Rattle.book.specs.Lists.{up_to}
use Rattle.verdicts.specs.Accesses.{Accesses, held_by}

-- "A ledger of 1,024 words of 64 bits"
abbrev pub Ledger : Type 0
Ledger = List ℕ

-- "32 words for each user number, laid out as in Flows"
unfoldable pub words_of : Ledger → (user : ℕ) → List ℕ
words_of ledger user = map (λ w. get_or ledger (32 * user + w) 0) (up_to 32)

-- the accesses in a user's words: "The words stand for admitted plans only."
unfoldable pub admitted_for : Ledger → (user : ℕ) → Accesses
admitted_for ledger user = held_by (words_of ledger user)

-- 32 words joined to those of a user; the words of all others are as they were
unfoldable pub joined_for : Ledger → (user : ℕ) (words : List ℕ) → Ledger
joined_for ledger user words =
    map (λ j. bit_or (get_or ledger j 0) (cond (eqb (j / 32) user) (get_or words (j % 32) 0) 0)) (up_to (length ledger))
