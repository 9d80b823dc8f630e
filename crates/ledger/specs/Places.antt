-- The hold record: eight places, each empty or with a plan that is held for a user. Document 02, N10. Assumes nothing.
use Rattle.std.specs.Prelude.{ℕ, ◌/◌, ◌%◌, ◌≡◌, Bool, ◌&&◌, not, cond, List, map, length, get_or, replicate, set, eqb}
use Rattle.book.specs.Lists.{all, any, up_to}
use Rattle.verdicts.specs.Accesses.{Accesses, held_by}
use Rattle.ledger.specs.Ledger.{words_of}
use Rattle.ledger.specs.Counting.{count, first_of}
use Rattle.ledger.specs.declared.Holds.{Holds}

-- eight places, with 32 words each
pub record WholeHolds (holds : Holds) : Type 0 where
  pub users : length holds.users ≡ 8
  pub numbers : length holds.numbers ≡ 8
  pub words : length holds.words ≡ 256

-- a place is empty when its number is 0: numbers begin at 1
unfoldable pub taken : Holds → (place : ℕ) → Bool
taken holds p = not (eqb (get_or holds.numbers p 0) 0)

-- a place holds a plan of that user
unfoldable pub held_at : Holds → (user place : ℕ) → Bool
held_at holds user p = taken holds p && eqb (get_or holds.users p 0) user

-- a place holds the plan of that user and number
unfoldable pub number_at : Holds → (user number place : ℕ) → Bool
number_at holds user number p = held_at holds user p && eqb (get_or holds.numbers p 0) number

-- how many plans are held for a user
unfoldable pub held_count : Holds → (user : ℕ) → ℕ
held_count holds user = count (held_at holds user) (up_to 8)

-- that user holds that number
unfoldable pub holds_number : Holds → (user number : ℕ) → Bool
holds_number holds user number = any (number_at holds user number) (up_to 8)

-- "eight are held", "over all users together"
unfoldable pub eight_held : Holds → Bool
eight_held holds = all (taken holds) (up_to 8)

-- "the lowest empty place"; 8 where none is empty
unfoldable pub empty_place : Holds → ℕ
empty_place holds = first_of (λ p. not (taken holds p)) 8 (up_to 8)

-- "the lowest place with that user and number"; 8 where he does not hold it
unfoldable pub place_of : Holds → (user number : ℕ) → ℕ
place_of holds user number = first_of (number_at holds user number) 8 (up_to 8)

-- the accesses of a user's held plans
unfoldable pub held_accesses : Holds → (user : ℕ) → Accesses
held_accesses holds user x = any (λ p. held_at holds user p && held_by (words_of holds.words p) x) (up_to 8)

-- 32 words in the stead of those of a place; the words of all others are as they were
unfoldable pub written_at : (words : List ℕ) (place : ℕ) (new : List ℕ) → List ℕ
written_at words p new = map (λ j. cond (eqb (j / 32) p) (get_or new (j % 32) 0) (get_or words j 0)) (up_to (length words))

-- a place "keeps its user, number and accesses as asked"
unfoldable pub placed : Holds → (place user number : ℕ) (words : List ℕ) → Holds
placed holds p user number words =
    record {
      users = set holds.users p user;
      numbers = set holds.numbers p number;
      words = written_at holds.words p words;
    }

-- a hold "frees its place for the next": it is all zero, as when fresh
unfoldable pub freed : Holds → (place : ℕ) → Holds
freed holds p = placed holds p 0 0 (replicate 32 0)
