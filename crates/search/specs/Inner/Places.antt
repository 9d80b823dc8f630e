-- Accesses as numbers, in document 01's order, and sets of them as 33 words. No call's promise leans on this file.
-- Assumes nothing.
use Rattle.std.specs.Prelude.{ℕ, ◌+◌, ◌*◌, ◌/◌, ◌%◌, ◌≤◌, ◌<◌, ◌≡◌, Bool, true, false, cond, Option, Some, None, List, [], ◌∷◌, ◌++◌, get_or, ltb}
use Rattle.book.specs.Sets.{has}
use Rattle.verdicts.specs.Accesses.{Access}
use Rattle.search.specs.Shown.{rows_of}

-- the access at a place below 2048: the place is 1024 × action + 16 × leaf + operation, action 0 being projection
unfoldable pub access_at : ℕ → Access
access_at p = record { channel = p / 1024; leaf = p / 16 % 64; operation = p % 16 }

unfoldable pub place_of : Access → ℕ
place_of x = 1024 * x.channel + 16 * x.leaf + x.operation

-- the place of an absent reference
abbrev pub nowhere : ℕ
nowhere = 2048

-- the access at a place, if it has one
unfoldable pub chosen_at : ℕ → List Access
chosen_at p = cond (ltb p nowhere) (access_at p ∷ []) []

-- the choice at three places
unfoldable pub choice_at : ℕ → ℕ → ℕ → List Access
choice_at a y x = chosen_at a ++ (chosen_at y ++ chosen_at x)

-- the rows of the shown plan for the access at a place, and of the choice at three
unfoldable pub rows_at : ℕ → ℕ
rows_at p = cond (ltb p nowhere) (rows_of (access_at p)) 0

abbrev pub rows_for : ℕ → ℕ → ℕ → ℕ
rows_for a y x = rows_at a + (rows_at y + rows_at x)

-- place p is in a set of 33 words
unfoldable pub in_places : List ℕ → ℕ → Bool
in_places set p = has (get_or set (p / 64) 0) (p % 64)

-- one past the last place that 33 words have room for
abbrev pub past_places : ℕ
past_places = 2112

-- a place, or one past the last
abbrev pub place_or_past : Option ℕ → ℕ
place_or_past (Some p) = p
place_or_past None = past_places

-- the places of a set are those that pass a test
abbrev pub PlacesOf : (ℕ → Bool) → List ℕ → Type 0
PlacesOf test set = (p : ℕ) → p < past_places → in_places set p ≡ test p

-- the lowest member of a word, if it has one
pub record Lowest (word found : ℕ) : Type 0 where
  pub bound : found ≤ 64
  pub member : (word ≡ 0 → ⊥) → (found < 64) × (has word found ≡ true)
  pub skipped : (j : ℕ) → j < found → has word j ≡ false

-- the lowest place of a set from p on, or past all of them
pub record FirstFrom (set : List ℕ) (p found : ℕ) : Type 0 where
  pub low : p ≤ found
  pub high : found ≤ past_places
  pub member : found < past_places → in_places set found ≡ true
  pub skipped : (q : ℕ) → p ≤ q → q < found → in_places set q ≡ false
