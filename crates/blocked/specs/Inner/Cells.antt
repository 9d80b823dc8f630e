-- Cells: the sixteen places of one action and leaf, cell c having the places 16 × c to 16 × c + 15; which of them stay
-- closed beside others, in the tables' terms. No call's promise leans on this file. Assumes nothing.
use Rattle.std.specs.Prelude.{ℕ, ◌+◌, ◌*◌, ◌/◌, ◌<◌, ◌≡◌, Bool, true, false, ◌&&◌, not, List}
use Rattle.book.specs.Lists.{any, up_to}
use Rattle.book.specs.Sets.{has}
use Rattle.search.specs.Inner.Places.{in_places, past_places}
use Rattle.search.specs.Inner.Closing.{closes}
use Rattle.search.specs.declared.tables.RuleTable.{RuleTable}

-- one past the last cell that 33 words have room for
abbrev pub past_cells : ℕ
past_cells = 132

-- some place of cell c is in a set
unfoldable pub in_cell : List ℕ → ℕ → Bool
in_cell set c = any (λ k. in_places set (16 * c + k)) (up_to 16)

-- three places break no rule of a set
unfoldable pub spares : List RuleTable → (ℕ → Bool) → ℕ → ℕ → ℕ → Bool
spares t rules a y x = not (any (λ q. rules q && closes t q a y x) (up_to 32))

-- places of three cells, each in its set, that break no rule of a set
pub record Opens (t : List RuleTable) (rules : ℕ → Bool) (firsts seconds thirds : List ℕ) (l m n : ℕ) : Type 0 where
  pub first : ℕ
  pub second : ℕ
  pub third : ℕ
  pub in_first : (first / 16 ≡ l) × (in_places firsts first ≡ true)
  pub in_second : (second / 16 ≡ m) × (in_places seconds second ≡ true)
  pub in_third : (third / 16 ≡ n) × (in_places thirds third ≡ true)
  pub spared : spares t rules first second third ≡ true

-- Two cells

-- of some third places those of whole cells are gone that the k-th place of cell l opens beside some place of cell m
pub record Tried
    (t : List RuleTable)
    (rules : ℕ)
    (firsts seconds : List ℕ)
    (l m k : ℕ)
    (before after : List ℕ)
    : Type 0 where
  pub fewer : (x : ℕ) → x < past_places → in_places after x ≡ true → in_places before x ≡ true
  pub whole :
      (x z : ℕ)
      → x < past_places
      → z < past_places
      → z / 16 ≡ x / 16
      → in_places after x ≡ true
      → in_places before z ≡ true
      → in_places after z ≡ true
  pub closed :
      (x y : ℕ)
      → x < past_places
      → in_places after x ≡ true
      → in_places firsts (16 * l + k) ≡ true
      → y / 16 ≡ m
      → in_places seconds y ≡ true
      → spares t (has rules) (16 * l + k) y x ≡ false
  pub gone :
      (x : ℕ)
      → x < past_places
      → in_places before x ≡ true
      → in_places after x ≡ false
      → (in_places firsts (16 * l + k) ≡ true)
      × (y z : ℕ)
      × (y / 16 ≡ m)
      × (in_places seconds y ≡ true)
      × (z / 16 ≡ x / 16)
      × (in_places before z ≡ true)
      × (spares t (has rules) (16 * l + k) y z ≡ true)

-- of the third places those are left, by whole cells, that no place of cell l before the k-th opens beside some place
-- of cell m; what is gone is open
pub record Left
    (t : List RuleTable)
    (rules : ℕ)
    (firsts seconds thirds : List ℕ)
    (l m k : ℕ)
    (rest : List ℕ)
    : Type 0 where
  pub fewer : (x : ℕ) → x < past_places → in_places rest x ≡ true → in_places thirds x ≡ true
  pub whole :
      (x z : ℕ)
      → x < past_places
      → z < past_places
      → z / 16 ≡ x / 16
      → in_places rest x ≡ true
      → in_places thirds z ≡ true
      → in_places rest z ≡ true
  pub closed :
      (j x y : ℕ)
      → j < k
      → x < past_places
      → in_places rest x ≡ true
      → in_places firsts (16 * l + j) ≡ true
      → y / 16 ≡ m
      → in_places seconds y ≡ true
      → spares t (has rules) (16 * l + j) y x ≡ false
  pub gone :
      (x : ℕ)
      → x < past_places
      → in_places thirds x ≡ true
      → in_places rest x ≡ false
      → Opens t (has rules) firsts seconds thirds l m (x / 16)

-- Three cells

-- three cells that have places in their sets
pub record Cells (firsts seconds thirds : List ℕ) (l m n : ℕ) : Type 0 where
  pub below : (l < past_cells) × (m < past_cells) × (n < past_cells)
  pub first : in_cell firsts l ≡ true
  pub second : in_cell seconds m ≡ true
  pub third : in_cell thirds n ≡ true

-- such cells, and no places of them that break no rule of a set
pub record Shut (t : List RuleTable) (rules : ℕ → Bool) (firsts seconds thirds : List ℕ) (l m n : ℕ) : Type 0 where
  pub cells : Cells firsts seconds thirds l m n
  pub closed : Opens t rules firsts seconds thirds l m n → ⊥
