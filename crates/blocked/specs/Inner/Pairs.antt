-- Pairs of operations beside one first place: which of them the rules accept, as words. A second operation c and a
-- third operation d are bit 16 × (c % 4) + d of word c / 4. No call's promise leans on this file. Assumes nothing.
use Rattle.std.specs.Prelude.{ℕ, ◌+◌, ◌*◌, ◌/◌, ◌%◌, ◌≤◌, ◌<◌, ◌≡◌, Bool, true, false, ◌&&◌, ◌||◌, not, List, [], get_or, ltb}
use Rattle.book.specs.Lists.{all, up_to}
use Rattle.book.specs.Sets.{has}
use Rattle.search.specs.Inner.Places.{PlacesOf, in_places, past_places}
use Rattle.search.specs.Inner.Table.{meets, takes_at}
use Rattle.search.specs.Inner.Closing.{accepted_at}
use Rattle.search.specs.Inner.Search.{covers_in}
use Rattle.search.specs.declared.tables.RuleTable.{RuleTable}
use Rattle.blocked.specs.Inner.Cells.{in_cell, past_cells}

-- the six orders in which three places stand for the references of a rule: where the first, the second and the third do
abbrev pub third_at : ℕ → ℕ
third_at v = v / 2

abbrev pub first_at : ℕ → ℕ
first_at v = (v / 2 + 1 + v % 2) % 3

abbrev pub second_at : ℕ → ℕ
second_at v = (v / 2 + 2 + 2 * (v % 2)) % 3

-- for each cell and reference the rules whose reference its first place meets
abbrev pub MetHolds : List RuleTable → List (List ℕ) → Type 0
MetHolds t met =
    (c i q : ℕ) → c < past_cells → i < 3 → has (get_or (get_or met c []) i 0) q ≡ (ltb q 32 && meets t q i (16 * c))

-- for each order the rules that first place a and the places of cell m meet
abbrev pub MasksHold : List RuleTable → ℕ → ℕ → ℕ → List ℕ → Type 0
MasksHold t rules a m masks =
    (v q : ℕ)
    → v < 6
    → has (get_or masks v 0) q
    ≡ (has rules q && (ltb q 32 && (meets t q (first_at v) a && meets t q (second_at v) (16 * m))))

-- the operations with which the places of cell c are in a set
abbrev pub CellOperations : List ℕ → ℕ → ℕ → Type 0
CellOperations set c word = (k : ℕ) → k < 16 → has word k ≡ in_places set (16 * c + k)

-- the pairs that some restriction of rule q accepts, with the third place at i, a at k and the second place at l
abbrev pub AcceptedWords : List RuleTable → ℕ → ℕ → ℕ → ℕ → ℕ → List ℕ → Type 0
AcceptedWords t q i k l a words =
    (w b : ℕ) → w < 4 → b < 64 → has (get_or words w 0) b ≡ accepted_at t q i k l a (4 * w + b / 16) b

-- the word of a rule
abbrev pub slice_at : List (List ℕ) → ℕ → ℕ → ℕ
slice_at s q w = get_or (get_or s q []) w 0

-- the same for each rule of a mask
abbrev pub OrderHolds : List RuleTable → (mask i k l a : ℕ) → List (List ℕ) → Type 0
OrderHolds t mask i k l a s =
    (q w b : ℕ)
    → q < 32
    → w < 4
    → b < 64
    → has mask q ≡ true
    → has (slice_at s q w) b ≡ accepted_at t q i k l a (4 * w + b / 16) b

-- the same for each order and its mask
abbrev pub SlicesHold : List RuleTable → List ℕ → ℕ → List (List (List ℕ)) → Type 0
SlicesHold t masks a s =
    (v : ℕ) → v < 6 → OrderHolds t (get_or masks v 0) (third_at v) (first_at v) (second_at v) a (get_or s v [])

-- pairs less what a rule that waits does not accept
abbrev pub Narrowed : List (List ℕ) → ℕ → List ℕ → List ℕ → Type 0
Narrowed s waiting before after =
    (w b : ℕ)
    → w < 4
    → b < 64
    → has (get_or after w 0) b
    ≡ (has (get_or before w 0) b && all (λ q. not (has waiting q) || has (slice_at s q w) b) (up_to 32))

-- pair b of word w is among some pairs, its third operation among those of a cell, and every rule that the cell meets
-- too accepts it
pub record Accepts (s : List (List (List ℕ))) (met masks pairs : List ℕ) (third w b : ℕ) : Type 0 where
  pub pair : has (get_or pairs w 0) b ≡ true
  pub operation : has third (b % 16) ≡ true
  pub each :
      (v q : ℕ)
      → v < 6
      → q < 32
      → has (get_or masks v 0) q ≡ true
      → has (get_or met (third_at v) 0) q ≡ true
      → has (slice_at (get_or s v []) q w) b ≡ true

-- whether there is such a pair
pub record Answers (s : List (List (List ℕ))) (met masks pairs : List ℕ) (third : ℕ) (answer : Bool) : Type 0 where
  pub found : answer ≡ true → (w b : ℕ) × (w < 4) × (b < 64) × Accepts s met masks pairs third w b
  pub none : answer ≡ false → (w b : ℕ) → w < 4 → b < 64 → Accepts s met masks pairs third w b → ⊥

-- of a set of places the cells below c are gone for which there is such a pair with their operations, and nothing else
-- is
pub record Asked
    (s : List (List (List ℕ)))
    (met : List (List ℕ))
    (masks pairs : List ℕ)
    (c : ℕ)
    (before after : List ℕ)
    : Type 0 where
  pub answer : ℕ → Bool
  pub told :
      (n : ℕ)
      → n < c
      → in_cell before n ≡ true
      → (third : ℕ) × CellOperations before n third × Answers s (get_or met n []) masks pairs third (answer n)
  pub later : (n : ℕ) → c ≤ n → answer n ≡ false
  pub kept : PlacesOf (λ p. in_places before p && not (answer (p / 16))) after

-- the pairs of a second place of cell m and any third operation
abbrev pub SecondPairs : List ℕ → ℕ → List ℕ → Type 0
SecondPairs seconds m pairs =
    (w b : ℕ) → w < 4 → b < 64 → has (get_or pairs w 0) b ≡ in_places seconds (16 * m + (4 * w + b / 16))

-- The tables

-- the places of a set meet what the first place of their cell meets
abbrev pub Whole : List RuleTable → (ℕ → Bool) → List ℕ → Type 0
Whole t rules set =
    (q i p : ℕ)
    → q < 32
    → rules q ≡ true
    → i < 3
    → p < past_places
    → in_places set p ≡ true
    → meets t q i p ≡ meets t q i (16 * (p / 16))

-- whether a restriction takes a place depends on its operation alone
abbrev pub Repeats : List RuleTable → (ℕ → Bool) → Type 0
Repeats t rules =
    (q i j p : ℕ) → q < 32 → rules q ≡ true → i < 3 → j < 8 → takes_at t q i j p ≡ takes_at t q i j (p % 16)

-- what the rows are given
pub record Prepared (t : List RuleTable) (met : List (List ℕ)) (rules : ℕ → Bool) (seconds thirds : List ℕ) : Type 0 where
  pub met_holds : MetHolds t met
  pub seconds_whole : Whole t rules seconds
  pub thirds_whole : Whole t rules thirds
  pub repeats : Repeats t rules

-- what the search over users is given: the rules that cover users are among all rules
pub record Ready (t : List RuleTable) (met : List (List ℕ)) (all : ℕ) (seconds thirds covered : List ℕ) : Type 0 where
  pub prepared : Prepared t met (has all) seconds thirds
  pub among : (u q : ℕ) → u < 32 → q < 32 → covers_in covered q u ≡ true → has all q ≡ true
