-- Which places break a rule beside two others, in the tables' terms. No call's promise leans on this file. Assumes
-- nothing.
use Rattle.std.specs.Prelude.{ℕ, ◌%◌, ◌<◌, ◌≡◌, Bool, true, false, ◌&&◌, ◌||◌, not, List, [], ◌∷◌, get_or}
use Rattle.book.specs.Lists.{any, up_to}
use Rattle.book.specs.Sets.{has}
use Rattle.search.specs.Inner.Places.{in_places, past_places, PlacesOf}
use Rattle.search.specs.Inner.Table.{meets, takes_at}
use Rattle.search.specs.declared.sifting.Takers.{Takers}
use Rattle.search.specs.declared.tables.RuleTable.{RuleTable}

-- each reference of a rule with the other two, in either order
abbrev pub orders : List (List ℕ)
orders =
    (0 ∷ 1 ∷ 2 ∷ [])
    ∷ (0 ∷ 2 ∷ 1 ∷ [])
    ∷ (1 ∷ 0 ∷ 2 ∷ [])
    ∷ (1 ∷ 2 ∷ 0 ∷ [])
    ∷ (2 ∷ 0 ∷ 1 ∷ [])
    ∷ (2 ∷ 1 ∷ 0 ∷ [])
    ∷ []

-- some restriction takes p at reference i, b at k and c at l
unfoldable pub accepted_at : List RuleTable → ℕ → ℕ → ℕ → ℕ → ℕ → ℕ → ℕ → Bool
accepted_at t q i k l b c p =
    any (λ j. takes_at t q i j p && (takes_at t q k j b && takes_at t q l j c)) (up_to 8)

-- b meets reference k, c meets l, and no restriction takes p at i beside them
unfoldable pub closes_at : List RuleTable → ℕ → ℕ → ℕ → ℕ → ℕ → ℕ → ℕ → Bool
closes_at t q i k l b c p = meets t q k b && (meets t q l c && not (accepted_at t q i k l b c p))

-- in either order of b and c
unfoldable pub closes_by : List RuleTable → ℕ → ℕ → ℕ → ℕ → ℕ → ℕ → ℕ → Bool
closes_by t q i k l b c p = closes_at t q i k l b c p || closes_at t q i k l c b p

-- place p breaks rule q beside b and c
unfoldable pub closes : List RuleTable → ℕ → ℕ → ℕ → ℕ → Bool
closes t q b c p =
    (meets t q 0 p && closes_by t q 0 1 2 b c p)
    || ((meets t q 1 p && closes_by t q 1 0 2 b c p) || (meets t q 2 p && closes_by t q 2 0 1 b c p))

-- place p meets a reference of rule q with one of the operations given for it
abbrev pub meets_with : List RuleTable → ℕ → List ℕ → ℕ → Bool
meets_with t q masks p =
    (meets t q 0 p && has (get_or masks 0 0) (p % 64))
    || ((meets t q 1 p && has (get_or masks 1 0) (p % 64)) || (meets t q 2 p && has (get_or masks 2 0) (p % 64)))

-- the operations that break rule q at each of its references beside b and c
pub record Masked (t : List RuleTable) (q b c : ℕ) (masks : List ℕ) : Type 0 where
  pub first : (p : ℕ) → has (get_or masks 0 0) (p % 64) ≡ closes_by t q 0 1 2 b c p
  pub second : (p : ℕ) → has (get_or masks 1 0) (p % 64) ≡ closes_by t q 1 0 2 b c p
  pub third : (p : ℕ) → has (get_or masks 2 0) (p % 64) ≡ closes_by t q 2 0 1 b c p

-- Sets of rules

abbrev pub Within : (ℕ → Bool) → (ℕ → Bool) → Type 0
Within some rules = (q : ℕ) → some q ≡ true → rules q ≡ true

-- what a set has more than before is among the rules
abbrev pub Grown : (ℕ → Bool) → (ℕ → Bool) → (ℕ → Bool) → Type 0
Grown rules before after = (q : ℕ) → after q ≡ true → before q ≡ false → rules q ≡ true

-- Sieves

-- what remains of a set of places; the rules that took some away, and which of them did so last
pub record Remaining : Type 0 where
  pub places : List ℕ
  pub rules : ℕ
  pub last : ℕ

abbrev pub remaining : List ℕ → Takers → Remaining
remaining places takers = record { places = places; rules = takers.rules; last = takers.last }

-- rule q took from a set the places that break it beside b and c, and is marked where it took any
pub record Turned (t : List RuleTable) (q b c : ℕ) (before after : Remaining) : Type 0 where
  pub kept : PlacesOf (λ p. in_places before.places p && not (closes t q b c p)) after.places
  pub more : Within (has before.rules) (has after.rules)
  pub only : (j : ℕ) → has after.rules j ≡ true → has before.rules j ≡ false → j ≡ q
  pub marked :
      (p : ℕ)
      → p < past_places
      → in_places before.places p ≡ true
      → in_places after.places p ≡ false
      → has after.rules q ≡ true

-- it did so by its masks
abbrev pub TurnedBy : List RuleTable → ℕ → List ℕ → Remaining → Remaining → Type 0
TurnedBy t q masks before after = (b c : ℕ) → q < 32 → Masked t q b c masks → Turned t q b c before after

-- rules of a set did so, one after the other; those that are done leave nothing that breaks them
pub record Sifted (t : List RuleTable) (rules : ℕ) (done : ℕ → Bool) (b c : ℕ) (before after : Remaining) : Type 0 where
  pub within : (p : ℕ) → p < past_places → in_places after.places p ≡ true → in_places before.places p ≡ true
  pub passed :
      (p q : ℕ)
      → p < past_places
      → q < 32
      → in_places after.places p ≡ true
      → done q ≡ true
      → closes t q b c p ≡ false
  -- what is gone was taken by a rule that is marked
  pub gone :
      (p : ℕ)
      → p < past_places
      → in_places before.places p ≡ true
      → in_places after.places p ≡ false
      → any (λ q. has after.rules q && closes t q b c p) (up_to 32) ≡ true
  pub more : Within (has before.rules) (has after.rules)
  pub only : Grown (has rules) (has before.rules) (has after.rules)
