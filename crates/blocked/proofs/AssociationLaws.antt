-- Associations as three cells, absent references first: the cells of places that can be chosen, and their order.
-- Assumes nothing.
use Prim.Native.Nat.{ℕ, zero, suc, ◌/◌, ◌%◌, ◌≤◌, ◌<◌}
use native.Mathlib.Omega.{arith}
use mathlib.Core.Path.{◌≡◌, ap}
use mathlib.Core.Logic.{⊎_elim}
use mathlib.Core.Bool.{Bool, true, false, ◌&&◌, ◌||◌}
use mathlib.Core.List.{List, [], ◌∷◌, map}
use lib.Dec.{eqb, ltb}
use borrow.Author.Tests.{eqb-true, eq-eqb, ltb-true, lt-ltb}
use Rattle.book.proofs.Lists.{and_both, and_false, and_left, or_either, or_end, or_true}
use Rattle.verdicts.specs.Accesses.{fits}
use Rattle.search.specs.Obtainable.{can_be_had}
use Rattle.search.specs.Inner.Places.{access_at, choice_at, nowhere}
use Rattle.search.specs.Inner.Search.{triple_before}
use Rattle.search.proofs.ChoicePlaces.{Stand, choice_one, choice_three, choice_two, stand_one, stand_three, stand_two}
use Rattle.search.proofs.ChoicePlaces.{stands}
use Rattle.blocked.specs.Associations.{Datum, association_before, datum_before, datum_of, same_datum}
use Rattle.blocked.specs.Inner.First.{Standing, association_at, data_at, datum_at, no_cell}

-- One cell

-- the datum of a cell, and that of no cell
pub data_present : (c : ℕ) → c < no_cell → data_at c ≡ datum_at c ∷ []
unfolding data_at
data_present c l = rw (lt-ltb c no_cell l)

pub data_absent : (c : ℕ) → c ≡ no_cell → data_at c ≡ []
unfolding data_at
data_absent c e = rw e

-- what the access at a place is to
datum_access : (p : ℕ) → datum_of (access_at p) ≡ datum_at (p / 16)
unfolding datum_of access_at datum_at
datum_access p =
    let e : p / 1024 ≡ p / 16 / 64 = omega arith in
    rw e

datum_same : (c d : ℕ) → datum_at c ≡ datum_at d → c ≡ d
unfolding datum_at
datum_same c d e =
    let s : c / 64 ≡ d / 64 = ap (λ (x : Datum). x.channel) e in
    let f : c % 64 ≡ d % 64 = ap (λ (x : Datum). x.leaf) e in
    omega arith

-- Three cells

-- the cells of n references: those that are absent stand first
unfoldable pub Shape : ℕ → ℕ → ℕ → ℕ → Type 0
Shape zero l m k = ⊥
Shape (suc zero) l m k = (l ≡ no_cell) × (m ≡ no_cell) × (k < no_cell)
Shape (suc (suc zero)) l m k = (l ≡ no_cell) × (m < no_cell) × (k < no_cell)
Shape (suc (suc (suc n))) l m k = (l < no_cell) × (m < no_cell) × (k < no_cell)

module _ (l m k : ℕ) where
  shape_one : Shape 1 l m k → association_at l m k ≡ datum_at k ∷ []
  unfolding Shape association_at
  shape_one s = rw (data_absent l s.0, data_absent m s.1, data_present k s.2)

  shape_two : Shape 2 l m k → association_at l m k ≡ datum_at m ∷ datum_at k ∷ []
  unfolding Shape association_at
  shape_two s = rw (data_absent l s.0, data_present m s.1, data_present k s.2)

  shape_three : Shape 3 l m k → association_at l m k ≡ datum_at l ∷ datum_at m ∷ datum_at k ∷ []
  unfolding Shape association_at
  shape_three s = rw (data_present l s.0, data_present m s.1, data_present k s.2)

  pub shape_standing : (n : ℕ) → n ≤ 3 → Shape n l m k → Standing l m k
  unfolding Shape
  shape_standing zero few s = absurd s
  shape_standing (suc zero) few s =
      record { third = s.2; second = omega (arith, s.1); first = omega (arith, s.0); absent = λ h. s.0 }
  shape_standing (suc (suc zero)) few s =
      record { third = s.2; second = omega (arith, s.1); first = omega (arith, s.0); absent = λ h. s.0 }
  shape_standing (suc (suc (suc zero))) few s =
      record {
        third = s.2;
        second = omega (arith, s.1);
        first = omega (arith, s.0);
        absent = λ h. absurd (omega (arith, s.1));
      }
  shape_standing (suc (suc (suc (suc n)))) few s = absurd (omega arith)

-- The cells of places that can be chosen

module _ (head rule : List ℕ) where
  place_cell : (j p : ℕ) → stands head rule j p ≡ true → p / 16 < no_cell
  unfolding stands
  place_cell j p h =
      let l : p < nowhere =
      ltb-true p nowhere (and_left (ltb p nowhere) (can_be_had head (access_at p) && fits head rule j (access_at p)) h) in
      omega arith

  nowhere_cell : (p : ℕ) → p ≡ nowhere → p / 16 ≡ no_cell
  nowhere_cell p e = omega arith

  module _ (a y x : ℕ) where
    pub stand_shape : (n : ℕ) → 1 ≤ n → n ≤ 3 → Stand head rule n a y x → Shape n (a / 16) (y / 16) (x / 16)
    unfolding Shape
    stand_shape zero lo hi s = absurd (omega arith)
    stand_shape (suc zero) lo hi s =
        let p = stand_one head rule a y x s in
        (nowhere_cell a p.0, nowhere_cell y p.1, place_cell 0 x p.2)
    stand_shape (suc (suc zero)) lo hi s =
        let p = stand_two head rule a y x s in
        (nowhere_cell a p.0, place_cell 0 y p.1, place_cell 1 x p.2)
    stand_shape (suc (suc (suc zero))) lo hi s =
        let p = stand_three head rule a y x s in
        (place_cell 0 a p.0, place_cell 1 y p.1, place_cell 2 x p.2)
    stand_shape (suc (suc (suc (suc n)))) lo hi s = absurd (omega arith)

    -- the association of their choice
    pub choice_association :
        (n : ℕ)
        → 1 ≤ n
        → n ≤ 3
        → Stand head rule n a y x
        → map datum_of (choice_at a y x) ≡ association_at (a / 16) (y / 16) (x / 16)
    choice_association zero lo hi s = absurd (omega arith)
    choice_association (suc zero) lo hi s =
        rw (
          choice_one head rule a y x s,
          datum_access x,
          shape_one (a / 16) (y / 16) (x / 16) (stand_shape 1 lo hi s),
        )
    choice_association (suc (suc zero)) lo hi s =
        rw (
          choice_two head rule a y x s,
          datum_access y,
          datum_access x,
          shape_two (a / 16) (y / 16) (x / 16) (stand_shape 2 lo hi s),
        )
    choice_association (suc (suc (suc zero))) lo hi s =
        rw (
          choice_three head rule a y x s,
          datum_access a,
          datum_access y,
          datum_access x,
          shape_three (a / 16) (y / 16) (x / 16) (stand_shape 3 lo hi s),
        )
    choice_association (suc (suc (suc (suc n)))) lo hi s = absurd (omega arith)

-- Equal associations have equal cells

module _ (b z w l m k : ℕ) where
  pub shape_same :
      (n : ℕ)
      → n ≤ 3
      → Shape n b z w
      → Shape n l m k
      → association_at b z w ≡ association_at l m k
      → (b ≡ l) × (z ≡ m) × (w ≡ k)
  unfolding Shape
  shape_same zero few s u e = absurd s
  shape_same (suc zero) few s u e =
      let f : datum_at w ≡ datum_at k = cc (shape_one b z w s, shape_one l m k u, e) in
      (omega (arith, s.0, u.0), omega (arith, s.1, u.1), datum_same w k f)
  shape_same (suc (suc zero)) few s u e =
      let f : datum_at z ≡ datum_at m = cc (shape_two b z w s, shape_two l m k u, e) in
      let g : datum_at w ≡ datum_at k = cc (shape_two b z w s, shape_two l m k u, e) in
      (omega (arith, s.0, u.0), datum_same z m f, datum_same w k g)
  shape_same (suc (suc (suc zero))) few s u e =
      let d : datum_at b ≡ datum_at l = cc (shape_three b z w s, shape_three l m k u, e) in
      let f : datum_at z ≡ datum_at m = cc (shape_three b z w s, shape_three l m k u, e) in
      let g : datum_at w ≡ datum_at k = cc (shape_three b z w s, shape_three l m k u, e) in
      (datum_same b l d, datum_same z m f, datum_same w k g)
  shape_same (suc (suc (suc (suc n)))) few s u e = absurd (omega arith)

-- The order

before_cell : (c d : ℕ) → datum_before (datum_at c) (datum_at d) ≡ true → c < d
unfolding datum_before datum_at
before_cell c d h =
    ⊎_elim (λ (s : ltb (c / 64) (d / 64) ≡ true). omega (arith, ltb-true (c / 64) (d / 64) s))
    (λ (s : (eqb (c / 64) (d / 64) && ltb (c % 64) (d % 64)) ≡ true).
    let b = and_both (eqb (c / 64) (d / 64)) (ltb (c % 64) (d % 64)) s in
    let e : c / 64 ≡ d / 64 = eqb-true (c / 64) (d / 64) b.0 in
    omega (arith, ltb-true (c % 64) (d % 64) b.1))
    (or_either (ltb (c / 64) (d / 64)) (eqb (c / 64) (d / 64) && ltb (c % 64) (d % 64)) h)

same_cell : (c d : ℕ) → same_datum (datum_at c) (datum_at d) ≡ true → c ≡ d
unfolding same_datum datum_at
same_cell c d h =
    let b = and_both (eqb (c / 64) (d / 64)) (eqb (c % 64) (d % 64)) h in
    let e : c / 64 ≡ d / 64 = eqb-true (c / 64) (d / 64) b.0 in
    let f : c % 64 ≡ d % 64 = eqb-true (c % 64) (d % 64) b.1 in
    omega arith

step : (c d : ℕ) (b t : Bool)
    → (datum_before (datum_at c) (datum_at d) || (same_datum (datum_at c) (datum_at d) && b)) ≡ true
    → (b ≡ true → t ≡ true)
    → (ltb c d || (eqb c d && t)) ≡ true
step c d b t h more =
    ⊎_elim (λ (s : datum_before (datum_at c) (datum_at d) ≡ true). rw (lt-ltb c d (before_cell c d s)))
    (λ (s : (same_datum (datum_at c) (datum_at d) && b) ≡ true).
    let p = and_both (same_datum (datum_at c) (datum_at d)) b s in
    rw (eq-eqb c d (same_cell c d p.0), more p.1) (or_true (ltb c d)))
    (or_either (datum_before (datum_at c) (datum_at d)) (same_datum (datum_at c) (datum_at d) && b) h)

-- associations of one, two and three
before_one : (w k : ℕ) → association_before (datum_at w ∷ []) (datum_at k ∷ []) ≡ true → ltb w k ≡ true
unfolding association_before
before_one w k h = rw (and_false, or_end) at (step w k false false h (λ e. e))

before_two :
    (z w m k : ℕ)
    → association_before (datum_at z ∷ datum_at w ∷ []) (datum_at m ∷ datum_at k ∷ []) ≡ true
    → (ltb z m || (eqb z m && ltb w k)) ≡ true
unfolding association_before
before_two z w m k h =
    step z m (association_before (datum_at w ∷ []) (datum_at k ∷ [])) (ltb w k) h (before_one w k)

before_three :
    (b z w l m k : ℕ)
    → association_before (datum_at b ∷ datum_at z ∷ datum_at w ∷ []) (datum_at l ∷ datum_at m ∷ datum_at k ∷ []) ≡ true
    → triple_before b z w l m k ≡ true
unfolding association_before triple_before
before_three b z w l m k h =
    step b l (association_before (datum_at z ∷ datum_at w ∷ []) (datum_at m ∷ datum_at k ∷ []))
    (ltb z m || (eqb z m && ltb w k)) h (before_two z w m k)

module _ (b z w l m k : ℕ) where
  -- an earlier association has earlier cells
  pub shape_before :
      (n : ℕ)
      → n ≤ 3
      → Shape n b z w
      → Shape n l m k
      → association_before (association_at b z w) (association_at l m k) ≡ true
      → triple_before b z w l m k ≡ true
  unfolding Shape triple_before
  shape_before zero few s u h = absurd s
  shape_before (suc zero) few s u h =
      rw (s.0, s.1, u.0, u.1) (before_one w k (rw (shape_one b z w s, shape_one l m k u) at h))
  shape_before (suc (suc zero)) few s u h =
      rw (s.0, u.0) (before_two z w m k (rw (shape_two b z w s, shape_two l m k u) at h))
  shape_before (suc (suc (suc zero))) few s u h =
      before_three b z w l m k (rw (shape_three b z w s, shape_three l m k u) at h)
  shape_before (suc (suc (suc (suc n)))) few s u h = absurd (omega arith)
