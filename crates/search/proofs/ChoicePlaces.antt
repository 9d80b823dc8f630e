-- Choices as three places, absent references first: each choice has its places, and the places have the choices' order
-- and their functions.
-- Assumes nothing.
use Prim.Native.Nat.{ℕ, zero, suc, ◌+◌, ◌*◌, ◌/◌, ◌%◌, ◌≤◌, ◌<◌}
use native.Mathlib.Nat.{add-zero, zero-add}
use native.Mathlib.Omega.{arith}
use mathlib.Core.Path.{◌≡◌, refl, sym, ap, ◌∙◌}
use mathlib.Core.Logic.{⊎_elim}
use mathlib.Core.Bool.{Bool, true, false, ◌&&◌, ◌||◌, cond, false≢true}
use mathlib.Core.List.{List, [], ◌∷◌, ◌++◌}
use lib.Dec.{eqb, ltb}
use borrow.Author.Tests.{eqb-true, eq-eqb, ltb-true, ltb-false, lt-ltb}
use Rattle.book.specs.Head.{data_count}
use Rattle.book.proofs.Accepted.{HeadHolds}
use Rattle.book.proofs.Lists.{and_both, and_false, and_left, and_right, and_true, or_either, or_end, or_otherwise}
use Rattle.book.proofs.Lists.{or_rest, or_true}
use Rattle.verdicts.specs.Accesses.{Access, fits, same}
use Rattle.verdicts.proofs.Accesses.{access, fits_bounds, same_equal}
use Rattle.search.specs.Obtainable.{can_be_had}
use Rattle.search.specs.Choices.{access_before, choice_before, is_choice_from, lighter, weight}
use Rattle.search.specs.Inner.Places.{access_at, choice_at, chosen_at, nowhere, place_of}
use Rattle.search.specs.Inner.Search.{reference_at, triple_before}
use Rattle.search.specs.Inner.Weight.{functions_at, lighter_places, weight_at}
use Rattle.search.proofs.Orders.{had_small}

-- Places

pub place_access : (p : ℕ) → place_of (access_at p) ≡ p
unfolding place_of access_at
place_access p = omega arith

module _ (x : Access) (s : x.channel < 2) (d : x.leaf < 64) (k : x.operation < 16) where
  pub place_below : place_of x < nowhere
  unfolding place_of
  place_below = omega arith

  pub access_place : access_at (place_of x) ≡ x
  unfolding place_of access_at
  access_place =
      let p = 1024 * x.channel + 16 * x.leaf + x.operation in
      let es : p / 1024 ≡ x.channel = omega arith in
      let ed : p / 16 % 64 ≡ x.leaf = omega arith in
      let ek : p % 16 ≡ x.operation = omega arith in
      let e : access (p / 1024) (p / 16 % 64) (p % 16) ≡ access x.channel x.leaf x.operation =
      rw (es, ed, ek) in
      e

module _ (p q : ℕ) where
  pub before_place : access_before (access_at p) (access_at q) ≡ true → p < q
  unfolding access_before access_at
  before_place h =
      ⊎_elim
      (λ (s : ltb (p / 1024) (q / 1024) ≡ true). omega (arith, ltb-true (p / 1024) (q / 1024) s))
      (λ (s : (eqb (p / 1024) (q / 1024) && leaves) ≡ true).
      let b = and_both (eqb (p / 1024) (q / 1024)) leaves s in
      let es : p / 1024 ≡ q / 1024 = eqb-true (p / 1024) (q / 1024) b.0 in
      ⊎_elim
      (λ (d : ltb (p / 16 % 64) (q / 16 % 64) ≡ true). omega (arith, ltb-true (p / 16 % 64) (q / 16 % 64) d))
      (λ (d : (eqb (p / 16 % 64) (q / 16 % 64) && ltb (p % 16) (q % 16)) ≡ true).
      let c = and_both (eqb (p / 16 % 64) (q / 16 % 64)) (ltb (p % 16) (q % 16)) d in
      let ed : p / 16 % 64 ≡ q / 16 % 64 = eqb-true (p / 16 % 64) (q / 16 % 64) c.0 in
      omega (arith, ltb-true (p % 16) (q % 16) c.1))
      (or_either (ltb (p / 16 % 64) (q / 16 % 64)) (eqb (p / 16 % 64) (q / 16 % 64) && ltb (p % 16) (q % 16)) b.1))
      (or_either (ltb (p / 1024) (q / 1024)) (eqb (p / 1024) (q / 1024) && leaves) h)
    where
      leaves : Bool
      leaves =
          ltb (p / 16 % 64) (q / 16 % 64) || (eqb (p / 16 % 64) (q / 16 % 64) && ltb (p % 16) (q % 16))

  pub same_place : same (access_at p) (access_at q) ≡ true → p ≡ q
  same_place h = sym (place_access p) ∙ ap place_of (same_equal (access_at p) (access_at q) h) ∙ place_access q

-- the access at a place, and at none
pub chosen_present : (p : ℕ) → p < nowhere → chosen_at p ≡ access_at p ∷ []
unfolding chosen_at
chosen_present p l = rw (lt-ltb p nowhere l)

pub chosen_absent : chosen_at nowhere ≡ []
unfolding chosen_at
chosen_absent = refl

-- Places that can be chosen

module _ (head rule : List ℕ) where
  -- place p can be chosen for reference j
  unfoldable pub stands : ℕ → ℕ → Bool
  stands j p = ltb p nowhere && (can_be_had head (access_at p) && fits head rule j (access_at p))

  -- and for the reference that stands i-th of n, absent ones first
  unfoldable pub stands_at : ℕ → ℕ → ℕ → Bool
  stands_at n i p = cond (ltb (reference_at n i) n) (stands (reference_at n i) p) (eqb p nowhere)

-- three places, one for each reference
pub record Stand (head rule : List ℕ) (n a y x : ℕ) : Type 0 where
  pub first : stands_at head rule n 0 a ≡ true
  pub second : stands_at head rule n 1 y ≡ true
  pub third : stands_at head rule n 2 x ≡ true

module _ (head rule : List ℕ) where
  stands_below : (j p : ℕ) → stands head rule j p ≡ true → p < nowhere
  unfolding stands
  stands_below j p h =
      ltb-true p nowhere
      (and_left (ltb p nowhere) (can_be_had head (access_at p) && fits head rule j (access_at p)) h)

  stands_chosen :
      (j p : ℕ) → stands head rule j p ≡ true → (can_be_had head (access_at p) && fits head rule j (access_at p)) ≡ true
  unfolding stands
  stands_chosen j p h = and_right (ltb p nowhere) (can_be_had head (access_at p) && fits head rule j (access_at p)) h

  pub stands_most : (n i p : ℕ) → stands_at head rule n i p ≡ true → p ≤ nowhere
  unfolding stands_at
  stands_most n i p = go (ltb (reference_at n i) n)
    where
      go : (b : Bool) → cond b (stands head rule (reference_at n i) p) (eqb p nowhere) ≡ true → p ≤ nowhere
      go true h = omega (arith, stands_below (reference_at n i) p h)
      go false h = omega (arith, eqb-true p nowhere h)

  -- the choice at places, by the number of references
  module _ (a y x : ℕ) where
    pub stand_one : Stand head rule 1 a y x → (a ≡ nowhere) × (y ≡ nowhere) × (stands head rule 0 x ≡ true)
    unfolding stands_at
    stand_one s = (eqb-true a nowhere s.first, eqb-true y nowhere s.second, s.third)

    pub stand_two :
        Stand head rule 2 a y x → (a ≡ nowhere) × (stands head rule 0 y ≡ true) × (stands head rule 1 x ≡ true)
    unfolding stands_at
    stand_two s = (eqb-true a nowhere s.first, s.second, s.third)

    pub stand_three :
        Stand head rule 3 a y x
        → (stands head rule 0 a ≡ true) × (stands head rule 1 y ≡ true) × (stands head rule 2 x ≡ true)
    unfolding stands_at
    stand_three s = (s.first, s.second, s.third)

    pub choice_one : Stand head rule 1 a y x → choice_at a y x ≡ access_at x ∷ []
    unfolding choice_at
    choice_one s =
        let p = stand_one s in
        rw (p.0, p.1, chosen_absent, chosen_present x (stands_below 0 x p.2))

    pub choice_two : Stand head rule 2 a y x → choice_at a y x ≡ access_at y ∷ access_at x ∷ []
    unfolding choice_at
    choice_two s =
        let p = stand_two s in
        rw (
          p.0,
          chosen_absent,
          chosen_present y (stands_below 0 y p.1),
          chosen_present x (stands_below 1 x p.2),
        )

    pub choice_three : Stand head rule 3 a y x → choice_at a y x ≡ access_at a ∷ access_at y ∷ access_at x ∷ []
    unfolding choice_at
    choice_three s =
        let p = stand_three s in
        rw (
          chosen_present a (stands_below 0 a p.0),
          chosen_present y (stands_below 1 y p.1),
          chosen_present x (stands_below 2 x p.2),
        )

  -- places that can be chosen are a choice
  choose :
      (n i p : ℕ) (c : List Access)
      → stands head rule i p ≡ true
      → is_choice_from head rule n (suc i) c ≡ true
      → is_choice_from head rule (suc n) i (access_at p ∷ c) ≡ true
  unfolding is_choice_from
  choose n i p c s h = rw (stands_chosen i p s, h)

  choose_none : (i : ℕ) → is_choice_from head rule 0 i [] ≡ true
  unfolding is_choice_from
  choose_none i = refl

  pub places_choice :
      (n : ℕ)
      → 1 ≤ n
      → n ≤ 3
      → (a y x : ℕ)
      → Stand head rule n a y x
      → is_choice_from head rule n 0 (choice_at a y x) ≡ true
  places_choice zero lo hi a y x s = absurd (omega arith)
  places_choice (suc zero) lo hi a y x s =
      let p = stand_one a y x s in
      rw (choice_one a y x s) (choose 0 0 x [] p.2 (choose_none 1))
  places_choice (suc (suc zero)) lo hi a y x s =
      let p = stand_two a y x s in
      rw (choice_two a y x s) (choose 1 0 y (access_at x ∷ []) p.1 (choose 0 1 x [] p.2 (choose_none 2)))
  places_choice (suc (suc (suc zero))) lo hi a y x s =
      let p = stand_three a y x s in
      rw (choice_three a y x s)
      (choose 2 0 a (access_at y ∷ access_at x ∷ []) p.0
      (choose 1 1 y (access_at x ∷ []) p.1 (choose 0 2 x [] p.2 (choose_none 3))))
  places_choice (suc (suc (suc (suc n)))) lo hi a y x s = absurd (omega arith)

  -- and a choice has its places
  module _ (holds : HeadHolds head) where
    placed :
        (i : ℕ) (x : Access)
        → (can_be_had head x && fits head rule i x) ≡ true
        → (p : ℕ) × (x ≡ access_at p) × (stands head rule i p ≡ true)
    unfolding stands
    placed i x h =
        let b = and_both (can_be_had head x) (fits head rule i x) h in
        let f = fits_bounds head rule i x b.1 in
        let most : data_count head ≤ 64 = holds.data_most in
        let d : x.leaf < 64 = omega (arith, f.1) in
        let k = had_small head holds x b.0 in
        let e = access_place x f.0 d k in
        (place_of x, sym e, rw (e, lt-ltb (place_of x) nowhere (place_below x f.0 d k)) h)

    chosen :
        (n i : ℕ) (c : List Access)
        → is_choice_from head rule (suc n) i c ≡ true
        → (p : ℕ)
        × (d : List Access)
        × (c ≡ access_at p ∷ d)
        × (stands head rule i p ≡ true)
        × (is_choice_from head rule n (suc i) d ≡ true)
    unfolding is_choice_from
    chosen n i [] h = absurd (false≢true h)
    chosen n i (x ∷ c) h =
        let b = and_both (can_be_had head x && fits head rule i x) (is_choice_from head rule n (suc i) c) h in
        let p = placed i x b.0 in
        (p.0, c, ap (λ (z : Access). z ∷ c) p.1, p.2, b.1)

    chosen_none : (i : ℕ) (c : List Access) → is_choice_from head rule 0 i c ≡ true → c ≡ []
    unfolding is_choice_from
    chosen_none i [] h = refl
    chosen_none i (x ∷ c) h = absurd (false≢true h)

    pub choice_places :
        (n : ℕ)
        → 1 ≤ n
        → n ≤ 3
        → (c : List Access)
        → is_choice_from head rule n 0 c ≡ true
        → (a y x : ℕ) × (c ≡ choice_at a y x) × Stand head rule n a y x
    unfolding stands_at
    choice_places zero lo hi c h = absurd (omega arith)
    choice_places (suc zero) lo hi c h =
        let p = chosen 0 0 c h in
        let s : Stand head rule 1 nowhere nowhere p.0 = record { first = refl; second = refl; third = p.3 } in (
          nowhere,
          nowhere,
          p.0,
          cc (choice_one nowhere nowhere p.0 s, p.2, chosen_none 1 p.1 p.4),
          s,
        )
    choice_places (suc (suc zero)) lo hi c h =
        let p = chosen 1 0 c h in
        let q = chosen 0 1 p.1 p.4 in
        let s : Stand head rule 2 nowhere p.0 q.0 = record { first = refl; second = p.3; third = q.3 } in (
          nowhere,
          p.0,
          q.0,
          cc (choice_two nowhere p.0 q.0 s, p.2, q.2, chosen_none 2 q.1 q.4),
          s,
        )
    choice_places (suc (suc (suc zero))) lo hi c h =
        let p = chosen 2 0 c h in
        let q = chosen 1 1 p.1 p.4 in
        let r = chosen 0 2 q.1 q.4 in
        let s : Stand head rule 3 p.0 q.0 r.0 = record { first = p.3; second = q.3; third = r.3 } in (
          p.0,
          q.0,
          r.0,
          cc (choice_three p.0 q.0 r.0 s, p.2, q.2, r.2, chosen_none 3 r.1 r.4),
          s,
        )
    choice_places (suc (suc (suc (suc n)))) lo hi c h = absurd (omega arith)

-- The order

step : (p q : ℕ) (b c : Bool)
    → (access_before (access_at p) (access_at q) || (same (access_at p) (access_at q) && b)) ≡ true
    → (b ≡ true → c ≡ true)
    → (ltb p q || (eqb p q && c)) ≡ true
step p q b c h more =
    ⊎_elim (λ (s : access_before (access_at p) (access_at q) ≡ true). rw (lt-ltb p q (before_place p q s)))
    (λ (s : (same (access_at p) (access_at q) && b) ≡ true).
    let t = and_both (same (access_at p) (access_at q)) b s in
    rw (eq-eqb p q (same_place p q t.0), more t.1) (or_true (ltb p q)))
    (or_either (access_before (access_at p) (access_at q)) (same (access_at p) (access_at q) && b) h)

step_last : (p q : ℕ)
    → (access_before (access_at p) (access_at q) || (same (access_at p) (access_at q) && false)) ≡ true
    → ltb p q ≡ true
step_last p q h = rw (and_false, or_end) at (step p q false false h (λ e. e))

-- choices of one, two and three
before_one : (w x : ℕ) → choice_before (access_at w ∷ []) (access_at x ∷ []) ≡ true → ltb w x ≡ true
unfolding choice_before
before_one w x h = step_last w x h

before_two :
    (z w y x : ℕ)
    → choice_before (access_at z ∷ access_at w ∷ []) (access_at y ∷ access_at x ∷ []) ≡ true
    → (ltb z y || (eqb z y && ltb w x)) ≡ true
unfolding choice_before
before_two z w y x h =
    step z y (choice_before (access_at w ∷ []) (access_at x ∷ [])) (ltb w x) h (before_one w x)

before_three :
    (b z w a y x : ℕ)
    → choice_before (access_at b ∷ access_at z ∷ access_at w ∷ []) (access_at a ∷ access_at y ∷ access_at x ∷ []) ≡ true
    → triple_before b z w a y x ≡ true
unfolding choice_before triple_before
before_three b z w a y x h =
    step b a (choice_before (access_at z ∷ access_at w ∷ []) (access_at y ∷ access_at x ∷ []))
    (ltb z y || (eqb z y && ltb w x)) h (before_two z w y x)

module _ (head rule : List ℕ) (b z w a y x : ℕ) where
  -- an earlier choice has earlier places
  pub before_triple :
      (n : ℕ)
      → 1 ≤ n
      → n ≤ 3
      → Stand head rule n b z w
      → Stand head rule n a y x
      → choice_before (choice_at b z w) (choice_at a y x) ≡ true
      → triple_before b z w a y x ≡ true
  unfolding triple_before
  before_triple zero lo hi s u h = absurd (omega arith)
  before_triple (suc zero) lo hi s u h =
      let p = stand_one head rule b z w s in
      let q = stand_one head rule a y x u in
      rw (p.0, p.1, q.0, q.1)
      (before_one w x (rw (choice_one head rule b z w s, choice_one head rule a y x u) at h))
  before_triple (suc (suc zero)) lo hi s u h =
      let p = stand_two head rule b z w s in
      let q = stand_two head rule a y x u in
      rw (p.0, q.0)
      (before_two z w y x (rw (choice_two head rule b z w s, choice_two head rule a y x u) at h))
  before_triple (suc (suc (suc zero))) lo hi s u h =
      before_three b z w a y x (rw (choice_three head rule b z w s, choice_three head rule a y x u) at h)
  before_triple (suc (suc (suc (suc n)))) lo hi s u h = absurd (omega arith)

-- Functions

weight_append : (c d : List Access) → weight (c ++ d) ≡ weight c + weight d
unfolding weight
weight_append [] d = sym (zero-add (weight d))
weight_append (x ∷ c) d =
    let more = weight_append c d in
    rw more (omega arith)

-- the place of an absent reference has none
weight_chosen : (p : ℕ) → p ≤ nowhere → weight (chosen_at p) ≡ functions_at p
unfolding weight chosen_at access_at functions_at
weight_chosen p most = go (ltb p nowhere) refl
  where
    go : (b : Bool) → ltb p nowhere ≡ b → weight (cond b (access_at p ∷ []) []) ≡ functions_at p
    go true e = add-zero (cond (eqb (p % 16) 0) 0 1)
    go false e =
        let l = ltb-false p nowhere e in
        let absent : p ≡ 2048 = omega arith in
        rw absent

module _ (head rule : List ℕ) where
  weight_places : (n a y x : ℕ) → Stand head rule n a y x → weight (choice_at a y x) ≡ weight_at a y x
  unfolding choice_at weight_at
  weight_places n a y x s =
      let most = stands_most head rule n in
      rw (
        weight_append (chosen_at a) (chosen_at y ++ chosen_at x),
        weight_append (chosen_at y) (chosen_at x),
        weight_chosen a (most 0 a s.first),
        weight_chosen y (most 1 y s.second),
        weight_chosen x (most 2 x s.third),
      )

  -- a lighter choice has lighter places
  pub lighter_triple :
      (b z w a y x n : ℕ)
      → 1 ≤ n
      → n ≤ 3
      → Stand head rule n b z w
      → Stand head rule n a y x
      → lighter (choice_at b z w) (choice_at a y x) ≡ true
      → lighter_places b z w a y x ≡ true
  unfolding lighter lighter_places
  lighter_triple b z w a y x n lo hi s u h =
      go (rw (weight_places n b z w s, weight_places n a y x u) at h)
    where
      go :
          (ltb (weight_at b z w) (weight_at a y x)
          || (eqb (weight_at b z w) (weight_at a y x) && choice_before (choice_at b z w) (choice_at a y x)))
          ≡ true
          → (ltb (weight_at b z w) (weight_at a y x)
          || (eqb (weight_at b z w) (weight_at a y x) && triple_before b z w a y x))
          ≡ true
      go k =
          or_otherwise (ltb (weight_at b z w) (weight_at a y x))
          (eqb (weight_at b z w) (weight_at a y x) && triple_before b z w a y x)
          (λ not_less.
          let p =
          and_both (eqb (weight_at b z w) (weight_at a y x)) (choice_before (choice_at b z w) (choice_at a y x))
          (or_rest (ltb (weight_at b z w) (weight_at a y x))
          (eqb (weight_at b z w) (weight_at a y x) && choice_before (choice_at b z w) (choice_at a y x)) k not_less) in
          and_true (eqb (weight_at b z w) (weight_at a y x)) (triple_before b z w a y x) p.0
          (before_triple head rule b z w a y x n lo hi s u p.1))
