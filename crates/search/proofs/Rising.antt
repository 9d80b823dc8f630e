-- Laws of lists in rising order, of their members, and of the first member that passes a test. Assumes nothing.
use Prim.Native.Nat.{ℕ, zero, suc, ◌<◌}
use native.Mathlib.Omega.{arith}
use mathlib.Core.Path.{◌≡◌, refl, sym, subst, ◌∙◌}
use mathlib.Core.Logic.{◌⊎◌, inl, inr, ⊎_elim}
use mathlib.Core.Bool.{Bool, true, false, ◌&&◌, ◌||◌, false≢true}
use mathlib.Core.List.Memᴰ
use mathlib.Core.List.{List, [], ◌∷◌, ◌++◌, map, Memᴰ}
use lib.Dec.{eqb, ltb}
use borrow.Author.Tests.{eqb-true, eq-eqb, lt-ltb}
use Rattle.book.specs.Lists.{flat, all, any, from, up_to, keep}
use Rattle.book.proofs.Lists.{and_true, and_both, append_all, map_all, from_all, or_true}
use Rattle.verdicts.proofs.Quantifiers.{at_any}
use Rattle.search.specs.Alone.{First, none, shown, first_in}

-- Tests of a whole list

module _ {A : Type 0} (f : A → Bool) where
  pub all_every : ((x : A) → f x ≡ true) → (l : List A) → all f l ≡ true
  unfolding all
  all_every h [] = refl
  all_every h (x ∷ l) = and_true (f x) (all f l) (h x) (all_every h l)

  pub map_every : {B : Type 0} (g : B → A) → ((x : B) → f (g x) ≡ true) → (l : List B) → all f (map g l) ≡ true
  unfolding all
  map_every g h [] = refl
  map_every g h (x ∷ l) = and_true (f (g x)) (all f (map g l)) (h x) (map_every g h l)

  pub flat_every :
      {B : Type 0} (g : B → List A) → ((x : B) → all f (g x) ≡ true) → (l : List B) → all f (flat g l) ≡ true
  unfolding all flat
  flat_every g h [] = refl
  flat_every g h (x ∷ l) = append_all f (g x) (flat g l) (h x) (flat_every g h l)

  -- what is kept passes
  pub keep_passes : (l : List A) → all f (keep f l) ≡ true
  unfolding all keep
  keep_passes [] = refl
  keep_passes (x ∷ l) = go (f x) refl (keep_passes l)
    where
      go :
          (b : Bool)
          → f x ≡ b
          → all f (keep f l) ≡ true
          → all f (elim b as (λ t. List A) [ true ↦ x ∷ keep f l | false ↦ keep f l ]) ≡ true
      go true e h = and_true (f x) (all f (keep f l)) e h
      go false e h = h

  -- what all pass, those kept by another test pass
  pub keep_all : (g : A → Bool) (l : List A) → all f l ≡ true → all f (keep g l) ≡ true
  unfolding all keep
  keep_all g [] h = h
  keep_all g (x ∷ l) h =
      let b = and_both (f x) (all f l) h in
      go (g x) b.0 (keep_all g l b.1)
    where
      go :
          (b : Bool)
          → f x ≡ true
          → all f (keep g l) ≡ true
          → all f (elim b as (λ t. List A) [ true ↦ x ∷ keep g l | false ↦ keep g l ]) ≡ true
      go true e h = and_true (f x) (all f (keep g l)) e h
      go false e h = h

-- two tests that all pass make another one pass
pub all_two :
    {A : Type 0} (f g h : A → Bool)
    → ((x : A) → f x ≡ true → g x ≡ true → h x ≡ true)
    → (l : List A) → all f l ≡ true → all g l ≡ true → all h l ≡ true
unfolding all
all_two f g h e [] p q = refl
all_two f g h e (x ∷ l) p q =
    let a = and_both (f x) (all f l) p in
    let b = and_both (g x) (all g l) q in
    and_true (h x) (all h l) (e x a.0 b.0) (all_two f g h e l a.1 b.1)

-- a test that all pass makes another one pass
pub all_then :
    {A : Type 0} (f g : A → Bool)
    → ((x : A) → f x ≡ true → g x ≡ true)
    → (l : List A) → all f l ≡ true → all g l ≡ true
all_then f g e l h = all_two f f g (λ x p q. e x p) l h h

-- Members

module _ {A : Type 0} (f : A → Bool) where
  pub all_member : (l : List A) → all f l ≡ true → (x : A) → Memᴰ x l → f x ≡ true
  unfolding all
  all_member [] h x m = absurd (Memᴰ.not-nil m)
  all_member (y ∷ l) h x m =
      let b = and_both (f y) (all f l) h in
      ⊎_elim (λ (e : x ≡ y). rw e b.0) (λ (n : Memᴰ x l). all_member l b.1 x n) (Memᴰ.cases_cons m)

  pub member_all : (l : List A) → ((x : A) → Memᴰ x l → f x ≡ true) → all f l ≡ true
  unfolding all
  member_all [] h = refl
  member_all (x ∷ l) h =
      and_true (f x) (all f l) (h x (Memᴰ.head refl)) (member_all l (λ y m. h y (Memᴰ.tail m)))

  pub member_any : (l : List A) (x : A) → Memᴰ x l → f x ≡ true → any f l ≡ true
  unfolding any
  member_any [] x m h = absurd (Memᴰ.not-nil m)
  member_any (y ∷ l) x m h =
      ⊎_elim (λ (e : x ≡ y). rw (rw e at h))
      (λ (n : Memᴰ x l). rw (member_any l x n h) (or_true (f y))) (Memᴰ.cases_cons m)

  pub any_member : (l : List A) → any f l ≡ true → (x : A) × Memᴰ x l × (f x ≡ true)
  unfolding any
  any_member [] h = absurd (false≢true h)
  any_member (y ∷ l) h = go (f y) refl h (any_member l)
    where
      go :
          (b : Bool)
          → f y ≡ b
          → (b || any f l) ≡ true
          → (any f l ≡ true → (x : A) × Memᴰ x l × (f x ≡ true))
          → (x : A) × Memᴰ x (y ∷ l) × (f x ≡ true)
      go true e h more = (y, Memᴰ.head refl, e)
      go false e h more =
          let found = more h in
          (found.0, Memᴰ.tail found.1, found.2)

pub flat_member :
    {A B : Type 0} (g : B → List A) (l : List B) (x : B) (y : A)
    → Memᴰ x l → Memᴰ y (g x) → Memᴰ y (flat g l)
unfolding flat
flat_member g [] x y m n = absurd (Memᴰ.not-nil m)
flat_member g (z ∷ l) x y m n =
    ⊎_elim (λ (e : x ≡ z). Memᴰ.append_left (flat g l) (rw e at n))
    (λ (k : Memᴰ x l). Memᴰ.append_right (g z) (flat_member g l x y k n)) (Memᴰ.cases_cons m)

-- the list that a member of several lists joined comes from
pub flat_from :
    {A B : Type 0} (g : B → List A) (l : List B) (y : A)
    → Memᴰ y (flat g l)
    → (x : B) × Memᴰ x l × Memᴰ y (g x)
unfolding flat
flat_from g [] y m = absurd (Memᴰ.not-nil m)
flat_from g (z ∷ l) y m =
    ⊎_elim (λ (n : Memᴰ y (g z)). (z, Memᴰ.head refl, n))
    (λ (n : Memᴰ y (flat g l)).
    let found = flat_from g l y n in
    (found.0, Memᴰ.tail found.1, found.2))
    (Memᴰ.append_cases (g z) m)

pub up_to_member : (n j : ℕ) → j < n → Memᴰ j (up_to n)
up_to_member n j l =
    let found = any_member (eqb j) (up_to n) (at_any (eqb j) n j l (eq-eqb j j refl)) in
    Memᴰ.cast (eqb-true j found.0 found.2) found.1

-- what passes is kept
pub keep_member :
    {A : Type 0} (f : A → Bool) (l : List A) (x : A) → Memᴰ x l → f x ≡ true → Memᴰ x (keep f l)
unfolding keep
keep_member f [] x m h = absurd (Memᴰ.not-nil m)
keep_member {A} f (y ∷ l) x m h =
    go (f y) refl (Memᴰ.cases_cons m) (λ n. keep_member f l x n h)
  where
    go :
        (b : Bool)
        → f y ≡ b
        → (x ≡ y) ⊎ Memᴰ x l
        → (Memᴰ x l → Memᴰ x (keep f l))
        → Memᴰ x (elim b as (λ t. List A) [ true ↦ y ∷ keep f l | false ↦ keep f l ])
    go true e (inl q) more = Memᴰ.head q
    go true e (inr n) more = Memᴰ.tail (more n)
    go false e (inl q) more = absurd (false≢true (sym e ∙ (rw q at h)))
    go false e (inr n) more = more n

-- Rising order

-- each is before all that follow it
unfoldable pub rising : {A : Type 0} → (A → A → Bool) → List A → Bool
rising before [] = true
rising before (x ∷ l) = all (before x) l && rising before l

pub from_rising : (i n : ℕ) → rising ltb (from i n) ≡ true
unfolding rising from
from_rising i zero = refl
from_rising i (suc n) =
    and_true (all (ltb i) (from (suc i) n)) (rising ltb (from (suc i) n))
    (from_all (ltb i) (suc i) n (λ j lo hi. lt-ltb i j (omega arith))) (from_rising (suc i) n)

pub up_to_rising : (n : ℕ) → rising ltb (up_to n) ≡ true
unfolding up_to
up_to_rising n = from_rising 0 n

module _ {A : Type 0} (before : A → A → Bool) where
  pub rising_append :
      (s t : List A)
      → rising before s ≡ true
      → rising before t ≡ true
      → all (λ x. all (before x) t) s ≡ true
      → rising before (s ++ t) ≡ true
  unfolding rising all
  rising_append [] t p q h = q
  rising_append (x ∷ s) t p q h =
      let a = and_both (all (before x) s) (rising before s) p in
      let b = and_both (all (before x) t) (all (λ y. all (before y) t) s) h in
      and_true (all (before x) (s ++ t)) (rising before (s ++ t)) (append_all (before x) s t a.0 b.0)
      (rising_append s t a.1 q b.1)

  pub rising_keep : (f : A → Bool) (l : List A) → rising before l ≡ true → rising before (keep f l) ≡ true
  unfolding rising keep
  rising_keep f [] h = h
  rising_keep f (x ∷ l) h =
      let b = and_both (all (before x) l) (rising before l) h in
      go (f x) (keep_all (before x) f l b.0) (rising_keep f l b.1)
    where
      go :
          (b : Bool)
          → all (before x) (keep f l) ≡ true
          → rising before (keep f l) ≡ true
          → rising before (elim b as (λ t. List A) [ true ↦ x ∷ keep f l | false ↦ keep f l ]) ≡ true
      go true p q = and_true (all (before x) (keep f l)) (rising before (keep f l)) p q
      go false p q = q

  module _ {B : Type 0} (lower : B → B → Bool) where
    pub rising_map :
        (g : B → A)
        → ((x y : B) → lower x y ≡ true → before (g x) (g y) ≡ true)
        → (l : List B) → rising lower l ≡ true → rising before (map g l) ≡ true
    unfolding rising
    rising_map g e [] h = refl
    rising_map g e (x ∷ l) h =
        let b = and_both (all (lower x) l) (rising lower l) h in
        and_true (all (before (g x)) (map g l)) (rising before (map g l))
        (map_all (before (g x)) g (lower x) (e x) l b.0) (rising_map g e l b.1)

    module _ (g : B → List A)
        (apart : (x y : B) → lower x y ≡ true → all (λ a. all (before a) (g y)) (g x) ≡ true) where
      across : (x : B) (l : List B) → all (lower x) l ≡ true → all (λ a. all (before a) (flat g l)) (g x) ≡ true
      unfolding all flat
      across x [] h = all_every (λ a. true) (λ a. refl) (g x)
      across x (y ∷ l) h =
          let b = and_both (lower x y) (all (lower x) l) h in
          all_two (λ a. all (before a) (g y)) (λ a. all (before a) (flat g l)) (λ a. all (before a) (g y ++ flat g l))
          (λ a p q. append_all (before a) (g y) (flat g l) p q) (g x) (apart x y b.0) (across x l b.1)

      pub rising_flat :
          ((x : B) → rising before (g x) ≡ true)
          → (l : List B) → rising lower l ≡ true → rising before (flat g l) ≡ true
      unfolding rising flat
      rising_flat each [] h = refl
      rising_flat each (x ∷ l) h =
          let b = and_both (all (lower x) l) (rising lower l) h in
          rising_append (g x) (flat g l) (each x) (rising_flat each l b.1) (across x l b.0)

-- a list that rises in one order rises in another that agrees with it on what passes a test
pub rising_among :
    {A : Type 0} (f : A → Bool) (before lower : A → A → Bool)
    → ((x y : A) → f x ≡ true → f y ≡ true → lower x y ≡ true → before x y ≡ true)
    → (l : List A) → all f l ≡ true → rising lower l ≡ true → rising before l ≡ true
unfolding rising all
rising_among f before lower h [] p q = refl
rising_among f before lower h (x ∷ l) p q =
    let a = and_both (f x) (all f l) p in
    let b = and_both (all (lower x) l) (rising lower l) q in
    and_true (all (before x) l) (rising before l)
    (all_two f (lower x) (before x) (λ y i j. h x y a.0 i j) l a.1 b.0)
    (rising_among f before lower h l a.1 b.1)

-- A list parted by a number of its members, the lowest number first

module _ {A : Type 0} (key : A → ℕ) where
  abbrev pub parted : ℕ → List A → List A
  parted n l = flat (λ k. keep (λ x. eqb (key x) k) l) (up_to n)

  pub parted_all : (f : A → Bool) (n : ℕ) (l : List A) → all f l ≡ true → all f (parted n l) ≡ true
  parted_all f n l h =
      flat_every f (λ k. keep (λ x. eqb (key x) k) l) (λ k. keep_all f (λ x. eqb (key x) k) l h) (up_to n)

  pub parted_member : (n : ℕ) (l : List A) (x : A) → Memᴰ x l → key x < n → Memᴰ x (parted n l)
  parted_member n l x m h =
      flat_member (λ k. keep (λ y. eqb (key y) k) l) (up_to n) (key x) x (up_to_member n (key x) h)
      (keep_member (λ y. eqb (key y) (key x)) l x m (eq-eqb (key x) (key x) refl))

  module _ (before lower : A → A → Bool)
      (less : (x y : A) → ltb (key x) (key y) ≡ true → before x y ≡ true)
      (equal : (x y : A) → key x ≡ key y → lower x y ≡ true → before x y ≡ true) where
    pub parted_rising : (n : ℕ) (l : List A) → rising lower l ≡ true → rising before (parted n l) ≡ true
    parted_rising n l h =
        rising_flat before ltb (λ k. keep (λ x. eqb (key x) k) l) apart
        (λ k.
        rising_among (λ x. eqb (key x) k) before lower
        (λ x y i j. equal x y (eqb-true (key x) k i ∙ sym (eqb-true (key y) k j)))
        (keep (λ x. eqb (key x) k) l) (keep_passes (λ x. eqb (key x) k) l)
        (rising_keep lower (λ x. eqb (key x) k) l h))
        (up_to n) (up_to_rising n)
      where
        apart :
            (k m : ℕ)
            → ltb k m ≡ true
            → all (λ x. all (before x) (keep (λ y. eqb (key y) m) l)) (keep (λ x. eqb (key x) k) l) ≡ true
        apart k m q =
            all_then (λ x. eqb (key x) k) (λ x. all (before x) (keep (λ y. eqb (key y) m) l))
            (λ x i.
            all_then (λ y. eqb (key y) m) (before x)
            (λ y j. less x y (rw (eqb-true (key x) k i, eqb-true (key y) m j) q)) (keep (λ y. eqb (key y) m) l)
            (keep_passes (λ y. eqb (key y) m) l))
            (keep (λ x. eqb (key x) k) l) (keep_passes (λ x. eqb (key x) k) l)

-- The first that passes

module _ {A : Type 0} (f : A → Bool) where
  first_here : (x : A) (l : List A) → f x ≡ true → first_in f (x ∷ l) ≡ shown x
  unfolding first_in
  first_here x l e =
      subst (λ (b : Bool). (elim b as (λ t. First A) [ true ↦ shown x | false ↦ first_in f l ]) ≡ shown x) (sym e) refl

  first_later : (x : A) (l : List A) → f x ≡ false → first_in f (x ∷ l) ≡ first_in f l
  unfolding first_in
  first_later x l e =
      subst (λ (b : Bool). (elim b as (λ t. First A) [ true ↦ shown x | false ↦ first_in f l ]) ≡ first_in f l) (sym e)
      refl

  -- none passes, and none is first
  pub none_first : (l : List A) → ((x : A) → Memᴰ x l → f x ≡ false) → first_in f l ≡ none
  unfolding first_in
  none_first [] h = refl
  none_first (x ∷ l) h =
      first_later x l (h x (Memᴰ.head refl)) ∙ none_first l (λ y m. h y (Memᴰ.tail m))

  pub first_nothing : (l : List A) → first_in f l ≡ none → (x : A) → Memᴰ x l → f x ≡ false
  first_nothing [] h x m = absurd (Memᴰ.not-nil m)
  first_nothing (y ∷ l) h x m = go (f y) refl (λ e. first_nothing l e x)
    where
      unlike : none ≡ shown y → ⊥
      unlike e =
          let z : ◌≡◌ {A = ℕ} 0 1 = cc in
          omega arith

      go : (b : Bool) → f y ≡ b → (first_in f l ≡ none → Memᴰ x l → f x ≡ false) → f x ≡ false
      go true e more = absurd (unlike (sym h ∙ first_here y l e))
      go false e more =
          ⊎_elim (λ (q : x ≡ y). rw q e) (more (sym (first_later y l e) ∙ h)) (Memᴰ.cases_cons m)

  -- the one that passes with all before it failing is first
  pub shown_first :
      (before : A → A → Bool) (l : List A) (c : A)
      → rising before l ≡ true
      → Memᴰ c l
      → f c ≡ true
      → ((x : A) → Memᴰ x l → before x c ≡ true → f x ≡ false)
      → first_in f l ≡ shown c
  unfolding rising
  shown_first before [] c up m p h = absurd (Memᴰ.not-nil m)
  shown_first before (x ∷ l) c up m p h =
      let b = and_both (all (before x) l) (rising before l) up in
      ⊎_elim (λ (e : c ≡ x). rw e (first_here x l (rw e at p)))
      (λ (n : Memᴰ c l).
      first_later x l (h x (Memᴰ.head refl) (all_member (before x) l b.0 c n))
      ∙ shown_first before l c b.1 n p (λ y k. h y (Memᴰ.tail k)))
      (Memᴰ.cases_cons m)

  -- and back: it passes, and each other one that passes comes later
  pub first_something :
      (before : A → A → Bool) (l : List A) (c : A)
      → rising before l ≡ true
      → first_in f l ≡ shown c
      → Memᴰ c l
      × (f c ≡ true)
      × ((x : A) → Memᴰ x l → f x ≡ true → (x ≡ c) ⊎ (before c x ≡ true))
  unfolding rising first_in
  first_something before [] c up h =
      let z : ◌≡◌ {A = ℕ} 0 1 = cc in
      absurd (omega arith)
  first_something before (y ∷ l) c up h =
      let b = and_both (all (before y) l) (rising before l) up in
      go (f y) refl b.0 (first_something before l c b.1)
    where
      go :
          (t : Bool)
          → f y ≡ t
          → all (before y) l ≡ true
          → (first_in f l ≡ shown c
          → Memᴰ c l
          × (f c ≡ true)
          × ((x : A) → Memᴰ x l → f x ≡ true → (x ≡ c) ⊎ (before c x ≡ true)))
          → Memᴰ c (y ∷ l)
          × (f c ≡ true)
          × ((x : A) → Memᴰ x (y ∷ l) → f x ≡ true → (x ≡ c) ⊎ (before c x ≡ true))
      go true e later more =
          let s : shown y ≡ shown c = sym (first_here y l e) ∙ h in
          let q : y ≡ c = cc in (
            Memᴰ.head (sym q),
            rw q at e,
            λ x m p.
                ⊎_elim (λ (k : x ≡ y). inl (k ∙ q))
                (λ (k : Memᴰ x l). inr (rw q at (all_member (before y) l later x k))) (Memᴰ.cases_cons m),
          )
      go false e later more =
          let s = more (sym (first_later y l e) ∙ h) in (
            Memᴰ.tail s.0,
            s.1,
            λ x m p.
                ⊎_elim (λ (k : x ≡ y). absurd (false≢true (sym e ∙ (rw k at p)))) (λ (k : Memᴰ x l). s.2 x k p)
                (Memᴰ.cases_cons m),
          )
