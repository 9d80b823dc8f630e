-- Laws of accesses: when two are the same, which a book has categories for, and which of these fit a reference.
-- Assumes nothing.
use Prim.Native.Nat.{ℕ, zero, suc, ◌≤◌, ◌<◌}
use native.Mathlib.Omega.{arith}
use mathlib.Core.Path.{◌≡◌, refl, sym, ◌∙◌}
use mathlib.Core.Logic.{◌⊎◌, inl, inr, ⊎_elim}
use mathlib.Core.Bool.{Bool, true, false, ◌&&◌, ◌||◌, not, false≢true}
use mathlib.Core.List.{List, map}
use Rattle.std.specs.Prelude.{Option, Some, None}
use lib.Dec.{eqb, ltb}
use borrow.Author.Tests.{eqb-true, eqb-false, eq-eqb, lt-ltb, ltb-true, ltb-false}
use Rattle.book.specs.Lists.{flat, any, all, up_to}
use Rattle.book.specs.Hierarchies.{leaf, covers}
use Rattle.book.specs.Head.{data_count, data_parent, is_data_leaf}
use Rattle.book.specs.Rule.{action, data_category, exclusions, in_leaf_set, reference_count}
use Rattle.book.specs.declared.Action.{Action}
use Rattle.book.proofs.Lists.{and_left, and_right, and_both, any_map, map_all, any_found, same_test}
use Rattle.lineage.specs.declared.rows.Channel.{Channel}
use Rattle.lineage.specs.declared.rows.Channel.TheVariants as done
use Rattle.verdicts.specs.Actions.{action_fits, channel_fits, number_of}
use Rattle.verdicts.specs.Accesses.{Access, Accesses, same, every_access, fits, fitting}
use Rattle.verdicts.proofs.Quantifiers.{any_flat, flat_all, any_keep, all_below, at_any}

-- Accesses by their parts

abbrev pub access : ℕ → ℕ → ℕ → Access
access s d k = record { channel = s; leaf = d; operation = k }

pub same_equal : (x y : Access) → same x y ≡ true → x ≡ y
unfolding same
same_equal x y h =
    let a =
    and_both (eqb x.channel y.channel) (eqb x.leaf y.leaf && eqb x.operation y.operation) h in
    let b = and_both (eqb x.leaf y.leaf) (eqb x.operation y.operation) a.1 in
    let e : access x.channel x.leaf x.operation ≡ access y.channel y.leaf y.operation =
    rw (
      eqb-true x.channel y.channel a.0,
      eqb-true x.leaf y.leaf b.0,
      eqb-true x.operation y.operation b.1,
    ) in
    e

pub same_self : (x : Access) → same x x ≡ true
unfolding same
same_self x =
    rw (
      eq-eqb x.channel x.channel refl,
      eq-eqb x.leaf x.leaf refl,
      eq-eqb x.operation x.operation refl,
    )

-- Known accesses

-- a book has categories for the access
unfoldable pub known : List ℕ → Access → Bool
known head x = ltb x.channel 2 && (ltb x.leaf (data_count head) && ltb x.operation 16)

pub known_bounds :
    (head : List ℕ) (x : Access)
    → known head x ≡ true
    → (x.channel < 2) × (x.leaf < data_count head) × (x.operation < 16)
unfolding known
known_bounds head x h =
    let a = and_both (ltb x.channel 2) (ltb x.leaf (data_count head) && ltb x.operation 16) h in
    let b = and_both (ltb x.leaf (data_count head)) (ltb x.operation 16) a.1 in (
      ltb-true x.channel 2 a.0,
      ltb-true x.leaf (data_count head) b.0,
      ltb-true x.operation 16 b.1,
    )

pub every_known : (head : List ℕ) → all (known head) (every_access head) ≡ true
unfolding every_access known
every_known head =
    flat_all (known head) (λ s. flat (λ d. map (access s d) (up_to 16)) (up_to (data_count head))) (λ s. ltb s 2)
    (λ s hs.
    flat_all (known head) (λ d. map (access s d) (up_to 16)) (λ d. ltb d (data_count head))
    (λ d hd. map_all (known head) (access s d) (λ k. ltb k 16) (λ k hk. rw (hs, hd, hk)) (up_to 16) (all_below 16))
    (up_to (data_count head)) (all_below (data_count head)))
    (up_to 2) (all_below 2)

-- a known access is found by a test that it passes
pub in_every :
    (head : List ℕ) (x : Access) (p : Access → Bool)
    → known head x ≡ true
    → p x ≡ true
    → any p (every_access head) ≡ true
unfolding every_access
in_every head x p k h =
    any_flat p (λ s. flat (λ d. map (access s d) (up_to 16)) (up_to (data_count head))) (up_to 2)
    ∙ at_any (λ s. any p (flat (λ d. map (access s d) (up_to 16)) (up_to (data_count head)))) 2 x.channel bounds.0
    (any_flat p (λ d. map (access x.channel d) (up_to 16)) (up_to (data_count head))
    ∙ at_any (λ d. any p (map (access x.channel d) (up_to 16))) (data_count head) x.leaf bounds.1
    (any_map p (access x.channel x.leaf) (up_to 16)
    ∙ at_any (λ k. p (access x.channel x.leaf k)) 16 x.operation bounds.2 h))
  where
    bounds : (x.channel < 2) × (x.leaf < data_count head) × (x.operation < 16)
    bounds = known_bounds head x k

-- Actions and leaf sets

pub names_fits :
    (does : Channel) (action : Action) → channel_fits (number_of does) (Some action) ≡ action_fits does action
unfolding channel_fits
names_fits done.Projection action = refl
names_fits done.Condition action = refl

-- what fits some action is a projection or a condition
pub action_channel : (s : ℕ) (names : Option Action) → channel_fits s names ≡ true → s < 2
unfolding channel_fits
action_channel zero names h = omega arith
action_channel (suc zero) names h = omega arith
action_channel (suc (suc s)) (Some action) h = absurd (false≢true h)
action_channel (suc (suc s)) None h = absurd (false≢true h)

pub leaf_below : (head : List ℕ) (d : ℕ) → is_data_leaf head d ≡ true → d < data_count head
unfolding is_data_leaf leaf
leaf_below head d h =
    let others = all (λ j. eqb j d || not (eqb (data_parent head j) d)) (up_to (data_count head)) in
    ltb-true d (data_count head) (and_left (ltb d (data_count head)) others h)

pub leaf_set_below : (head rule : List ℕ) (i d : ℕ) → in_leaf_set head rule i d ≡ true → d < data_count head
unfolding in_leaf_set
leaf_set_below head rule i d h =
    leaf_below head d
    (and_left (is_data_leaf head d) (covers (data_parent head) (data_category rule i) (exclusions rule i) d) h)

-- The accesses that fit a reference

module _ (head rule : List ℕ) (i : ℕ) (x : Access) where
  -- what fits a reference has a channel and a leaf of the book
  pub fits_bounds : fits head rule i x ≡ true → (x.channel < 2) × (x.leaf < data_count head)
  unfolding fits
  fits_bounds h =
      let b = and_both (channel_fits x.channel (action rule i)) (in_leaf_set head rule i x.leaf) h in
      (action_channel x.channel (action rule i) b.0, leaf_set_below head rule i x.leaf b.1)

  pub fits_known : fits head rule i x ≡ true → x.operation < 16 → known head x ≡ true
  unfolding known
  fits_known h l =
      let b = fits_bounds h in
      rw (lt-ltb x.channel 2 b.0, lt-ltb x.leaf (data_count head) b.1, lt-ltb x.operation 16 l)

module _ (head rule : List ℕ) (accesses : Accesses) (i : ℕ) (p : Access → Bool) where
  pub any_fitting :
      any p (fitting head rule accesses i) ≡ any (λ x. accesses x && fits head rule i x && p x) (every_access head)
  unfolding fitting
  any_fitting = any_keep p (λ x. accesses x && fits head rule i x) (every_access head)

  -- an access among those that fit, and back
  pub in_fitting :
      (x : Access)
      → x.operation < 16
      → accesses x ≡ true
      → fits head rule i x ≡ true
      → p x ≡ true
      → any p (fitting head rule accesses i) ≡ true
  in_fitting x l a f h =
      any_fitting
      ∙ in_every head x (λ y. accesses y && fits head rule i y && p y) (fits_known head rule i x f l) (rw (a, f, h))

  pub found_fitting :
      any p (fitting head rule accesses i) ≡ true
      → (x : Access) × (accesses x ≡ true) × (fits head rule i x ≡ true) × (p x ≡ true) × (x.operation < 16)
  found_fitting h =
      let found =
      any_found (λ y. accesses y && fits head rule i y && p y) (known head) (every_access head)
      (sym any_fitting ∙ h) (every_known head) in
      let x = found.0 in
      let a = and_both (accesses x && fits head rule i x) (p x) found.1 in
      let b = and_both (accesses x) (fits head rule i x) a.0 in
      (x, b.0, b.1, a.1, (known_bounds head x found.2).2)

-- One reference alone

-- references share no leaf
abbrev pub Apart : List ℕ → List ℕ → Type 0
Apart head rule =
    (i j d : ℕ)
    → i < reference_count rule
    → j < i
    → in_leaf_set head rule i d ≡ true
    → in_leaf_set head rule j d ≡ true
    → ⊥

module _ (head rule : List ℕ) (apart : Apart head rule) (y : Access) where
  -- an access fits one reference alone
  pub fits_one :
      (i j : ℕ)
      → i < reference_count rule
      → j < reference_count rule
      → fits head rule i y ≡ true
      → fits head rule j y ≡ eqb i j
  unfolding fits
  fits_one i j li lj h =
      same_test (fits head rule j y) (eqb i j)
      (λ t. equal (eqb i j) refl (leaf i h) (leaf j t))
      (λ e. rw (eqb-true i j e) at h)
    where
      leaf : (n : ℕ) → fits head rule n y ≡ true → in_leaf_set head rule n y.leaf ≡ true
      leaf n t = and_right (channel_fits y.channel (action rule n)) (in_leaf_set head rule n y.leaf) t

      differ : (b : Bool) → ltb i j ≡ b → (i ≡ j → ⊥) → (i < j) ⊎ (j < i)
      differ true e n = inl (ltb-true i j e)
      differ false e n =
          let l : j ≤ i = ltb-false i j e in
          inr (omega arith)

      equal :
          (b : Bool)
          → eqb i j ≡ b
          → in_leaf_set head rule i y.leaf ≡ true
          → in_leaf_set head rule j y.leaf ≡ true
          → b ≡ true
      equal true e p q = refl
      equal false e p q =
          absurd
          (⊎_elim (λ (l : i < j). apart j i y.leaf lj l q p) (λ (l : j < i). apart i j y.leaf li l p q)
          (differ (ltb i j) refl (eqb-false i j e)))
