-- Laws of the search over users: the rules that cover a user, and masks of rules that leave nothing to find.
-- Assumes nothing.
use Prim.Native.Nat.{ℕ, ◌+◌, ◌-◌, ◌^◌, ◌≤◌, ◌<◌}
use native.Mathlib.Omega.{arith}
use mathlib.Core.Path.{◌≡◌, refl, sym, ap, ◌∙◌}
use mathlib.Core.Bool.{Bool, true, false, ◌&&◌, not}
use mathlib.Core.List.{List}
use lib.ListN.{length, get_or, set, length-set, get_or-eq_default}
use lib.Seq.{get_or-set_same, get_or-set_other}
use lib.Dec.{eqb, ltb}
use lib.Bits.{bit_and}
use borrow.Author.Tests.{eqb-true, eqb-false, ltb-true, ltb-false, lt-ltb}
use Rattle.std.specs.List.{list_any}
use Rattle.std.proofs.lemmas.List.{get_or_default}
use Rattle.std.proofs.lemmas.List.Folds.{Any-from_list_any}
use Rattle.book.specs.Sets.{has}
use Rattle.book.proofs.Lists.{and_true, and_right, same_test}
use Rattle.book.proofs.Members.{has_zero, has_minus}
use Rattle.search.specs.Inner.Closing.{Within}
use Rattle.search.specs.Inner.Search.{covers_in, others_for, solves, solves_for, Settles, Searched, SearchedFor}
use Rattle.search.specs.Inner.Search.{triple_before, AllSettle, NeedsFirst}
use Rattle.std.specs.Prelude.{Option, Some, None}
use Rattle.search.specs.declared.places.Places.{Places}
use Rattle.search.proofs.Sieves.{both}
use Rattle.search.proofs.Solutions.{fails, solves_fewer}
use Rattle.search.specs.declared.tables.RuleTable.{RuleTable}

-- The rules that cover a user

pub covers_past : (covered : List ℕ) (q u : ℕ) → length covered ≡ 32 → 32 ≤ q → false ≡ covers_in covered q u
covers_past covered q u size past =
    sym (ap (λ (w : ℕ). has w u) (get_or-eq_default covered 0 (omega arith)) ∙ has_zero u)

-- a set of what passes below n, and of nothing from there on
pub members_below :
    (f : ℕ → Bool) (n word : ℕ)
    → ((q : ℕ) → q < n → has word q ≡ f q)
    → ((q : ℕ) → n ≤ q → has word q ≡ false)
    → (q : ℕ)
    → has word q ≡ (ltb q n && f q)
members_below f n word below above q = go (ltb q n) refl
  where
    go : (b : Bool) → ltb q n ≡ b → has word q ≡ (b && f q)
    go true e = below q (ltb-true q n e)
    go false e = above q (ltb-false q n e)

-- Masks

-- the code's `mask & !rules == 0`
pub mask_within_law :
    (mask rules : ℕ)
    → mask < 2 ^ 64
    → rules < 2 ^ 64
    → bit_and mask ((2 ^ 64 - 1) - rules) ≡ 0
    → Within (has mask) (has rules)
mask_within_law mask rules lm lr e q h =
    go (has rules q) (rw h at (sym (has_minus 64 mask rules q lm lr) ∙ ap (λ (w : ℕ). has w q) e ∙ has_zero q))
  where
    go : (b : Bool) → not b ≡ false → b ≡ true
    go true n = refl
    go false n = sym n

-- some mask of 32 has nothing outside the set
pub some_mask_within :
    (masks : List ℕ) (rules : ℕ)
    → length masks ≡ 32
    → ((i : ℕ) → get_or masks i 0 < 2 ^ 64)
    → rules < 2 ^ 64
    → list_any (λ m. eqb (bit_and m ((2 ^ 64 - 1) - rules)) 0) masks ≡ true
    → (i : ℕ) × (i < 32) × Within (has (get_or masks i 0)) (has rules)
some_mask_within masks rules size fits small e =
    let some = Any-from_list_any (λ m. eqb (bit_and m ((2 ^ 64 - 1) - rules)) 0) masks e in
    let at : get_or masks some.0 0 ≡ some.1 = get_or_default masks some.0 0 some.1 some.2 ∙ some.3 in
    let word = get_or masks some.0 0 in (
      some.0,
      omega (arith, some.2, size),
      mask_within_law word rules (fits some.0) small (rw at (eqb-true (bit_and some.1 ((2 ^ 64 - 1) - rules)) 0 some.4)),
    )

module _ (t : List RuleTable) (r n : ℕ) (had : List ℕ) where
  -- a mask with all bits
  pub unsettled : Settles t r n had 18446744073709551615
  unfolding has
  unsettled h = both refl h

  module _ (covered : List ℕ) (u : ℕ) where
    pub uncovered : covers_in covered r u ≡ false → (a y x : ℕ) → solves_for t r n had covered u a y x ≡ false
    unfolding solves_for
    uncovered h a y x = rw h

    module _ (rules : ℕ) (others : (q : ℕ) → has rules q ≡ (ltb q 32 && others_for r covered u q)) where
      -- the rules that cover the user, as a word and as a test
      there : (a y x : ℕ) → solves t r n had (has rules) a y x ≡ true
          → solves t r n had (others_for r covered u) a y x ≡ true
      there a y x =
          solves_fewer t r n (others_for r covered u) (has rules)
          (λ q l h. others q ∙ and_true (ltb q 32) (others_for r covered u q) (lt-ltb q 32 l) h) a y x had

      back : (a y x : ℕ) → solves t r n had (others_for r covered u) a y x ≡ true
          → solves t r n had (has rules) a y x ≡ true
      back a y x =
          solves_fewer t r n (has rules) (others_for r covered u)
          (λ q l h. and_right (ltb q 32) (others_for r covered u q) (sym (others q) ∙ h)) a y x had

      -- for a user whom r covers
      pub solves_for_law :
          covers_in covered r u ≡ true
          → (a y x : ℕ)
          → solves t r n had (has rules) a y x ≡ solves_for t r n had covered u a y x
      unfolding solves_for
      solves_for_law covers a y x =
          rw covers
          (same_test (solves t r n had (has rules) a y x) (solves t r n had (others_for r covered u) a y x) (there a y x)
          (back a y x))

      -- a set of rules within these that leaves no three places
      pub settled_none :
          (mask : ℕ)
          → Settles t r n had mask
          → Within (has mask) (has rules)
          → (a y x : ℕ)
          → solves_for t r n had covered u a y x ≡ false
      unfolding solves_for
      settled_none mask settles within a y x =
          fails (solves_for t r n had covered u a y x)
          (λ h.
          both
          (solves_fewer t r n (has mask) (has rules) (λ q l. within q) a y x had
          (back a y x (and_right (covers_in covered r u) (solves t r n had (others_for r covered u) a y x) h)))
          (settles (fails (has mask 63) (λ m. both (within 63 m) (others 63))) a y x))

      pub searched_for :
          (marked : ℕ) (s : Option Places)
          → covers_in covered r u ≡ true
          → Searched (solves t r n had) rules 0 marked s
          → SearchedFor t r n had covered u marked s
      unfolding Searched SearchedFor solves_for
      searched_for marked (Some at) covers found =
          record {
            solution =
                and_true (covers_in covered r u)
                (solves t r n had (others_for r covered u) at.first at.second at.third) covers
                (there at.first at.second at.third found.solution);
            earliest = λ b z w h.
                fails (solves_for t r n had covered u b z w)
                (λ s.
                both (back b z w (and_right (covers_in covered r u) (solves t r n had (others_for r covered u) b z w)
                s))
                (found.earliest b z w h));
          }
      searched_for marked None covers none =
          let settles : Settles t r n had marked = λ h. none.none in (
            λ a y x.
                fails (solves_for t r n had covered u a y x)
                (λ h.
                both
                (solves_fewer t r n (has marked) (has rules) (λ q l m. none.only q m (has_zero q)) a y x had
                (back a y x (and_right (covers_in covered r u) (solves t r n had (others_for r covered u) a y x) h)))
                (none.none a y x)),
            settles,
          )

  -- nothing to search for
  pub nothing_for :
      (covered : List ℕ) (u : ℕ)
      → ((a y x : ℕ) → solves_for t r n had covered u a y x ≡ false)
      → SearchedFor t r n had covered u 18446744073709551615 None
  unfolding SearchedFor
  nothing_for covered u none = (none, unsettled)

-- One user after the other

-- no user before u has a solution, and the masks say what they found
pub record Users (t : List RuleTable) (r n : ℕ) (had covered masks : List ℕ) (u : ℕ) : Type 0 where
  pub bound : u ≤ 32
  pub size : length masks ≡ 32
  pub settle : AllSettle t r n had masks
  pub none : (v a y x : ℕ) → v < u → solves_for t r n had covered v a y x ≡ false

module _ (t : List RuleTable) (r n : ℕ) (had covered : List ℕ) where
  pub users_none :
      (masks : List ℕ)
      → length masks ≡ 32
      → ((i : ℕ) → i < 32 → get_or masks i 0 ≡ 18446744073709551615)
      → Users t r n had covered masks 0
  users_none masks size full =
      record {
        bound = omega arith;
        size = size;
        settle = λ i l. rw (full i l) (unsettled t r n had);
        none = λ v a y x l. absurd (omega arith);
      }

  module _
      (masks : List ℕ)
      (u : ℕ)
      (marked : ℕ)
      (s : Option Places)
      (small : u < 32)
      (old : Users t r n had covered masks u)
      (searched : SearchedFor t r n had covered u marked s)
    where
      pub users_more : s ≡ None → Users t r n had covered (set masks u marked) (u + 1)
      unfolding SearchedFor
      users_more e =
          let answer = rw e at searched in
          let size : length masks ≡ 32 = old.size in
          record {
            bound = omega arith;
            size = rw length-set size;
            settle = λ i l. here i l answer.1 (eqb i u) refl;
            none = λ v a y x l. before v a y x l answer.0 (eqb v u) refl;
          }
        where
          here :
              (i : ℕ)
              → i < 32
              → Settles t r n had marked
              → (b : Bool)
              → eqb i u ≡ b
              → Settles t r n had (get_or (set masks u marked) i 0)
          here i l new true f =
              let size : length masks ≡ 32 = old.size in
              rw (eqb-true i u f, get_or-set_same masks u marked 0 (omega arith)) new
          here i l new false f = rw (get_or-set_other masks u i marked 0 (eqb-false i u f)) (old.settle i l)

          before :
              (v a y x : ℕ)
              → v < u + 1
              → ((a y x : ℕ) → solves_for t r n had covered u a y x ≡ false)
              → (b : Bool)
              → eqb v u ≡ b
              → solves_for t r n had covered v a y x ≡ false
          before v a y x l new true f = rw (eqb-true v u f) (new a y x)
          before v a y x l new false f =
              let other = eqb-false v u f in
              old.none v a y x (omega arith)

      pub users_found :
          (at : Places)
          → s ≡ Some at
          → NeedsFirst triple_before t r n had covered (Some (record { user = u; places = at }))
      unfolding SearchedFor NeedsFirst
      users_found at e =
          record { below = small; found = rw e at searched; users = λ v b z w l. old.none v b z w l }

  pub users_end :
      (masks : List ℕ) (u : ℕ) → 32 ≤ u → Users t r n had covered masks u → NeedsFirst triple_before t r n had covered None
  unfolding NeedsFirst
  users_end masks u past old v a y x l = old.none v a y x (omega arith)
