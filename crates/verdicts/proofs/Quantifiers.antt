-- Laws of quantifiers: over the lists of `flat` and `keep`, and over the numbers below n with their witnesses.
-- Assumes nothing.
use Prim.Native.Nat.{ℕ, zero, suc, ◌+◌, ◌≤◌, ◌<◌}
use native.Mathlib.Numerals.{add-one}
use native.Mathlib.Omega.{arith}
use mathlib.Core.Path.{◌≡◌, refl, sym, ap, ◌∙◌}
use mathlib.Core.Bool.{Bool, true, false, ◌&&◌, ◌||◌}
use mathlib.Core.List.{List, [], ◌∷◌}
use lib.ListN.{length, get_or, take}
use lib.Seq.{take-suc}
use lib.Dec.{eqb, ltb}
use borrow.Author.Tests.{ltb-true, lt-ltb, eqb-true, eq-eqb}
use Rattle.std.specs.List.{list_any, range_with_len}
use Rattle.book.specs.Lists.{flat, any, all, from, up_to, keep}
use Rattle.book.proofs.Lists.{and_true, and_left, and_right, and_both, or_end, same_test}
use Rattle.book.proofs.Lists.{any_append, any_one, append_all, any_found, at_all, none_at, all_three}

-- Lists

module _ {A : Type 0} (f : A → Bool) where
  pub any_flat : {B : Type 0} (g : B → List A) (l : List B) → any f (flat g l) ≡ any (λ x. any f (g x)) l
  unfolding any flat
  any_flat g [] = refl
  any_flat g (x ∷ l) = any_append f (g x) (flat g l) ∙ rw (any_flat g l)

  pub flat_all :
      {B : Type 0} (g : B → List A) (h : B → Bool)
      → ((x : B) → h x ≡ true → all f (g x) ≡ true)
      → (l : List B) → all h l ≡ true → all f (flat g l) ≡ true
  unfolding all flat
  flat_all g h e [] p = refl
  flat_all g h e (x ∷ l) p =
      append_all f (g x) (flat g l) (e x (and_left (h x) (all h l) p))
      (flat_all g h e l (and_right (h x) (all h l) p))

  pub any_keep : (g : A → Bool) (l : List A) → any f (keep g l) ≡ any (λ x. g x && f x) l
  unfolding any keep
  any_keep g [] = refl
  any_keep g (x ∷ l) = go (g x) (any_keep g l)
    where
      go :
          (b : Bool)
          → any f (keep g l) ≡ any (λ y. g y && f y) l
          → any f (elim b as (λ t. List A) [ true ↦ x ∷ keep g l | false ↦ keep g l ])
          ≡ (b && f x || any (λ y. g y && f y) l)
      go true e = rw e
      go false e = e

-- the numbers from i + 1 up
any_from_next : (f : ℕ → Bool) (i n : ℕ) → any f (from (suc i) n) ≡ any (λ j. f (suc j)) (from i n)
unfolding any from
any_from_next f i zero = refl
any_from_next f i (suc n) = ap (λ b. f (suc i) || b) (any_from_next f (suc i) n)

-- a list by position
pub any_listed : {A : Type 0} (f : A → Bool) (d : A) (l : List A) → any f l ≡ any (λ j. f (get_or l j d)) (up_to (length l))
unfolding any from up_to
any_listed f d [] = refl
any_listed f d (x ∷ l) =
    ap (λ b. f x || b) (any_listed f d l ∙ sym (any_from_next (λ j. f (get_or (x ∷ l) j d)) 0 (length l)))

-- the first elements of a list, and one more
pub any_first :
    {A : Type 0} (f : A → Bool) (d : A) (l : List A) (i : ℕ)
    → i < length l
    → any f (take (i + 1) l) ≡ (any f (take i l) || f (get_or l i d))
any_first f d l i h = rw (add-one i, take-suc l i d h, any_append f, any_one f)

-- The numbers below n

-- a range of Rust's
pub any_ranged : (f : ℕ → Bool) (i n : ℕ) → list_any f (range_with_len i n) ≡ any f (from i n)
unfolding any from
any_ranged f i zero = refl
any_ranged f i (suc n) = rw (add-one i) (ap (λ b. f i || b) (any_ranged f (suc i) n))

pub all_below : (n : ℕ) → all (λ k. ltb k n) (up_to n) ≡ true
all_below n = at_all (λ k. ltb k n) n (λ j l. lt-ltb j n l)

-- a witness, and back
module _ (f : ℕ → Bool) (n : ℕ) where
  pub at_any : (j : ℕ) → j < n → f j ≡ true → any f (up_to n) ≡ true
  at_any j l h = go (any f (up_to n)) refl
    where
      go : (b : Bool) → any f (up_to n) ≡ b → b ≡ true
      go true e = refl
      go false e = sym (none_at f n e j l) ∙ h

  pub any_at : any f (up_to n) ≡ true → (j : ℕ) × (f j ≡ true) × (j < n)
  any_at h =
      let found = any_found f (λ k. ltb k n) (up_to n) h (all_below n) in
      (found.0, found.1, ltb-true found.0 n found.2)

-- tests with the same witnesses
pub any_witness :
    (f g : ℕ → Bool) (m n : ℕ)
    → ((j : ℕ) → j < m → f j ≡ true → (j < n) × (g j ≡ true))
    → ((j : ℕ) → j < n → g j ≡ true → (j < m) × (f j ≡ true))
    → any f (up_to m) ≡ any g (up_to n)
any_witness f g m n there back =
    same_test (any f (up_to m)) (any g (up_to n))
    (λ h.
    let w = any_at f m h in
    let v = there w.0 w.2 w.1 in
    at_any g n w.0 v.0 v.1)
    (λ h.
    let w = any_at g n h in
    let v = back w.0 w.2 w.1 in
    at_any f m w.0 v.0 v.1)

-- a test that only numbers below n pass
pub any_below : (f : ℕ → Bool) (n m : ℕ) → n ≤ m → any (λ j. ltb j n && f j) (up_to m) ≡ any f (up_to n)
any_below f n m h =
    any_witness (λ j. ltb j n && f j) f m n
    (λ j l e. (ltb-true j n (and_left (ltb j n) (f j) e), and_right (ltb j n) (f j) e))
    (λ j l e. (omega arith, and_true (ltb j n) (f j) (lt-ltb j n l) e))

-- a test that one number alone can pass
pub any_equal : (f : ℕ → Bool) (n m : ℕ) → m < n → any (λ k. eqb m k && f k) (up_to n) ≡ f m
any_equal f n m l =
    same_test (any (λ k. eqb m k && f k) (up_to n)) (f m)
    (λ h.
    let a = any_at (λ k. eqb m k && f k) n h in
    let b = and_both (eqb m a.0) (f a.0) a.1 in
    rw (eqb-true m a.0 b.0) b.1)
    (λ h. at_any (λ k. eqb m k && f k) n m l (and_true (eqb m m) (f m) (eq-eqb m m refl) h))

pub any_two : (f : ℕ → Bool) → any f (up_to 2) ≡ (f 0 || f 1)
unfolding any up_to from
any_two f = rw or_end

-- a test that passes from n on, of the three numbers
pub all_padded :
    (f : ℕ → Bool) (n : ℕ)
    → 1 ≤ n
    → n ≤ 3
    → ((i : ℕ) → n ≤ i → i < 3 → f i ≡ true)
    → all f (up_to n) ≡ (f 0 && (f 1 && f 2))
unfolding all up_to from
all_padded f zero lo hi h = absurd (omega arith)
all_padded f (suc zero) lo hi h = rw (h 1 (omega arith) (omega arith), h 2 (omega arith) (omega arith))
all_padded f (suc (suc zero)) lo hi h = rw (h 2 (omega arith) (omega arith))
all_padded f (suc (suc (suc zero))) lo hi h = all_three f
all_padded f (suc (suc (suc (suc n)))) lo hi h = absurd (omega arith)
