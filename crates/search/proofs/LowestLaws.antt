-- Laws of the lowest number that passes a test. Assumes nothing.
use Prim.Native.Nat.{ℕ, zero, suc, ◌+◌, ◌≤◌, ◌<◌}
use native.Mathlib.Nat.{eq-or-lt_of_le}
use native.Mathlib.Omega.{arith}
use mathlib.Core.Path.{◌≡◌, refl}
use mathlib.Core.Logic.{⊎_elim}
use mathlib.Core.Bool.{Bool, true, false, ◌||◌, cond, false≢true}
use Rattle.std.specs.Option.{MatchOption, unwrap_or}
use Rattle.std.specs.Prelude.{Option, None, Some}
use Rattle.book.specs.Lists.{any, from, up_to}
use Rattle.search.specs.Shown.{lowest}

-- where a number passes, the lowest that does
module _ (f : ℕ → Bool) where
  lowest_from :
      (i n : ℕ) → any f (from i n) ≡ true → (lowest f (from i n) < i + n) × (f (lowest f (from i n)) ≡ true)
  unfolding any from lowest
  lowest_from i zero h = absurd (false≢true h)
  lowest_from i (suc n) h = go (f i) refl h (lowest_from (suc i) n)
    where
      go :
          (b : Bool)
          → f i ≡ b
          → (b || any f (from (suc i) n)) ≡ true
          → (any f (from (suc i) n) ≡ true
          → (lowest f (from (suc i) n) < suc i + n) × (f (lowest f (from (suc i) n)) ≡ true))
          → (cond b i (lowest f (from (suc i) n)) < i + suc n) × (f (cond b i (lowest f (from (suc i) n))) ≡ true)
      go true e h more = (omega arith, e)
      go false e h more =
          let r = more h in
          (omega (arith, r.0), r.1)

  pub lowest_passes : (n : ℕ) → any f (up_to n) ≡ true → (lowest f (up_to n) < n) × (f (lowest f (up_to n)) ≡ true)
  unfolding up_to
  lowest_passes n h =
      let r = lowest_from 0 n h in
      (omega (arith, r.0), r.1)

module _ (f : ℕ → Bool) where
  found_from :
      (i n c : ℕ)
      → i ≤ c
      → c < i + n
      → f c ≡ true
      → ((j : ℕ) → i ≤ j → j < c → f j ≡ false)
      → c ≡ lowest f (from i n)
  unfolding from lowest
  found_from i zero c lo hi h none = absurd (omega arith)
  found_from i (suc n) c lo hi h none =
      ⊎_elim
      (λ (e : i ≡ c). rw (e, h))
      (λ (l : i < c).
      rw (none i (omega arith) l) (found_from (suc i) n c l (omega arith) h (λ j a b. none j (omega arith) b)))
      (eq-or-lt_of_le lo)

  none_from : (i n : ℕ) → ((j : ℕ) → i ≤ j → j < i + n → f j ≡ false) → 0 ≡ lowest f (from i n)
  unfolding from lowest
  none_from i zero none = refl
  none_from i (suc n) none =
      rw (none i (omega arith) (omega arith)) (none_from (suc i) n (λ j a b. none j (omega arith) (omega arith)))

  -- the first number that passes is the lowest
  pub lowest_found : (n c : ℕ) → c < n → f c ≡ true → ((j : ℕ) → j < c → f j ≡ false) → c ≡ lowest f (up_to n)
  unfolding up_to
  lowest_found n c l h none = found_from 0 n c (omega arith) (omega arith) h (λ j a b. none j b)

  pub lowest_none : (n c : ℕ) → n ≤ c → ((j : ℕ) → j < c → f j ≡ false) → 0 ≡ lowest f (up_to n)
  unfolding up_to
  lowest_none n c l none = none_from 0 n (λ j a b. none j (omega arith))

  -- what `find` answers over a range from 0
  pub lowest_of :
      (n m : ℕ) (r : Option ℕ)
      → n ≡ m
      → MatchOption r ((k : ℕ) → 0 ≤ k → k < n → f k ≡ false)
      (λ i. (0 ≤ i) × (i < n) × (f i ≡ true) × ((k : ℕ) → 0 ≤ k → k < i → f k ≡ false))
      → unwrap_or r 0 ≡ lowest f (up_to m)
  lowest_of n m None e none = lowest_none m n (omega arith) (λ j l. none j (omega arith) l)
  lowest_of n m (Some i) e found = lowest_found m i (omega (arith, found.1)) found.2 (λ j l. found.3 j (omega arith) l)
