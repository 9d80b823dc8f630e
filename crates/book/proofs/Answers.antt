-- Laws of lists of tests: of the first that fails, of lists joined, of the tests of each block in turn, and of an answer by
-- its tests. Assumes nothing.
use Prim.Native.Nat.{ℕ, zero, suc, ◌+◌, ◌≤◌, ◌<◌}
use native.Mathlib.Nat.{eq-or-lt_of_le}
use native.Mathlib.Omega.{arith}
use mathlib.Core.Path.{◌≡◌, refl, sym, ◌∙◌}
use mathlib.Core.Logic.{⊎_elim}
use mathlib.Core.Bool.{Bool, true, false, cond, not}
use mathlib.Core.List.{List, [], ◌∷◌, ◌++◌}
use borrow.Author.Tests.{not-true, not-false}
use Rattle.book.specs.Lists.{flat, from, up_to}
use Rattle.std.specs.Prelude.{Result, Ok, Err, OnOk, IfErr}
use Rattle.std.specs.Result.{result_and}
use Rattle.book.specs.Tests.{Test, Outcome, Passes, first_failing, refused_or, answered}
use Rattle.book.specs.declared.refusal.Refusal.{Refusal}

-- nothing that refuses has passed
pub refused_passed : {A B : Type 0} (r : Refusal) (b : B) → ◌≡◌ {A = Result B Refusal} (Err r) (Ok b) → A
refused_passed r b h = let z : ◌≡◌ {A = ℕ} 0 1 = cc in absurd (omega arith)

-- One test

module _ (refusal : Refusal) (passed : Bool) (tests : List Test) where
  pub fails : not passed ≡ true → Err refusal ≡ first_failing ((refusal, passed) ∷ tests)
  unfolding first_failing
  fails e = rw (not-true passed e)

  pub passes : (r : Outcome) → not passed ≡ false → r ≡ first_failing tests → r ≡ first_failing ((refusal, passed) ∷ tests)
  unfolding first_failing
  passes r e rest = rw (not-false passed e) rest

pub none_fails : Ok tt ≡ first_failing []
unfolding first_failing
none_fails = refl

pub first_passed :
    (refusal : Refusal) (passed : Bool) (tests : List Test)
    → Passes ((refusal, passed) ∷ tests)
    → (passed ≡ true) × Passes tests
unfolding first_failing
first_passed refusal true tests h = (refl, h)
first_passed refusal false tests h = refused_passed refusal tt h

-- the last of a list
pub last_passed : (refusal : Refusal) (passed : Bool) → Passes ((refusal, passed) ∷ []) → passed ≡ true
last_passed refusal passed h = (first_passed refusal passed [] h).0

pub two_passed :
    (r s : Refusal) (a b : Bool) → Passes ((r, a) ∷ (s, b) ∷ []) → (a ≡ true) × (b ≡ true)
two_passed r s a b h =
    let first = first_passed r a ((s, b) ∷ []) h in
    (first.0, last_passed s b first.1)

-- Lists joined

pub first_append : (a b : List Test) → first_failing (a ++ b) ≡ result_and (first_failing a) (first_failing b)
unfolding first_failing
first_append [] b = refl
first_append (test ∷ a) b = go test.1 (first_append a b)
  where
    go :
        (passed : Bool)
        → first_failing (a ++ b) ≡ result_and (first_failing a) (first_failing b)
        → cond passed (first_failing (a ++ b)) (Err test.0)
        ≡ result_and (cond passed (first_failing a) (Err test.0)) (first_failing b)
    go true e = e
    go false e = refl

else_passed : (a b : Outcome) → result_and a b ≡ Ok tt → (a ≡ Ok tt) × (b ≡ Ok tt)
else_passed (Ok done) b h = (refl, h)
else_passed (Err r) b h = refused_passed r tt h

-- where all tests of two lists pass, those of each do
pub append_passed : (a b : List Test) → Passes (a ++ b) → Passes a × Passes b
append_passed a b h = else_passed (first_failing a) (first_failing b) (sym (first_append a b) ∙ h)

-- the first list's refusal is that of both
pub append_refused : (a b : List Test) (r : Refusal) → first_failing a ≡ Err r → first_failing (a ++ b) ≡ Err r
append_refused a b r h = rw (first_append a b, h)

-- a call's outcome from those of its parts
pub joined :
    (a b : List Test) (x y r : Outcome)
    → x ≡ first_failing a
    → y ≡ first_failing b
    → r ≡ result_and x y
    → r ≡ first_failing (a ++ b)
joined a b x y r ex ey er = rw (er, ex, ey) (sym (first_append a b))

-- the second outcome counts only where the first list passes
pub joined_after :
    (a b : List Test) (x y r : Outcome)
    → x ≡ first_failing a
    → (Passes a → y ≡ first_failing b)
    → r ≡ result_and x y
    → r ≡ first_failing (a ++ b)
joined_after a b x y r ex ey er = go (first_failing a) refl
  where
    go : (f : Outcome) → first_failing a ≡ f → r ≡ first_failing (a ++ b)
    go (Ok done) e = joined a b x y r ex (ey e) er
    go (Err refusal) e = rw (er, ex, first_append a b, e)

-- The tests of each block in turn

module _ (tests : ℕ → List Test) where
  flat_passed_from :
      (i n : ℕ) → ((j : ℕ) → i ≤ j → j < i + n → Passes (tests j)) → Passes (flat tests (from i n))
  unfolding flat from first_failing
  flat_passed_from i zero h = refl
  flat_passed_from i (suc n) h =
      rw (first_append (tests i) (flat tests (from (suc i) n)), h i (omega arith) (omega arith))
      (flat_passed_from (suc i) n (λ j lo hi. h j (omega arith) (omega arith)))

  flat_refused_from :
      (i n k : ℕ) (r : Refusal)
      → i ≤ k
      → k < i + n
      → ((j : ℕ) → i ≤ j → j < k → Passes (tests j))
      → first_failing (tests k) ≡ Err r
      → first_failing (flat tests (from i n)) ≡ Err r
  unfolding flat from
  flat_refused_from i zero k r lo hi h f = absurd (omega arith)
  flat_refused_from i (suc n) k r lo hi h f =
      ⊎_elim
      (λ (e : i ≡ k). rw (first_append (tests i) (flat tests (from (suc i) n)), e, f))
      (λ (l : i < k).
      rw (first_append (tests i) (flat tests (from (suc i) n)), h i (omega arith) l)
      (flat_refused_from (suc i) n k r l (omega arith) (λ j low high. h j (omega arith) high) f))
      (eq-or-lt_of_le lo)

  passed_flat_from :
      (i n : ℕ) → Passes (flat tests (from i n)) → (j : ℕ) → i ≤ j → j < i + n → Passes (tests j)
  unfolding flat from
  passed_flat_from i zero h j lo hi = absurd (omega arith)
  passed_flat_from i (suc n) h j lo hi =
      let both = append_passed (tests i) (flat tests (from (suc i) n)) h in
      ⊎_elim
      (λ (e : i ≡ j). rw e at both.0)
      (λ (l : i < j). passed_flat_from (suc i) n both.1 j l (omega arith))
      (eq-or-lt_of_le lo)

  -- where every block passes, all do
  pub flat_passed : (n : ℕ) → ((j : ℕ) → j < n → Passes (tests j)) → Passes (flat tests (up_to n))
  unfolding up_to
  flat_passed n h = flat_passed_from 0 n (λ j lo hi. h j (omega arith))

  -- the lowest block that fails is refused
  pub flat_refused :
      (n k : ℕ) (r : Refusal)
      → k < n
      → ((j : ℕ) → j < k → Passes (tests j))
      → first_failing (tests k) ≡ Err r
      → first_failing (flat tests (up_to n)) ≡ Err r
  unfolding up_to
  flat_refused n k r l h f = flat_refused_from 0 n k r (omega arith) (omega arith) (λ j lo hi. h j hi) f

  -- what has passed has passed every block
  pub passed_flat : (n : ℕ) → Passes (flat tests (up_to n)) → (j : ℕ) → j < n → Passes (tests j)
  unfolding up_to
  passed_flat n h j l = passed_flat_from 0 n h j (omega arith) (omega arith)

-- An answer by its tests

module _ {A : Type 0} (tests : List Test) (refused : Refusal → A) (value : A) where
  pub answered_passed : Passes tests → answered tests refused value ≡ value
  unfolding answered refused_or
  answered_passed h = rw h

  pub answered_refused : (r : Refusal) → first_failing tests ≡ Err r → answered tests refused value ≡ refused r
  unfolding answered refused_or
  answered_refused r h = rw h

-- where a first list passes, the second decides
pub answered_after :
    {A : Type 0} (a b : List Test) (refused : Refusal → A) (value : A)
    → Passes a
    → answered (a ++ b) refused value ≡ answered b refused value
unfolding answered
answered_after a b refused value h = rw (first_append a b, h)

-- One test after another, as `?` goes through them

-- a test that refuses ends the call
pub stopped :
    (refusal : Refusal) (passed : Bool) (tests : List Test) (r : Refusal) (outcome : Outcome)
    → outcome ≡ Err r
    → first_failing ((refusal, passed) ∷ []) ≡ Err r
    → outcome ≡ first_failing ((refusal, passed) ∷ tests)
unfolding first_failing
stopped refusal true tests r outcome e h = refused_passed r tt (sym h)
stopped refusal false tests r outcome e h = e ∙ sym h

-- one that passes leaves the rest to decide
pub went_on :
    (refusal : Refusal) (passed : Bool) (tests : List Test) (outcome : Outcome)
    → Passes ((refusal, passed) ∷ [])
    → outcome ≡ first_failing tests
    → outcome ≡ first_failing ((refusal, passed) ∷ tests)
unfolding first_failing
went_on refusal true tests outcome h e = e
went_on refusal false tests outcome h e = refused_passed refusal tt h

-- The same for a list of tests

pub list_stopped :
    (a b : List Test) (r : Refusal) (outcome : Outcome)
    → outcome ≡ Err r
    → first_failing a ≡ Err r
    → outcome ≡ first_failing (a ++ b)
list_stopped a b r outcome e h = e ∙ sym (append_refused a b r h)

pub list_went_on :
    (a b : List Test) (outcome : Outcome) → Passes a → outcome ≡ first_failing b → outcome ≡ first_failing (a ++ b)
list_went_on a b outcome h e = rw (first_append a b, h) e

-- The tests of each block, as `first_refusal` goes through them

-- P says what is known of the outcome for a block: what its tests give, once the lower blocks have passed
module _ (tests : ℕ → List Test) (n : ℕ) (P : ℕ → Outcome → Type 0)
    (step : (i : ℕ) (r : Outcome) → i < n → ((j : ℕ) → j < i → Passes (tests j)) → P i r → r ≡ first_failing (tests i)) where
  lower_passed : (m : ℕ) → m ≤ n → ((j : ℕ) → j < m → P j (Ok tt)) → (j : ℕ) → j < m → Passes (tests j)
  lower_passed zero l h j q = absurd (omega arith)
  lower_passed (suc m) l h j q =
      let low = lower_passed m (omega arith) (λ k t. h k (omega arith)) in
      ⊎_elim
      (λ (e : j ≡ m). rw e (sym (step m (Ok tt) (omega arith) low (h m (omega arith)))))
      (λ (t : j < m). low j t)
      (eq-or-lt_of_le (omega arith))

  pub walked :
      {A : Type 0} {B : Refusal → Type 0} (outcome : Outcome)
      → OnOk outcome A
      → IfErr outcome B
      → (A → (i : ℕ) → i < n → P i (Ok tt))
      → ((r : Refusal) → B r → (i : ℕ) × (i < n) × P i (Err r) × ((j : ℕ) → j < i → P j (Ok tt)))
      → outcome ≡ first_failing (flat tests (up_to n))
  walked (Ok done) passed refused f g =
      sym (flat_passed tests n (lower_passed n (omega arith) (f passed)))
  walked (Err r) passed refused f g =
      let known = g r refused in
      let low = lower_passed known.0 (omega (arith, known.1)) known.3 in
      sym (flat_refused tests n known.0 r known.1 low (sym (step known.0 (Err r) known.1 low known.2)))
