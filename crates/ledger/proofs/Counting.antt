-- Laws of counting and of the first that passes. Assumes nothing.
use Prim.Native.Nat.{ℕ, zero, suc, ◌+◌, ◌≤◌, ◌<◌}
use native.Mathlib.Nat.{eq-or-lt_of_le}
use native.Mathlib.Omega.{arith}
use mathlib.Core.Path.{◌≡◌, refl, sym, ◌∙◌}
use mathlib.Core.Logic.{⊎_elim}
use mathlib.Core.Bool.{Bool, true, false, ◌&&◌, ◌||◌, not, cond, false≢true}
use mathlib.Core.List.{List, [], ◌∷◌}
use lib.Dec.{eqb, eqb-suc-suc}
use borrow.Author.Tests.{ne_eqb, eqb-true, eqb-false}
use Rattle.std.specs.Prelude.{Some, is_some, unwrap_or}
use Rattle.std.specs.List.{find}
use Rattle.book.specs.Lists.{all, any, from, up_to}
use Rattle.book.proofs.Lists.{same_test, or_left, or_right, or_either}
use Rattle.verdicts.proofs.Quantifiers.{at_any, any_at}
use Rattle.ledger.specs.Counting.{count, first_of}

-- The first that passes

module _ (f : ℕ → Bool) (none : ℕ) where
  first_from :
      (i n : ℕ)
      → any f (from i n) ≡ true
      → (f (first_of f none (from i n)) ≡ true) × (first_of f none (from i n) < i + n)
  unfolding any from first_of
  first_from i zero h = absurd (false≢true h)
  first_from i (suc n) h = go (f i) refl h (first_from (suc i) n)
    where
      go :
          (b : Bool)
          → f i ≡ b
          → (b || any f (from (suc i) n)) ≡ true
          → (any f (from (suc i) n) ≡ true
          → (f (first_of f none (from (suc i) n)) ≡ true) × (first_of f none (from (suc i) n) < suc i + n))
          → (f (cond b i (first_of f none (from (suc i) n))) ≡ true)
          × (cond b i (first_of f none (from (suc i) n)) < i + suc n)
      go true e q rec = (e, omega arith)
      go false e q rec =
          let r = rec q in
          (r.0, omega (arith, r.1))

module _ (f : ℕ → Bool) (n : ℕ) where
  pub first_passes : any f (up_to n) ≡ true → (f (first_of f n (up_to n)) ≡ true) × (first_of f n (up_to n) < n)
  unfolding up_to
  first_passes h =
      let r = first_from f n 0 n h in
      (r.0, omega (arith, r.1))

-- the first that passes, as the library finds it, is the first that passes
pub first_of_find : (f : ℕ → Bool) (none : ℕ) (l : List ℕ) → unwrap_or (find f l) none ≡ first_of f none l
unfolding first_of
first_of_find f none [] = refl
first_of_find f none (x ∷ l) = go (f x) (first_of_find f none l)
  where
    go :
        (b : Bool)
        → unwrap_or (find f l) none ≡ first_of f none l
        → unwrap_or (cond b (Some x) (find f l)) none ≡ cond b x (first_of f none l)
    go true e = refl
    go false e = e

pub some_of_find : (f : ℕ → Bool) (l : List ℕ) → is_some (find f l) ≡ any f l
unfolding any
some_of_find f [] = refl
some_of_find f (x ∷ l) = go (f x) (some_of_find f l)
  where
    go : (b : Bool) → is_some (find f l) ≡ any f l → is_some (cond b (Some x) (find f l)) ≡ (b || any f l)
    go true e = refl
    go false e = e

pub any_not : {A : Type 0} (f : A → Bool) (l : List A) → any (λ x. not (f x)) l ≡ not (all f l)
unfolding all any
any_not f [] = refl
any_not f (x ∷ l) = go (f x) (any_not f l)
  where
    go :
        (b : Bool)
        → any (λ x. not (f x)) l ≡ not (all f l)
        → (not b || any (λ x. not (f x)) l) ≡ not (b && all f l)
    go true e = e
    go false e = refl

-- Counting

count_same_from :
    (f g : ℕ → Bool) (i n : ℕ) → ((q : ℕ) → i ≤ q → g q ≡ f q) → count g (from i n) ≡ count f (from i n)
unfolding count from
count_same_from f g i zero h = refl
count_same_from f g i (suc n) h =
    rw (h i (omega arith), count_same_from f g (suc i) n (λ q l. h q (omega arith)))

pub count_same : (f g : ℕ → Bool) (n : ℕ) → ((q : ℕ) → g q ≡ f q) → count g (up_to n) ≡ count f (up_to n)
unfolding up_to
count_same f g n h = count_same_from f g 0 n (λ q l. h q)

pub count_none : (l : List ℕ) → count (λ p. false) l ≡ 0
unfolding count
count_none [] = refl
count_none (x ∷ l) = rw (count_none l)

-- One number that passes now and did not before

module _ (f g : ℕ → Bool) (p : ℕ) (old : f p ≡ false) (else : (q : ℕ) → (q ≡ p → ⊥) → g q ≡ f q) where
  count_more_from :
      g p ≡ true → (i n : ℕ) → i ≤ p → p < i + n → count g (from i n) ≡ count f (from i n) + 1
  unfolding count from
  count_more_from new i zero lo hi = absurd (omega arith)
  count_more_from new i (suc n) lo hi =
      ⊎_elim
      (λ (e : i ≡ p).
      rw (e, old, new, count_same_from f g (suc p) n (λ q l. else q (λ (z : q ≡ p). omega arith))) (omega arith))
      (λ (l : i < p).
      rw (else i (λ (z : i ≡ p). omega arith), count_more_from new (suc i) n l (omega arith)) (omega arith))
      (eq-or-lt_of_le lo)

  pub count_more : g p ≡ true → (n : ℕ) → p < n → count g (up_to n) ≡ count f (up_to n) + 1
  unfolding up_to
  count_more new n h = count_more_from new 0 n (omega arith) (omega arith)

  -- whether it passes now or not
  pub any_changed : (n : ℕ) → p < n → any g (up_to n) ≡ (g p || any f (up_to n))
  any_changed n h =
      same_test (any g (up_to n)) (g p || any f (up_to n))
      (λ t.
      let w = any_at g n t in
      there w.0 w.1 w.2 (eqb w.0 p) refl)
      (λ t.
      ⊎_elim
      (λ (a : g p ≡ true). at_any g n p h a)
      (λ (a : any f (up_to n) ≡ true). back a)
      (or_either (g p) (any f (up_to n)) t))
    where
      there : (q : ℕ) → g q ≡ true → q < n → (b : Bool) → eqb q p ≡ b → (g p || any f (up_to n)) ≡ true
      there q t l true e = or_left (g p) (any f (up_to n)) (rw (sym (eqb-true q p e)) t)
      there q t l false e = or_right (g p) (any f (up_to n)) (at_any f n q l (sym (else q (eqb-false q p e)) ∙ t))

      back : any f (up_to n) ≡ true → any g (up_to n) ≡ true
      back t =
          let w = any_at f n t in
          go w.0 w.1 w.2 (eqb w.0 p) refl
        where
          go : (q : ℕ) → f q ≡ true → q < n → (b : Bool) → eqb q p ≡ b → any g (up_to n) ≡ true
          go q t l true e = absurd (false≢true (sym old ∙ rw (eqb-true q p e) at t))
          go q t l false e = at_any g n q l (else q (eqb-false q p e) ∙ t)

-- All of them

count_most : (f : ℕ → Bool) (i n : ℕ) → count f (from i n) ≤ n
unfolding count from
count_most f i zero = omega arith
count_most f i (suc n) = go (f i) (count_most f (suc i) n)
  where
    go : (b : Bool) → count f (from (suc i) n) ≤ n → cond b 1 0 + count f (from (suc i) n) ≤ suc n
    go true h = omega arith
    go false h = omega arith

all_count_from : (f : ℕ → Bool) (i n : ℕ) → all f (from i n) ≡ eqb (count f (from i n)) n
unfolding count all from
all_count_from f i zero = refl
all_count_from f i (suc n) = go (f i) (all_count_from f (suc i) n) (count_most f (suc i) n)
  where
    go :
        (b : Bool)
        → all f (from (suc i) n) ≡ eqb (count f (from (suc i) n)) n
        → count f (from (suc i) n) ≤ n
        → (b && all f (from (suc i) n)) ≡ eqb (cond b 1 0 + count f (from (suc i) n)) (suc n)
    go true e h =
        let z : 1 + count f (from (suc i) n) ≡ suc (count f (from (suc i) n)) = omega arith in
        rw (z, eqb-suc-suc) e
    go false e h =
        sym (ne_eqb (0 + count f (from (suc i) n)) (suc n)
        (λ (z : 0 + count f (from (suc i) n) ≡ suc n). omega arith))

pub all_count : (f : ℕ → Bool) (n : ℕ) → (all f (up_to n) ≡ eqb (count f (up_to n)) n) × (count f (up_to n) ≤ n)
unfolding up_to
all_count f n = (all_count_from f 0 n, count_most f 0 n)
