-- Loops. One `ok = ok & test`: what `ok` says after i turns, over the numbers below n and over a list. One that writes
-- an array from the front. Assumes nothing.
use Prim.Native.Nat.{ℕ, ◌+◌, ◌≤◌, ◌<◌}
use native.Mathlib.Nat.{eq-or-lt_of_le}
use native.Mathlib.Omega.{arith}
use mathlib.Core.Path.{◌≡◌, refl, sym, ap, ◌∙◌}
use mathlib.Core.Logic.{⊎_elim}
use mathlib.Core.Bool.{Bool, true, ◌&&◌}
use mathlib.Core.List.{List}
use lib.ListN.{length, get_or, take, set, length-set}
use lib.Seq.{take_all, get_or-set_same, get_or-set_other}
use Rattle.book.specs.Lists.{up_to, all}
use Rattle.book.proofs.Lists.{all_none, all_more, all_take}

-- Numbers

-- a loop's `ok` says whether the first i of the numbers below n pass
pub record Passed (f : ℕ → Bool) (n : ℕ) (ok : Bool) (i : ℕ) : Type 0 where
  pub reached : i ≤ n
  pub so_far : ok ≡ all f (up_to i)

pub passed_none : {f : ℕ → Bool} {n : ℕ} → Passed f n true 0
passed_none {f} = record { reached = omega arith; so_far = sym (all_none f) }

pub passed_more :
    {f : ℕ → Bool} {n i : ℕ} {ok b : Bool} → Passed f n ok i → i < n → b ≡ f i → Passed f n (ok && b) (i + 1)
passed_more {f} {i = i} old l e =
    record { reached = omega arith; so_far = rw (old.so_far, e) (sym (all_more f i)) }

pub passed_all :
    {f : ℕ → Bool} {n i m : ℕ} {ok : Bool} → Passed f n ok i → n ≤ i → n ≡ m → ok ≡ all f (up_to m)
passed_all {i = i} {m} old h e =
    let q : i ≡ m = omega (arith, old.reached) in
    rw q at old.so_far

-- Elements of a list

-- the same of the first i elements of a list
pub record PassedIn (f : ℕ → Bool) (l : List ℕ) (ok : Bool) (i : ℕ) : Type 0 where
  pub reached : i ≤ length l
  pub so_far : ok ≡ all f (take i l)

pub passed_in_none : {f : ℕ → Bool} {l : List ℕ} → PassedIn f l true 0
unfolding all
passed_in_none = record { reached = omega arith; so_far = refl }

pub passed_in_more :
    {f : ℕ → Bool} {l : List ℕ} {i : ℕ} {ok b : Bool}
    → PassedIn f l ok i → i < length l → b ≡ f (get_or l i 0) → PassedIn f l (ok && b) (i + 1)
passed_in_more {f} {l} {i} old h e =
    record { reached = omega arith; so_far = rw (old.so_far, e) (sym (all_take f l i h)) }

pub passed_in_all :
    {f : ℕ → Bool} {l m : List ℕ} {i : ℕ} {ok : Bool} → PassedIn f l ok i → length l ≤ i → l ≡ m → ok ≡ all f m
passed_in_all {f} {l} {i = i} old h e = old.so_far ∙ ap (all f) (take_all i l h ∙ e)

-- An array, written from the front

-- the first k of n elements are as P asks
pub record Filled (n : ℕ) (P : ℕ → ℕ → Type 0) (l : List ℕ) (k : ℕ) : Type 0 where
  pub bound : k ≤ n
  pub size : length l ≡ n
  pub at : (j : ℕ) → j < k → P j (get_or l j 0)

pub fill_none : {n : ℕ} {P : ℕ → ℕ → Type 0} {l : List ℕ} → length l ≡ n → Filled n P l 0
fill_none e = record { bound = omega arith; size = e; at = λ j h. absurd (omega arith) }

pub fill_more :
    {n : ℕ} {P : ℕ → ℕ → Type 0} {l : List ℕ} {k v : ℕ} →
    Filled n P l k → k < n → P k v → Filled n P (set l k v) (k + 1)
fill_more {n} {P} {l} {k} {v} old h p =
    record {
      bound = omega arith;
      size = length-set l k v ∙ old.size;
      at = λ j m. go j (omega arith);
    }
  where
    go : (j : ℕ) → j ≤ k → P j (get_or (set l k v) j 0)
    go j m =
        ⊎_elim
        (λ (q : j ≡ k). rw (q, get_or-set_same l k v 0 (omega (arith, old.size))) p)
        (λ (q : j < k). rw (get_or-set_other l k j v 0 (λ z. omega arith)) (old.at j q))
        (eq-or-lt_of_le m)
