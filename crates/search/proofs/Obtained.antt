-- What the words of the accesses that can be had say, and the loops that gather their labels and operations. Assumes
-- nothing.
use Prim.Native.Nat.{ℕ, ◌+◌, ◌*◌, ◌/◌, ◌%◌, ◌≤◌, ◌<◌}
use native.Mathlib.Omega.{arith}
use mathlib.Core.Path.{◌≡◌, refl, sym, ap, ◌∙◌}
use mathlib.Core.Bool.{Bool, true, false, ◌&&◌, ◌||◌}
use mathlib.Core.List.{List}
use lib.ListN.{length, get_or, set, length-set}
use lib.Seq.{get_or-set_same, get_or-set_other}
use lib.Dec.{eqb, ltb}
use lib.Bits.{bit_and, bit_or}
use borrow.Author.Tests.{eqb-true, eqb-false, lt-ltb}
use Rattle.book.specs.Lists.{any, up_to}
use Rattle.book.specs.Sets.{has, WordOf}
use Rattle.book.specs.Head.{support_of, supports}
use Rattle.book.proofs.Lists.{and_or, and_false, any_none, any_more}
use Rattle.book.proofs.Members.{has_or, has_and, has_zero, has_single}
use Rattle.search.specs.Obtainable.{labelled, operated, can_be_had}
use Rattle.search.specs.Inner.Places.{access_at}
use Rattle.search.specs.Inner.Table.{of_function, HadHolds}

-- A word that gathers what passes one of the tests so far

pub gather_none : (f : ℕ → ℕ → Bool) → WordOf (λ d. any (λ c. f c d) (up_to 0)) 0
gather_none f d = rw (has_zero d, any_none (λ c. f c d)) (sym (and_false (ltb d 64)))

pub gather_more :
    (f : ℕ → ℕ → Bool) (i found word : ℕ)
    → WordOf (λ d. any (λ c. f c d) (up_to i)) found
    → WordOf (f i) word
    → WordOf (λ d. any (λ c. f c d) (up_to (i + 1))) (bit_or found word)
gather_more f i found word old new d =
    rw (has_or found word d, old d, new d, any_more (λ c. f c d) i)
    (sym (and_or (ltb d 64) (any (λ c. f c d) (up_to i)) (f i d)))

pub gather_end :
    (f : ℕ → ℕ → Bool) (i n found : ℕ)
    → WordOf (λ d. any (λ c. f c d) (up_to i)) found
    → i ≤ n
    → n ≤ i
    → WordOf (λ d. any (λ c. f c d) (up_to n)) found
gather_end f i n found old low high =
    let e : n ≡ i = omega arith in
    rw e old

-- the operations of a label that some column has
module _ (head : List ℕ) (d s operations : ℕ) where
  pub had_operations :
      s ≡ support_of head d
      → WordOf (of_function head) operations
      → (k : ℕ)
      → k < 16
      → has (bit_or 1 (bit_and s operations)) k ≡ operated head d k
  unfolding operated supports
  had_operations e all k l =
      rw (has_or 1 (bit_and s operations) k, has_and s operations k, all k, lt-ltb k 64 (omega arith), e)
      (ap (λ (t : Bool). t || (has (support_of head d) k && of_function head k)) (has_single k 0))

-- word w of the set: four leaves with sixteen operations each
abbrev pub HadWord : List ℕ → ℕ → ℕ → Type 0
HadWord head w word =
    (i : ℕ)
    → i < 64
    → has word i
    ≡ (labelled head (w % 16 * 4 + i / 16) && operated head (w % 16 * 4 + i / 16) (i % 16))

-- the first w words of each action
pub record HadWords (head had : List ℕ) (w : ℕ) : Type 0 where
  pub bound : w ≤ 16
  pub size : length had ≡ 32
  pub at : (j : ℕ) → j < 32 → j % 16 < w → HadWord head j (get_or had j 0)

module _ (head : List ℕ) where
  pub had_none : (had : List ℕ) → length had ≡ 32 → HadWords head had 0
  had_none had size = record { bound = omega arith; size = size; at = λ j l k. absurd (omega arith) }

  pub had_more :
      (had : List ℕ) (w word : ℕ)
      → w < 16
      → HadWord head w word
      → HadWords head had w
      → HadWords head (set (set had w word) (16 + w) word) (w + 1)
  had_more had w word small new old =
      record {
        bound = omega arith;
        size = rw (length-set, length-set) old.size;
        at = λ j l k. go j l k (eqb j (16 + w)) refl (eqb j w) refl;
      }
    where
      size : length had ≡ 32
      size = old.size

      go :
          (j : ℕ)
          → j < 32
          → j % 16 < w + 1
          → (b : Bool)
          → eqb j (16 + w) ≡ b
          → (c : Bool)
          → eqb j w ≡ c
          → HadWord head j (get_or (set (set had w word) (16 + w) word) j 0)
      go j l k true e c f =
          let q = eqb-true j (16 + w) e in
          let same : w % 16 ≡ (16 + w) % 16 = omega arith in
          rw (q, get_or-set_same (set had w word) (16 + w) word 0 (rw length-set (omega arith)))
          (rw same at new)
      go j l k false e true f =
          rw (
            get_or-set_other (set had w word) (16 + w) j word 0 (eqb-false j (16 + w) e),
            eqb-true j w f,
            get_or-set_same had w word 0 (omega arith),
          ) new
      go j l k false e false f =
          let one = eqb-false j (16 + w) e in
          let two = eqb-false j w f in
          rw (
            get_or-set_other (set had w word) (16 + w) j word 0 one,
            get_or-set_other had w j word 0 two,
          )
          (old.at j l (omega arith))

  pub had_holds : (had : List ℕ) (w : ℕ) → HadWords head had w → 16 ≤ w → HadHolds head had
  unfolding can_be_had access_at
  had_holds had w b whole p l =
      let d : p / 64 % 16 * 4 + p % 64 / 16 ≡ p / 16 % 64 = omega arith in
      let k : p % 64 % 16 ≡ p % 16 = omega arith in
      b.at (p / 64) (omega arith) (omega arith) (p % 64) (omega arith) ∙ rw (d, k)
