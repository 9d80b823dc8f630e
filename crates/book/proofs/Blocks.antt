-- Laws of the sum of weighted bytes: one byte more at the end, its bound, and bytes that add nothing. Assumes nothing.
use Prim.Native.Nat.{ℕ, suc, ◌+◌, ◌*◌, ◌%◌, ◌≤◌, ◌<◌}
use native.Mathlib.Nat.{add-zero, zero-add, mul-zero, add_assoc, mul-le-mul}
use native.Mathlib.Numerals.{add-one}
use native.Mathlib.Omega.{arith}
use mathlib.Core.Path.{◌≡◌, refl, sym, ap, ◌∙◌}
use mathlib.Core.Bool.{true}
use mathlib.Core.List.{List, [], ◌∷◌, ◌++◌}
use lib.ListN.{length, get_or, take, drop}
use lib.Seq.{take-add, take-suc, length-take-le, take_all}
use lib.Dec.{eqb}
use borrow.Author.Tests.{eqb-true}
use Rattle.book.specs.Lists.{all}
use Rattle.book.specs.Blocks.{weighted, check_sum}
use Rattle.book.specs.Refusals.{zeros}
use Rattle.book.specs.Inner.Reading.{SumsTo}
use Rattle.book.proofs.Lists.{and_left, and_right}

pub weighted_more : (w : ℕ) (s : List ℕ) (x : ℕ) → weighted w (s ++ (x ∷ [])) ≡ weighted w s + (w + length s) * x
unfolding weighted
weighted_more w [] x = simp (add-zero, zero-add)
weighted_more w (y ∷ s) x =
    let e : suc w + length s ≡ w + suc (length s) = omega arith in
    rw (weighted_more (suc w) s x, e) (sym (add_assoc (w * y) (weighted (suc w) s) ((w + suc (length s)) * x)))

-- over the first i + 1 bytes
pub weighted_take :
    (l : List ℕ) (i : ℕ) → i < length l → weighted 1 (take (i + 1) l) ≡ weighted 1 (take i l) + (i + 1) * get_or l i 0
weighted_take l i h =
    let n : i ≤ length l = omega arith in
    let e : 1 + i ≡ suc i = omega arith in
    rw (add-one i, take-suc l i 0 h, weighted_more 1 (take i l) (get_or l i 0), length-take-le i l n, e)

pub weighted_none : (l : List ℕ) → 0 ≡ weighted 1 (take 0 l)
unfolding weighted
weighted_none l = refl

pub weighted_next :
    (l : List ℕ) (i sum : ℕ)
    → i < length l
    → sum ≡ weighted 1 (take i l)
    → sum + (i + 1) * get_or l i 0 ≡ weighted 1 (take (i + 1) l)
weighted_next l i sum h e = ap (λ (n : ℕ). n + (i + 1) * get_or l i 0) e ∙ sym (weighted_take l i h)

pub weighted_whole :
    (block l : List ℕ) (n i sum : ℕ)
    → SumsTo block n
    → l ≡ take n block
    → length l ≤ i
    → sum ≡ weighted 1 (take i l)
    → sum % 65521 ≡ check_sum block
unfolding check_sum
weighted_whole block l n i sum s b h e = rw (e, take_all i l h, b, s.same)

-- what a byte of a block adds to the sum
pub weighted_step : (i x : ℕ) → i < 510 → x ≤ 255 → (i + 1) * x ≤ 130050
weighted_step i x h b =
    let p : i + 1 ≤ 510 = omega arith in
    mul-le-mul p b

-- Bytes that add nothing

weighted_zero : (w : ℕ) (s : List ℕ) → all (λ x. eqb x 0) s ≡ true → weighted w s ≡ 0
unfolding weighted all
weighted_zero w [] h = refl
weighted_zero w (x ∷ s) h =
    rw (
      eqb-true x 0 (and_left (eqb x 0) (all (λ y. eqb y 0) s) h),
      mul-zero w,
      weighted_zero (suc w) s (and_right (eqb x 0) (all (λ y. eqb y 0) s) h),
    )

weighted_end : (w : ℕ) (s t : List ℕ) → all (λ x. eqb x 0) t ≡ true → weighted w (s ++ t) ≡ weighted w s
unfolding weighted
weighted_end w [] t h = weighted_zero w t h
weighted_end w (x ∷ s) t h = rw (weighted_end (suc w) s t h)

-- zeros from byte 128 on
pub sums_start : (block : List ℕ) → zeros block 128 510 ≡ true → SumsTo block 128
unfolding zeros
sums_start block h =
    record {
      within = omega arith;
      same = sym (rw (take-add 128 382 block) (weighted_end 1 (take 128 block) (take 382 (drop 128 block)) h));
    }

pub sums_all : (block : List ℕ) → SumsTo block 510
sums_all block = record { within = omega arith; same = refl }
