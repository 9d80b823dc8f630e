-- Laws of the masks of restrictions: the operations that one mask takes, all masks of a rule as words, and what some
-- restriction takes beside two operations. Assumes nothing.
use Prim.Native.Nat.{ℕ, zero, suc, ◌+◌, ◌*◌, ◌/◌, ◌≤◌, ◌<◌}
use native.Mathlib.Nat.{zero-add}
use native.Mathlib.Omega.{arith}
use mathlib.Core.Path.{◌≡◌, refl, sym, ap, ◌∙◌}
use mathlib.Core.Bool.{Bool, true, false, ◌&&◌, ◌||◌}
use mathlib.Core.List.{List, []}
use lib.ListN.{length, get_or, take, drop, replicate}
use lib.Seq.{length-take-le}
use lib.Dec.{ltb}
use lib.Bits.{bit_or}
use borrow.Author.Tests.{ltb-true, ltb-false, lt-ltb, ne_eqb}
use Rattle.std.specs.Simd.{first_chunks}
use Rattle.std.proofs.lemmas.List.{get_or-take, get_or-drop, length-drop}
use Rattle.book.specs.Lists.{any, up_to}
use Rattle.book.specs.Sets.{has}
use Rattle.book.specs.Rule.{restriction_count, restriction_mask}
use Rattle.book.proofs.Lists.{and_end, and_assoc, or_end, any_from_same}
use Rattle.book.proofs.Members.{has_zero, has_or, has_above, has_below}
use Rattle.lineage.proofs.Steps.{get_d_zeros}
use Rattle.verdicts.specs.Inner.Words.{mask_takes, beside, MaskRow, Taken, takes, Beside}
use Rattle.verdicts.proofs.Quantifiers.{any_below, any_first, any_listed}

-- One mask

pub mask_zero : (mask k : ℕ) → mask ≡ 0 → has 65535 k ≡ (ltb k 16 && mask_takes mask k)
unfolding mask_takes
mask_zero mask k e = rw (e, and_end) (has_below 16 k)

pub mask_other : (mask k : ℕ) → (mask ≡ 0 → ⊥) → mask < 65536 → has mask k ≡ (ltb k 16 && mask_takes mask k)
unfolding mask_takes
mask_other mask k n small = rw (ne_eqb mask 0 n) (go (ltb k 16) refl)
  where
    go : (b : Bool) → ltb k 16 ≡ b → has mask k ≡ (b && has mask k)
    go true e = refl
    go false e = has_above 16 mask k small (ltb-false k 16 e)

-- The masks of a rule

-- byte i of chunk j
chunk_at :
    (k : ℕ) (xs : List ℕ) (j i : ℕ)
    → j < k
    → i < 6
    → get_or (get_or (first_chunks 6 k xs) j []) i 0 ≡ get_or xs (6 * j + i) 0
chunk_at zero xs j i h l = absurd (omega arith)
chunk_at (suc k) xs zero i h l = rw (zero-add i) (get_or-take 6 xs i 0 l)
chunk_at (suc k) xs (suc j) i h l =
    let e : 6 + (6 * j + i) ≡ 6 * suc j + i = omega arith in
    chunk_at k (drop 6 xs) j i (omega arith) l ∙ get_or-drop 6 xs (6 * j + i) 0 ∙ ap (λ m. get_or xs m 0) e

-- the bytes of the masks, in rows of six, and what their words hold
module _ (rule : List ℕ) (rows masks : List (List ℕ)) (n : ℕ) (count : n ≡ restriction_count rule) where
  abbrev front : List ℕ
  front = take 48 (drop 64 rule)

  pub taken_row :
      (j i k : ℕ)
      → 112 ≤ length rule
      → rows ≡ first_chunks 6 (length front / 6) front
      → j < 8
      → i < 3
      → (j < n → MaskRow (get_or rows j []) (get_or masks j []))
      → (n ≤ j → get_or masks j [] ≡ replicate 3 0)
      → has (get_or (get_or masks j []) i 0) k
      ≡ (ltb j (restriction_count rule) && (ltb k 16 && mask_takes (restriction_mask rule j i) k))
  taken_row j i k whole e lj li there absent = rw (← count) (go (ltb j n) refl)
    where
      byte : (m : ℕ) → m < 6 → get_or (get_or rows j []) m 0 ≡ get_or rule (64 + 6 * j + m) 0
      byte m l =
          let size : length front ≡ 48 = length-take-le 48 (drop 64 rule) (rw (length-drop 64 rule) (omega arith)) in
          let f : 64 + (6 * j + m) ≡ 64 + 6 * j + m = omega arith in
          ap (λ (r : List (List ℕ)). get_or (get_or r j []) m 0) e
          ∙ chunk_at (length front / 6) front j m (omega arith) l
          ∙ get_or-take 48 (drop 64 rule) (6 * j + m) 0 (omega arith)
          ∙ get_or-drop 64 rule (6 * j + m) 0
          ∙ ap (λ p. get_or rule p 0) f

      go :
          (b : Bool)
          → ltb j n ≡ b
          → has (get_or (get_or masks j []) i 0) k ≡ (b && (ltb k 16 && mask_takes (restriction_mask rule j i) k))
      go true h =
          let low : 64 + 6 * j + (2 * i + 1) ≡ 65 + 6 * j + 2 * i = omega arith in
          there (ltb-true j n h) i k li
          ∙ rw (byte (2 * i) (omega arith), byte (2 * i + 1) (omega arith), low)
      go false h = rw (absent (ltb-false j n h), get_d_zeros 3 i) (has_zero k)

-- What some restriction takes

pub beside_none : (a b : ℕ) → Beside [] a b 0
unfolding any
beside_none a b c = has_zero c

-- one restriction more, that takes both operations or does not
module _
    (masks : List (List ℕ)) (a b j word : ℕ) (p q : Bool) (h : j < length masks) (old : Beside (take j masks) a b word)
    (ep : p ≡ has (get_or (get_or masks j []) 0 0) a)
    (eq : q ≡ has (get_or (get_or masks j []) 1 0) b)
  where
    step :
        (c : ℕ)
        → any (takes a b c) (take (j + 1) masks) ≡ (has word c || p && q && has (get_or (get_or masks j []) 2 0) c)
    step c =
        rw (any_first (takes a b c) [] masks j h, old c, ep, eq)
        (ap (λ t. any (takes a b c) (take j masks) || t) (sym (and_assoc _ _ (has (get_or (get_or masks j []) 2 0) c))))

    pub beside_more :
        (p && q) ≡ true → Beside (take (j + 1) masks) a b (bit_or word (get_or (get_or masks j []) 2 0))
    beside_more e c = rw (step c, e) (has_or word (get_or (get_or masks j []) 2 0) c)

    pub beside_other : (p && q) ≡ false → Beside (take (j + 1) masks) a b word
    beside_other e c = rw (step c, e) (sym (or_end (has word c)))

-- the masks take what the restrictions take
pub taken_beside :
    (rule : List ℕ) (masks : List (List ℕ)) (a b c : ℕ)
    → Taken rule masks
    → restriction_count rule ≤ 8
    → a < 16
    → b < 16
    → c < 16
    → any (takes a b c) masks ≡ any (beside rule a b c) (up_to (restriction_count rule))
unfolding up_to
taken_beside rule masks a b c took few la lb lc =
    any_listed (takes a b c) [] masks
    ∙ rw took.eight
    (any_from_same (λ j. takes a b c (get_or masks j [])) (λ j. ltb j (restriction_count rule) && beside rule a b c j) 0 8
    (λ j lo hi. each j (omega arith)))
    ∙ any_below (beside rule a b c) (restriction_count rule) 8 few
  where
    three : (w x y z : Bool) → ((w && x) && ((w && y) && (w && z))) ≡ (w && (x && (y && z)))
    three true x y z = refl
    three false x y z = refl

    each : (j : ℕ) → j < 8 → takes a b c (get_or masks j []) ≡ (ltb j (restriction_count rule) && beside rule a b c j)
    each j l =
        rw (
          took.masks_of j 0 a l (omega arith),
          took.masks_of j 1 b l (omega arith),
          took.masks_of j 2 c l (omega arith),
          lt-ltb a 16 la,
          lt-ltb b 16 lb,
          lt-ltb c 16 lc,
        )
        (three (ltb j (restriction_count rule)) (mask_takes (restriction_mask rule j 0) a)
        (mask_takes (restriction_mask rule j 1) b) (mask_takes (restriction_mask rule j 2) c))
