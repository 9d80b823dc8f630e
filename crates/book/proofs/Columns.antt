-- Laws of the sum of weighted bytes by columns: rows of sixteen bytes, down each column the sum of its bytes and the sum
-- of these sums. Assumes nothing.
use Prim.Native.Nat.{ℕ, zero, suc, ◌+◌, ◌*◌, ◌≤◌, ◌<◌}
use native.Mathlib.Nat.{add-zero, mul-add, add-mul, mul-le-mul, mul-zero, eq-or-lt_of_le}
use native.Mathlib.Numerals.{add-one}
use native.Mathlib.Omega.{arith}
use mathlib.Core.Path.{◌≡◌, refl, sym, ◌∙◌}
use mathlib.Core.Logic.{⊎_elim}
use mathlib.Core.Bool.{Bool, true, false}
use mathlib.Core.List.{List}
use lib.ListN.{length, get_or, take, set, replicate, length-replicate, get_or-replicate, get_or-eq_default}
use lib.Dec.{ltb}
use borrow.Author.Tests.{ltb-true, ltb-false}
use lib.Seq.{get_or-set_same, get_or-set_other}
use Rattle.book.specs.Blocks.{weighted}
use Rattle.book.proofs.Blocks.{weighted_none, weighted_take}

-- One column

module _ (l : List ℕ) where
  -- the weighted bytes of column j in the first n rows
  unfoldable pub column : (j n : ℕ) → ℕ
  column j zero = 0
  column j (suc n) = column j n + (16 * n + 1 + j) * get_or l (16 * n + j) 0

  -- a the sum of the column's bytes in the first n rows, s the sum of these sums, row by row
  pub record Column (j n a s : ℕ) : Type 0 where
    pub same : (16 * n + 1 + j) * a ≡ column j n + 16 * s
    pub a_most : a ≤ 255 * n
    pub s_most : s ≤ 8160 * n

  pub column_none : (j : ℕ) → Column j 0 0 0
  unfolding column
  column_none j = record { same = mul-zero (16 * 0 + 1 + j); a_most = omega arith; s_most = omega arith }

  step : (w a x c s : ℕ) → w * a ≡ c + 16 * s → (w + 16) * (a + x) ≡ (c + w * x) + 16 * (s + (a + x))
  step w a x c s e = rw (add-mul w 16 (a + x), mul-add w a x) (omega arith)

  pub column_more :
      (j n a s : ℕ)
      → n < 32
      → get_or l (16 * n + j) 0 ≤ 255
      → Column j n a s
      → Column j (n + 1) (a + get_or l (16 * n + j) 0) (s + (a + get_or l (16 * n + j) 0))
  unfolding column
  column_more j n a s few byte old =
      let x = get_or l (16 * n + j) 0 in
      let e : 16 * (n + 1) + 1 + j ≡ 16 * n + 1 + j + 16 = omega arith in
      let p = old.a_most in
      let q = old.s_most in
      record {
        same = rw (e, add-one n) (step (16 * n + 1 + j) a x (column j n) s old.same);
        a_most = omega arith;
        s_most = omega arith;
      }

  -- what a column adds to the sum
  pub column_most : (j n a s : ℕ) → j < 16 → n ≤ 32 → Column j n a s → (16 * n + 1 + j) * a ≤ 4308480
  column_most j n a s small few old =
      let p : 16 * n + 1 + j ≤ 528 = omega arith in
      let q : a ≤ 8160 = omega (arith, old.a_most) in
      mul-le-mul p q

  -- All columns

  -- the first m of them
  unfoldable pub columns : (n m : ℕ) → ℕ
  columns n zero = 0
  columns n (suc m) = columns n m + column m n

  pub columns_none : (n : ℕ) → 0 ≡ columns n 0
  unfolding columns
  columns_none n = refl

  pub columns_more :
      (n m a s sum : ℕ)
      → sum ≡ columns n m
      → Column m n a s
      → (sum + (16 * n + 1 + m) * a) ≡ columns n (m + 1) + 16 * s
  unfolding columns
  columns_more n m a s sum e old = rw (add-one m, e, old.same) (omega arith)

  -- the first m bytes of row n, weighted
  row : (n m : ℕ) → ℕ
  row n zero = 0
  row n (suc m) = row n m + (16 * n + 1 + m) * get_or l (16 * n + m) 0

  row_columns : (n m : ℕ) → columns (suc n) m ≡ columns n m + row n m
  unfolding columns row column
  row_columns n zero = refl
  row_columns n (suc m) = rw (row_columns n m) (omega arith)

  row_weighted :
      (n m : ℕ) → 16 * n + m ≤ length l → weighted 1 (take (16 * n + m) l) ≡ weighted 1 (take (16 * n) l) + row n m
  unfolding row
  row_weighted n zero h = rw (add-zero (16 * n)) (sym (add-zero (weighted 1 (take (16 * n) l))))
  row_weighted n (suc m) h =
      let e : 16 * n + suc m ≡ 16 * n + m + 1 = omega arith in
      let w : 16 * n + m + 1 ≡ 16 * n + 1 + m = omega arith in
      rw (e, weighted_take l (16 * n + m) (omega arith), row_weighted n m (omega arith), w) (omega arith)

  no_columns : (m : ℕ) → columns 0 m ≡ 0
  unfolding columns column
  no_columns zero = refl
  no_columns (suc m) = rw (no_columns m)

  pub columns_all : (n : ℕ) → 16 * n ≤ length l → columns n 16 ≡ weighted 1 (take (16 * n) l)
  columns_all zero h = no_columns 16 ∙ weighted_none l
  columns_all (suc n) h =
      let e : 16 * suc n ≡ 16 * n + 16 = omega arith in
      rw (row_columns n 16, columns_all n (omega arith), e) (sym (row_weighted n 16 (omega arith)))

-- The loops

get_d_zeros : (n j : ℕ) → ◌≡◌ {A = ℕ} (get_or (replicate n 0) j 0) 0
get_d_zeros n j = go (ltb j n) refl
  where
    go : (b : Bool) → ltb j n ≡ b → ◌≡◌ {A = ℕ} (get_or (replicate n 0) j 0) 0
    go true t = get_or-replicate {A = ℕ} n j 0 0 (ltb-true j n t)
    go false t = get_or-eq_default {A = ℕ} (replicate n 0) 0 (rw length-replicate (ltb-false j n t))

-- the columns below j have n + 1 rows, the others n
pub record Summed (l a s : List ℕ) (n j : ℕ) : Type 0 where
  pub passed : (m : ℕ) → m < j → Column l m (n + 1) (get_or a m 0) (get_or s m 0)
  pub ahead : (m : ℕ) → j ≤ m → m < 16 → Column l m n (get_or a m 0) (get_or s m 0)

-- all columns have n rows
abbrev pub SummedRows : (l a s : List ℕ) (n : ℕ) → Type 0
SummedRows l a s n = (m : ℕ) → m < 16 → Column l m n (get_or a m 0) (get_or s m 0)

pub rows_none : (l : List ℕ) (n : ℕ) → SummedRows l (replicate n 0) (replicate n 0) 0
rows_none l n m h = rw (get_d_zeros n m) (column_none l m)

module _ (l a s : List ℕ) (n : ℕ) where
  pub summed_none : SummedRows l a s n → Summed l a s n 0
  summed_none old = record { passed = λ m h. absurd (omega arith); ahead = λ m lo hi. old m hi }

  pub summed_all : (j : ℕ) → 16 ≤ j → Summed l a s n j → SummedRows l a s (n + 1)
  summed_all j past old m h = old.passed m (omega arith)

  pub summed_more :
      (j x : ℕ)
      → j < 16
      → n < 32
      → length a ≡ 16
      → length s ≡ 16
      → x ≡ get_or l (16 * n + j) 0
      → x ≤ 255
      → Summed l a s n j
      → Summed l (set a j (get_or a j 0 + x)) (set s j (get_or s j 0 + (get_or a j 0 + x))) n (j + 1)
  summed_more j x small few la ls e byte old =
      record { passed = λ m h. now m (omega arith); ahead = λ m lo hi. later m lo hi }
    where
      ja : j < length a
      ja = omega arith

      js : j < length s
      js = omega arith

      here :
          Column l j (n + 1) (get_or (set a j (get_or a j 0 + x)) j 0) (get_or (set s j (get_or s j 0 + (get_or a j 0 + x))) j 0)
      here =
          rw (
            get_or-set_same a j (get_or a j 0 + x) 0 ja,
            get_or-set_same s j (get_or s j 0 + (get_or a j 0 + x)) 0 js,
            e,
          )
          (column_more l j n (get_or a j 0) (get_or s j 0) few (rw e at byte) (old.ahead j (omega arith) small))

      now :
          (m : ℕ)
          → m ≤ j
          → Column l m (n + 1) (get_or (set a j (get_or a j 0 + x)) m 0)
          (get_or (set s j (get_or s j 0 + (get_or a j 0 + x))) m 0)
      now m h =
          ⊎_elim (λ (q : m ≡ j). rw q here)
          (λ (q : m < j).
          rw (
            get_or-set_other a j m (get_or a j 0 + x) 0 (λ z. omega arith),
            get_or-set_other s j m (get_or s j 0 + (get_or a j 0 + x)) 0 (λ z. omega arith),
          )
          (old.passed m q))
          (eq-or-lt_of_le h)

      later :
          (m : ℕ)
          → j + 1 ≤ m
          → m < 16
          → Column l m n (get_or (set a j (get_or a j 0 + x)) m 0) (get_or (set s j (get_or s j 0 + (get_or a j 0 + x))) m 0)
      later m lo hi =
          rw (
            get_or-set_other a j m (get_or a j 0 + x) 0 (λ z. omega arith),
            get_or-set_other s j m (get_or s j 0 + (get_or a j 0 + x)) 0 (λ z. omega arith),
          )
          (old.ahead m (omega arith) hi)
