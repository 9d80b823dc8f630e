-- Laws of a plan as it is written: row by row into 36 bytes, and its first bytes into a buffer. Assumes nothing.
use Prim.Native.Nat.{ℕ, suc, ◌+◌, ◌*◌, ◌/◌, ◌%◌, ◌≤◌, ◌<◌}
use native.Mathlib.Nat.{add-zero, zero-add}
use native.Mathlib.Numerals.{add-one}
use native.Mathlib.Omega.{arith}
use mathlib.Core.Path.{◌≡◌, sym}
use mathlib.Core.Bool.{Bool, true, false, cond}
use mathlib.Core.List.{List, [], ◌∷◌, ◌++◌, append_assoc, append-nil}
use lib.ListN.{take}
use lib.Dec.{eqb, ltb}
use borrow.Author.Tests.{lt-ltb, le-ltb, eq-eqb, ne_eqb}
use Rattle.verdicts.specs.Accesses.{Access}
use Rattle.search.specs.Inner.Places.{access_at, chosen_at, choice_at, rows_at, rows_for}
use Rattle.search.specs.Inner.First.{WithAccess}
use Rattle.search.specs.Shown.{column_for, function_for, column_row, apply_row, last_row, rows_of, access_rows}
use Rattle.search.specs.Shown.{shown_from, shown_plan}
use Rattle.search.proofs.PlaceLaws.{rows_nowhere, rows_plain, rows_applied, rows_some, rows_most}

-- The last row, which names the row before it

pub last_written :
    (plan r : List ℕ) (n kind s : ℕ)
    → (n + 1 < 9 → take (4 * (n + 1) + 4) r ≡ take (4 * (n + 1)) plan ++ (kind ∷ n ∷ 0 ∷ 0 ∷ []))
    → cond (eqb s 0) 4 5 ≡ kind
    → n < 8
    → take (4 * n + 8) r ≡ take (4 * n + 4) plan ++ last_row n s
unfolding last_row
last_written plan r n kind s h e l =
    let long : 4 * n + 8 ≡ 4 * (n + 1) + 4 = omega arith in
    let short : 4 * n + 4 ≡ 4 * (n + 1) = omega arith in
    rw (long, short, e) (h (omega arith))

-- The rows for one place

module _ (head : List ℕ) (n p : ℕ) where
  shown_nowhere : 2048 ≤ p → shown_from head n (chosen_at p) ≡ []
  unfolding chosen_at shown_from
  shown_nowhere h = rw (le-ltb p 2048 h)

  shown_plain :
      p < 2048 → p % 16 ≡ 0 → shown_from head n (chosen_at p) ≡ column_row head (p / 16 % 64) ++ last_row n (p / 1024)
  unfolding chosen_at shown_from access_rows access_at
  shown_plain h e =
      rw (lt-ltb p 2048 h, eq-eqb (p % 16) 0 e)
      (append-nil (column_row head (p / 16 % 64) ++ last_row n (p / 1024)))

  shown_applied :
      p < 2048
      → (p % 16 ≡ 0 → ⊥)
      → shown_from head n (chosen_at p)
      ≡ column_row head (p / 16 % 64) ++ (apply_row head n (p % 16) ++ last_row (suc n) (p / 1024))
  unfolding chosen_at shown_from access_rows access_at
  shown_applied h e =
      rw (lt-ltb p 2048 h, ne_eqb (p % 16) 0 e)
      (append-nil (column_row head (p / 16 % 64) ++ (apply_row head n (p % 16) ++ last_row (suc n) (p / 1024))))

  -- a place without an access, or no room for its rows
  pub access_nowhere : (plan : List ℕ) → 2048 ≤ p → WithAccess head n p plan plan
  access_nowhere plan l few =
      let z : n + rows_at p ≡ n = omega (arith, rows_nowhere p l) in
      rw (z, shown_nowhere l) (sym (append-nil (take (4 * n) plan)))

  pub access_full : (plan : List ℕ) → p < 2048 → 8 ≤ n → WithAccess head n p plan plan
  access_full plan l full few = absurd (omega (arith, rows_some p l))

  pub access_plain :
      (plan first r : List ℕ) (column : ℕ)
      → p < 2048
      → p % 16 ≡ 0
      → (p / 16 % 64 < 64 → column ≡ column_for head (p / 16 % 64))
      → (n < 9 → take (4 * n + 4) first ≡ take (4 * n) plan ++ (1 ∷ column ∷ 0 ∷ 0 ∷ []))
      → (n < 8 → take (4 * n + 8) r ≡ take (4 * n + 4) first ++ last_row n (p / 1024))
      → WithAccess head n p plan r
  unfolding column_row
  access_plain plan first r column l z c one two few =
      let m : 2 ≡ rows_at p = rows_plain p l z in
      let e : 4 * (n + rows_at p) ≡ 4 * n + 8 = omega arith in
      rw (e, two (omega arith), one (omega arith), shown_plain l z, c (omega arith)) (simp append_assoc)

  pub access_applied :
      (plan first second r : List ℕ) (column function : ℕ)
      → p < 2048
      → (p % 16 ≡ 0 → ⊥)
      → (p / 16 % 64 < 64 → column ≡ column_for head (p / 16 % 64))
      → function ≡ function_for head (p % 16)
      → (n < 9 → take (4 * n + 4) first ≡ take (4 * n) plan ++ (1 ∷ column ∷ 0 ∷ 0 ∷ []))
      → (n + 1 < 9 → take (4 * (n + 1) + 4) second ≡ take (4 * (n + 1)) first ++ (2 ∷ function ∷ n ∷ 255 ∷ []))
      → (n + 1 < 8 → take (4 * (n + 1) + 8) r ≡ take (4 * (n + 1) + 4) second ++ last_row (n + 1) (p / 1024))
      → WithAccess head n p plan r
  unfolding column_row apply_row
  access_applied plan first second r column function l z c f one two three few =
      let m : 3 ≡ rows_at p = rows_applied p l z in
      let e : 4 * (n + rows_at p) ≡ 4 * (n + 1) + 8 = omega arith in
      let s : 4 * (n + 1) ≡ 4 * n + 4 = omega arith in
      rw (e, three (omega arith), two (omega arith), s, one (omega arith), shown_applied l z, c (omega arith), f, add-one)
      (simp append_assoc)

-- The rows for three places

shown_then :
    (head : List ℕ) (n p : ℕ) (rest : List Access)
    → shown_from head n (chosen_at p ++ rest) ≡ shown_from head n (chosen_at p) ++ shown_from head (n + rows_at p) rest
unfolding shown_from chosen_at rows_at
shown_then head n p rest = go (ltb p 2048)
  where
    go :
        (b : Bool)
        → shown_from head n (cond b (access_at p ∷ []) [] ++ rest)
        ≡ shown_from head n (cond b (access_at p ∷ []) []) ++ shown_from head (n + cond b (rows_of (access_at p)) 0) rest
    go true = rw (append-nil (access_rows head n (access_at p)))
    go false = rw (add-zero n)

pub plan_shown :
    (head first second r : List ℕ) (a y x one more : ℕ)
    → one ≡ rows_at a
    → more ≡ rows_at y
    → (0 + rows_at a ≤ 9 → take (4 * (0 + rows_at a)) first ≡ shown_from head 0 (chosen_at a))
    → WithAccess head one y first second
    → WithAccess head (one + more) x second r
    → take (4 * rows_for a y x) r ≡ shown_plan head (choice_at a y x)
unfolding shown_plan choice_at
plan_shown head first second r a y x one more e d h i j =
    let la = rows_most a in
    let ly = rows_most y in
    let lx = rows_most x in
    let k : take (4 * (rows_at a + rows_at y)) second ≡ take (4 * rows_at a) first ++ shown_from head (rows_at a) (chosen_at y) =
    rw e at (i (omega arith)) in
    let l : take (4 * (rows_at a + rows_at y + rows_at x)) r
    ≡ take (4 * (rows_at a + rows_at y)) second ++ shown_from head (rows_at a + rows_at y) (chosen_at x) =
    rw (e, d) at (j (omega arith)) in
    let sum : 4 * (rows_at a + (rows_at y + rows_at x)) ≡ 4 * (rows_at a + rows_at y + rows_at x) = omega arith in
    let zero : 4 * rows_at a ≡ 4 * (0 + rows_at a) = omega arith in
    rw (sum, l, k, zero, h (omega arith), shown_then head 0 a, zero-add, shown_then head (rows_at a) y) (simp append_assoc)
