-- A sealed block has the length of the block, its bytes below 510, and the check that the reader requires.
-- Assumes nothing.
use Prim.Native.Nat.{ℕ, ◌+◌, ◌*◌, ◌/◌, ◌%◌, ◌≤◌, ◌<◌}
use native.Mathlib.Omega.{arith}
use mathlib.Core.Path.{◌≡◌, sym, ap, ◌∙◌}
use mathlib.Core.Bool.{true}
use mathlib.Core.List.{List, [], ◌∷◌, ◌++◌, append-nil}
use lib.ListN.{length, get_or, take, set, get_or-append, drop_of_length-le}
use lib.Seq.{length-take-le, take_at, get_or_at, get_or-take, get_or-append-add, sets-eq}
use borrow.Author.Tests.{eq-eqb, ne_eqb}
use Rattle.book.specs.Blocks.{check_sum, check_holds}
use Rattle.book.specs.Tests.{first_failing, refused_or, answered}
use Rattle.book.specs.Refusals.{seal_tests}
use Rattle.book.specs.Answers.{with_check, seal_bytes, seal_answer}
use Rattle.std.specs.Prelude.{Ok, Err}
use Rattle.book.specs.declared.refusal.Refusal.TheVariants.{BlockLength}

-- two writes at the end of a block
pub set_two :
    (l : List ℕ) (a b : ℕ) → length l ≡ 512 → set (set l 510 a) 511 b ≡ take 510 l ++ (a ∷ b ∷ [])
set_two l a b h =
    let fits : 510 + 2 ≤ length l = omega arith in
    let past : length l ≤ 512 = omega arith in
    sets-eq (a ∷ b ∷ []) l 510 fits
    ∙ ap (λ (r : List ℕ). take 510 l ++ (a ∷ b ∷ []) ++ r) (drop_of_length-le l past)
    ∙ append-nil (take 510 l ++ (a ∷ b ∷ []))

-- a refused block stays as it was
pub unsealed : (block : List ℕ) → (length block ≡ 512 → ⊥) → seal_bytes block ≡ block
unfolding seal_bytes answered refused_or seal_tests first_failing
unsealed block n = rw (ne_eqb (length block) 512 n)

pub unsealed_answer :
    (block : List ℕ)
    → (length block ≡ 512 → ⊥)
    → seal_answer block ≡ Err BlockLength
unfolding seal_answer answered refused_or seal_tests first_failing
unsealed_answer block n = rw (ne_eqb (length block) 512 n)

module _ (block : List ℕ) (full : length block ≡ 512) where
  pub sealed : seal_bytes block ≡ take 510 block ++ (check_sum block / 256 ∷ check_sum block % 256 ∷ [])
  unfolding seal_bytes with_check answered refused_or seal_tests first_failing
  sealed = rw (eq-eqb (length block) 512 full)

  pub sealed_answer : seal_answer block ≡ Ok tt
  unfolding seal_answer answered refused_or seal_tests first_failing
  sealed_answer = rw (eq-eqb (length block) 512 full)

  -- the writes of a check
  pub sealed_writes :
      (check : ℕ) → check ≡ check_sum block → set (set block 510 (check / 256)) 511 (check % 256) ≡ seal_bytes block
  sealed_writes check e = rw e (set_two block (check_sum block / 256) (check_sum block % 256) full ∙ sym sealed)

  body_length : length (take 510 block) ≡ 510
  body_length = length-take-le 510 block (omega arith)

  -- "other bytes unchanged"
  pub sealed_same : (i : ℕ) → i < 510 → get_or (seal_bytes block) i 0 ≡ get_or block i 0
  sealed_same i h =
      let l : i < length (take 510 block) = rw body_length h in
      rw (sealed, get_or-append (take 510 block) (check_sum block / 256 ∷ check_sum block % 256 ∷ []) 0 i l)
      (get_or-take 510 block i 0 h)

  sealed_sum : check_sum (seal_bytes block) ≡ check_sum block
  unfolding check_sum
  sealed_sum =
      rw (sealed, take_at (take 510 block) (check_sum block / 256 ∷ check_sum block % 256 ∷ []) 510 body_length)

  sealed_high : get_or (seal_bytes block) 510 0 ≡ check_sum block / 256
  sealed_high =
      rw sealed (get_or_at (take 510 block) (check_sum block / 256) (check_sum block % 256 ∷ []) 0 510 body_length)

  sealed_low : get_or (seal_bytes block) 511 0 ≡ check_sum block % 256
  sealed_low =
      let e : length (take 510 block) + 1 ≡ 511 = ap (λ (n : ℕ). n + 1) body_length in
      rw sealed
      (rw e at (get_or-append-add (take 510 block) (check_sum block / 256 ∷ check_sum block % 256 ∷ []) 1 0))

  -- a sealed block carries the check that the reader requires
  pub sealed_check : check_holds (seal_bytes block) ≡ true
  unfolding check_holds
  sealed_check =
      eq-eqb (256 * get_or (seal_bytes block) 510 0 + get_or (seal_bytes block) 511 0) (check_sum (seal_bytes block))
      (simp (sealed_high, sealed_low, sealed_sum) (omega arith))
