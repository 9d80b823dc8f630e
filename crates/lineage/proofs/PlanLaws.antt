-- Laws of a plan's tests: of kinds by their number, of a row by its kind, and of a plan. Assumes nothing.
use Prim.Native.Nat.{ℕ, zero, suc, ◌%◌, ◌≤◌}
use native.Mathlib.Omega.{arith}
use mathlib.Core.Path.{◌≡◌, refl}
use mathlib.Core.Bool.{true, false, ◌&&◌}
use mathlib.Core.List.{List}
use lib.ListN.{length}
use lib.Dec.{eqb, leb}
use borrow.Author.Tests.{lt-leb, leb-true, eqb-true}
use Rattle.book.specs.Lists.{flat, up_to}
use Rattle.book.specs.Tests.{Passes, first_failing}
use Rattle.std.specs.Prelude.{Err}
use Rattle.book.specs.declared.refusal.Refusal.TheVariants.{PlanLength, FaultyRow}
use Rattle.book.proofs.Lists.{and_both, and_false}
use Rattle.lineage.specs.Rows.{Unknown}
use Rattle.lineage.specs.Rows.{row_count, kind_of, is_value, row_holds}
use Rattle.lineage.specs.Answers.{plan_length_holds, row_tests, plan_tests}

-- Kinds

pub value_test : (n : ℕ) → (leb 1 n && leb n 3) ≡ is_value (kind_of n)
unfolding kind_of is_value
value_test zero = refl
value_test (suc zero) = refl
value_test (suc (suc zero)) = refl
value_test (suc (suc (suc zero))) = refl
value_test (suc (suc (suc (suc zero)))) = refl
value_test (suc (suc (suc (suc (suc zero))))) = refl
value_test (suc (suc (suc (suc (suc (suc n)))))) =
    rw (lt-leb (suc (suc (suc (suc (suc (suc n)))))) 3 (omega arith))
    (and_false (leb 1 (suc (suc (suc (suc (suc (suc n))))))))

pub kind_other :
    (n : ℕ) → (n ≡ 1 → ⊥) → (n ≡ 2 → ⊥) → (n ≡ 3 → ⊥) → (n ≡ 4 → ⊥) → (n ≡ 5 → ⊥) → kind_of n ≡ Unknown
unfolding kind_of
kind_other zero a b c d e = refl
kind_other (suc zero) a b c d e = absurd (a refl)
kind_other (suc (suc zero)) a b c d e = absurd (b refl)
kind_other (suc (suc (suc zero))) a b c d e = absurd (c refl)
kind_other (suc (suc (suc (suc zero)))) a b c d e = absurd (d refl)
kind_other (suc (suc (suc (suc (suc zero))))) a b c d e = absurd (e refl)
kind_other (suc (suc (suc (suc (suc (suc n)))))) a b c d e = refl

-- Rows

module _ (head plan : List ℕ) (i : ℕ) where
  pub row_passed : row_holds head plan i ≡ true → Passes (row_tests head plan i)
  unfolding first_failing row_tests
  row_passed h = rw h

  pub row_failed :
      row_holds head plan i ≡ false → first_failing (row_tests head plan i) ≡ Err (FaultyRow i)
  unfolding first_failing row_tests
  row_failed h = rw h

-- The tests of a plan

-- "not a multiple of 4 or above 256"
pub plan_length_law : (n : ℕ) → plan_length_holds n ≡ true → (n % 4 ≡ 0) × (n ≤ 256)
unfolding plan_length_holds
plan_length_law n h =
    let b = and_both (eqb (n % 4) 0) (leb n 256) h in
    (eqb-true (n % 4) 0 b.0, leb-true n 256 b.1)

module _ (head plan : List ℕ) where
  pub plan_refused :
      plan_length_holds (length plan) ≡ false
      → first_failing (plan_tests head plan) ≡ Err PlanLength
  unfolding plan_tests first_failing
  plan_refused h = rw h

  pub plan_rows :
      plan_length_holds (length plan) ≡ true
      → first_failing (plan_tests head plan) ≡ first_failing (flat (row_tests head plan) (up_to (row_count plan)))
  unfolding plan_tests first_failing
  plan_rows h = rw h
