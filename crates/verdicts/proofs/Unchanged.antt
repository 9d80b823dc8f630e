-- Document 02, N4: "No call's answer changes." The six cases say of every byte of a rule and every number of an access
-- what the test by numbers said that they replace. Assumes nothing.
use Prim.Native.Nat.{ℕ, zero, suc}
use native.Mathlib.Omega.{arith}
use mathlib.Core.Path.{◌≡◌, refl, sym}
use mathlib.Core.Bool.{Bool, false}
use lib.Dec.{eqb, ltb}
use borrow.Author.Tests.{ne_eqb, le-ltb}
use Rattle.book.specs.Rule.{action_of}
use Rattle.verdicts.specs.Actions.{action_fits, channel_fits}

-- the test as it was
unfoldable pub fits_by_number : (byte channel : ℕ) → Bool
fits_by_number zero s = false
fits_by_number (suc zero) s = eqb s 0
fits_by_number (suc (suc zero)) s = eqb s 1
fits_by_number (suc (suc (suc zero))) s = ltb s 2
fits_by_number (suc (suc (suc (suc n)))) s = false

pub unchanged : (byte s : ℕ) → channel_fits s (action_of byte) ≡ fits_by_number byte s
unfolding fits_by_number action_fits channel_fits action_of
unchanged zero zero = refl
unchanged zero (suc zero) = refl
unchanged zero (suc (suc s)) = refl
unchanged (suc zero) zero = refl
unchanged (suc zero) (suc zero) = refl
unchanged (suc zero) (suc (suc s)) = sym (ne_eqb (suc (suc s)) 0 (λ h. omega arith))
unchanged (suc (suc zero)) zero = refl
unchanged (suc (suc zero)) (suc zero) = refl
unchanged (suc (suc zero)) (suc (suc s)) = sym (ne_eqb (suc (suc s)) 1 (λ h. omega arith))
unchanged (suc (suc (suc zero))) zero = refl
unchanged (suc (suc (suc zero))) (suc zero) = refl
unchanged (suc (suc (suc zero))) (suc (suc s)) = sym (le-ltb (suc (suc s)) 2 (omega arith))
unchanged (suc (suc (suc (suc n)))) zero = refl
unchanged (suc (suc (suc (suc n)))) (suc zero) = refl
unchanged (suc (suc (suc (suc n)))) (suc (suc s)) = refl
