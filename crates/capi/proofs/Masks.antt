-- A mask and one bit more, as Culprits packs them. Assumes nothing.
use Prim.Native.Nat.{ℕ, ◌+◌, ◌^◌, ◌<◌}
use native.Mathlib.Omega.{arith}
use mathlib.Core.Path.{◌≡◌, refl, ◌∙◌}
use mathlib.Core.Bool.{Bool, true, false, ◌&&◌}
use lib.Bits.{bit_and, bit_or, and_lt, or_disjoint, or_lt}
use lib.Dec.{eqb}
use lib.Pow.{pow-lt, pow_pos}
use borrow.Author.Tests.{eqb-true}
use Rattle.book.specs.Sets.{has}
use Rattle.book.proofs.Members.{has_and, has_or, has_single, has_zero, same_members}
use Rattle.blocked.specs.Few.{with_asking}

module _ (mask r : ℕ) (fits : mask < 2 ^ 32) (low : r < 32) (clear : has mask r ≡ false) where
  bit_fits : 2 ^ r < 2 ^ 32
  bit_fits = pow-lt {i = r} {j = 32} low

  apart : bit_and (2 ^ r) mask ≡ 0
  apart =
      same_members 32 (bit_and (2 ^ r) mask) 0 (and_lt 32 (2 ^ r) mask bit_fits fits) (pow_pos 32)
      (λ q l. has_and (2 ^ r) mask q ∙ rw (has_single q r, has_zero q) (go q (eqb q r) refl))
    where
      go : (q : ℕ) (b : Bool) → eqb q r ≡ b → (b && has mask q) ≡ false
      go q true e = let same = eqb-true q r e in rw same clear
      go q false e = refl

  pub both : mask + 2 ^ r ≡ bit_or (2 ^ r) mask
  both =
      let e = or_disjoint (2 ^ r) mask apart in
      omega arith

  pub asking_bits : (q : ℕ) → has (mask + 2 ^ r) q ≡ with_asking r (has mask) q
  unfolding with_asking
  asking_bits q = rw both (has_or (2 ^ r) mask q ∙ rw (has_single q r))

  pub asking_fits : mask + 2 ^ r < 2 ^ 32
  asking_fits = rw both (or_lt 32 (2 ^ r) mask bit_fits fits)

  pub asking_some : 0 < mask + 2 ^ r
  asking_some = let some = pow_pos r in omega arith
