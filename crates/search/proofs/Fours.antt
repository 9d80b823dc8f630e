-- Laws of a word that is four masks of 16 bits, one above the other. Assumes nothing.
use Prim.Native.Nat.{ℕ, zero, suc, ◌+◌, ◌-◌, ◌*◌, ◌/◌, ◌%◌, ◌^◌, ◌≤◌, ◌<◌}
use native.Mathlib.Omega.{arith}
use native.Mathlib.Nat.{pow-suc, mul_assoc, mul_comm}
use mathlib.Core.Path.{◌≡◌, refl, sym, ap, ◌∙◌}
use mathlib.Core.Bool.{Bool, true, false, ◌&&◌, cond}
use lib.Bits.{and_mask}
use lib.Dec.{ltb}
use borrow.Author.Tests.{ltb-true, ltb-false, lt-ltb, le-ltb}
use Rattle.book.specs.Sets.{has}
use Rattle.book.proofs.Members.{has_low, has_high, has_and, has_below}
use Rattle.book.proofs.Lists.{and_end}

-- One word above another

low_half : (a x : ℕ) → (a + 2 * x) % 2 ≡ a % 2
low_half a x = omega arith

high_half : (a x : ℕ) → (a + 2 * x) / 2 ≡ a / 2 + x
high_half a x = omega arith

twice : (n b : ℕ) → 2 ^ suc n * b ≡ 2 * (2 ^ n * b)
twice n b = rw (pow-suc 2 n, mul_comm (2 ^ n) 2) (mul_assoc 2 (2 ^ n) b)

pub has_stack :
    (n a b i : ℕ) → a < 2 ^ n → has (a + 2 ^ n * b) i ≡ cond (ltb i n) (has a i) (has b (i - n))
has_stack zero a b i h =
    let z : a ≡ 0 = omega arith in
    let e : a + 2 ^ 0 * b ≡ b = omega arith in
    let f : i - 0 ≡ i = omega arith in
    rw (e, f, le-ltb i 0 (omega arith))
has_stack (suc n) a b zero h =
    rw (twice n b, has_low (a + 2 * (2 ^ n * b)), low_half a (2 ^ n * b), lt-ltb 0 (suc n) (omega arith), has_low a)
has_stack (suc n) a b (suc i) h =
    let p : 2 ^ suc n ≡ 2 ^ n * 2 = pow-suc 2 n in
    let e : suc i - suc n ≡ i - n = omega arith in
    rw (twice n b, has_high (a + 2 * (2 ^ n * b)) i, high_half a (2 ^ n * b), has_high a i, e)
    (has_stack n (a / 2) b i (omega arith) ∙ ap (λ (t : Bool). cond t (has (a / 2) i) (has b (i - n))) (shift (ltb i n) refl))
  where
    shift : (t : Bool) → ltb i n ≡ t → t ≡ ltb (suc i) (suc n)
    shift true l = sym (lt-ltb (suc i) (suc n) (omega (arith, ltb-true i n l)))
    shift false l = sym (le-ltb (suc i) (suc n) (omega (arith, ltb-false i n l)))

-- Four masks

module _ (a b c d i : ℕ) (ha : a < 65536) (hb : b < 65536) (hc : c < 65536) (l : i < 64) where
  stacked :
      has (a + 65536 * (b + 65536 * (c + 65536 * d))) i
      ≡ cond (ltb i 16) (has a i)
      (cond (ltb (i - 16) 16) (has b (i - 16))
      (cond (ltb (i - 16 - 16) 16) (has c (i - 16 - 16)) (has d (i - 16 - 16 - 16))))
  stacked =
      has_stack 16 a (b + 65536 * (c + 65536 * d)) i ha
      ∙ ap (λ (t : Bool). cond (ltb i 16) (has a i) t)
      (has_stack 16 b (c + 65536 * d) (i - 16) hb
      ∙ ap (λ (t : Bool). cond (ltb (i - 16) 16) (has b (i - 16)) t) (has_stack 16 c d (i - 16 - 16) hc))

  -- the mask that bit i is in
  pub has_four :
      has (a + 65536 * b + 4294967296 * c + 281474976710656 * d) i
      ≡ has (cond (ltb i 16) a (cond (ltb i 32) b (cond (ltb i 48) c d))) (i % 16)
  has_four =
      let e : a + 65536 * b + 4294967296 * c + 281474976710656 * d ≡ a + 65536 * (b + 65536 * (c + 65536 * d)) =
      omega arith in
      rw e (stacked ∙ first (ltb i 16) refl)
    where
      third :
          (t : Bool)
          → ltb i 48 ≡ t
          → 32 ≤ i
          → cond (ltb (i - 16 - 16) 16) (has c (i - 16 - 16)) (has d (i - 16 - 16 - 16)) ≡ has (cond t c d) (i % 16)
      third true e m =
          let n : i < 48 = ltb-true i 48 e in
          let z : i - 16 - 16 ≡ i % 16 = omega arith in
          rw (lt-ltb (i - 16 - 16) 16 (omega arith), z)
      third false e m =
          let n : 48 ≤ i = ltb-false i 48 e in
          let z : i - 16 - 16 - 16 ≡ i % 16 = omega arith in
          rw (le-ltb (i - 16 - 16) 16 (omega arith), z)

      second :
          (t : Bool)
          → ltb i 32 ≡ t
          → 16 ≤ i
          → cond (ltb (i - 16) 16) (has b (i - 16))
          (cond (ltb (i - 16 - 16) 16) (has c (i - 16 - 16)) (has d (i - 16 - 16 - 16)))
          ≡ has (cond t b (cond (ltb i 48) c d)) (i % 16)
      second true e m =
          let n : i < 32 = ltb-true i 32 e in
          let z : i - 16 ≡ i % 16 = omega arith in
          rw (lt-ltb (i - 16) 16 (omega arith), z)
      second false e m =
          let n : 32 ≤ i = ltb-false i 32 e in
          rw (le-ltb (i - 16) 16 (omega arith)) (third (ltb i 48) refl n)

      first :
          (t : Bool)
          → ltb i 16 ≡ t
          → cond t (has a i)
          (cond (ltb (i - 16) 16) (has b (i - 16))
          (cond (ltb (i - 16 - 16) 16) (has c (i - 16 - 16)) (has d (i - 16 - 16 - 16))))
          ≡ has (cond t a (cond (ltb i 32) b (cond (ltb i 48) c d))) (i % 16)
      first true e =
          let n : i < 16 = ltb-true i 16 e in
          let z : i ≡ i % 16 = omega arith in
          rw (← z)
      first false e = second (ltb i 32) refl (ltb-false i 16 e)

-- the low bits of a word
pub has_cut : (n w k : ℕ) → k < n → has (w % 2 ^ n) k ≡ has w k
has_cut n w k l =
    rw (← and_mask w n)
    (has_and w (2 ^ n - 1) k ∙ ap (λ (t : Bool). has w k && t) (has_below n k ∙ lt-ltb k n l) ∙ and_end (has w k))

-- the word that the code makes
pub four_masks :
    (a b c d i : ℕ)
    → i < 64
    → has (a % 65536 + 65536 * (b % 65536) + 4294967296 * (c % 65536) + 281474976710656 * (d % 65536)) i
    ≡ has (cond (ltb i 16) a (cond (ltb i 32) b (cond (ltb i 48) c d))) (i % 16)
four_masks a b c d i l =
    has_four (a % 65536) (b % 65536) (c % 65536) (d % 65536) i (omega arith) (omega arith) (omega arith) l
    ∙ cut (ltb i 16) (ltb i 32) (ltb i 48)
  where
    cut :
        (s t u : Bool)
        → has (cond s (a % 65536) (cond t (b % 65536) (cond u (c % 65536) (d % 65536)))) (i % 16)
        ≡ has (cond s a (cond t b (cond u c d))) (i % 16)
    cut true t u = has_cut 16 a (i % 16) (omega arith)
    cut false true u = has_cut 16 b (i % 16) (omega arith)
    cut false false true = has_cut 16 c (i % 16) (omega arith)
    cut false false false = has_cut 16 d (i % 16) (omega arith)

-- the four masks as a function of the number of the mask
pub four_same :
    (f : ℕ → ℕ) (word i : ℕ)
    → i < 64
    → has word i ≡ has (cond (ltb i 16) (f 0) (cond (ltb i 32) (f 1) (cond (ltb i 48) (f 2) (f 3)))) (i % 16)
    → has word i ≡ has (f (i / 16)) (i % 16)
four_same f word i l h = h ∙ first (ltb i 16) refl
  where
    third : (t : Bool) → ltb i 48 ≡ t → 32 ≤ i → has (cond t (f 2) (f 3)) (i % 16) ≡ has (f (i / 16)) (i % 16)
    third true e m =
        let n : i < 48 = ltb-true i 48 e in
        let z : i / 16 ≡ 2 = omega arith in
        rw z
    third false e m =
        let n : 48 ≤ i = ltb-false i 48 e in
        let z : i / 16 ≡ 3 = omega arith in
        rw z

    second :
        (t : Bool)
        → ltb i 32 ≡ t
        → 16 ≤ i
        → has (cond t (f 1) (cond (ltb i 48) (f 2) (f 3))) (i % 16) ≡ has (f (i / 16)) (i % 16)
    second true e m =
        let n : i < 32 = ltb-true i 32 e in
        let z : i / 16 ≡ 1 = omega arith in
        rw z
    second false e m = third (ltb i 48) refl (ltb-false i 32 e)

    first :
        (t : Bool)
        → ltb i 16 ≡ t
        → has (cond t (f 0) (cond (ltb i 32) (f 1) (cond (ltb i 48) (f 2) (f 3)))) (i % 16)
        ≡ has (f (i / 16)) (i % 16)
    first true e =
        let n : i < 16 = ltb-true i 16 e in
        let z : i / 16 ≡ 0 = omega arith in
        rw z
    first false e = second (ltb i 32) refl (ltb-false i 16 e)

-- four masks that each say of their operations what a test says
pub four_tests :
    (test : ℕ → ℕ → Bool) (d a b c e word : ℕ)
    → ((k : ℕ) → k < 16 → has a k ≡ test d k)
    → ((k : ℕ) → k < 16 → has b k ≡ test (d + 1) k)
    → ((k : ℕ) → k < 16 → has c k ≡ test (d + 2) k)
    → ((k : ℕ) → k < 16 → has e k ≡ test (d + 3) k)
    → (i : ℕ)
    → i < 64
    → has word i ≡ has (cond (ltb i 16) a (cond (ltb i 32) b (cond (ltb i 48) c e))) (i % 16)
    → has word i ≡ test (d + i / 16) (i % 16)
four_tests test d a b c e word ha hb hc he i l h =
    four_same mask word i l h ∙ at (i / 16) (omega arith) (i % 16) (omega arith)
  where
    mask : ℕ → ℕ
    mask zero = a
    mask (suc zero) = b
    mask (suc (suc zero)) = c
    mask (suc (suc (suc n))) = e

    at : (m : ℕ) → m < 4 → (k : ℕ) → k < 16 → has (mask m) k ≡ test (d + m) k
    at zero s k t =
        let z : d + 0 ≡ d = omega arith in
        rw z (ha k t)
    at (suc zero) s k t = hb k t
    at (suc (suc zero)) s k t = hc k t
    at (suc (suc (suc zero))) s k t = he k t
    at (suc (suc (suc (suc n)))) s k t = absurd (omega arith)
