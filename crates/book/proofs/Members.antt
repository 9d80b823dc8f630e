-- Laws of sets as words, for every width: a word's bit 0 is its parity, its bits above are those of its half.
-- Assumes nothing.
use Prim.Native.Nat.{ℕ, zero, suc, ◌+◌, ◌*◌, ◌-◌, ◌/◌, ◌%◌, ◌^◌, ◌≤◌, ◌<◌}
use native.Mathlib.Nat.{pow-suc, pow-succ', div-one, sub-zero, div-div-eq-div-mul, div-eq_of_lt, zero-div, one-mul}
use native.Mathlib.Nat.{zero-sub}
use native.Mathlib.Nat.{lt_of_lt_of_le, lt_of_le_of_lt}
use native.Mathlib.Omega.{arith}
use mathlib.Core.Path.{◌≡◌, refl, sym, ◌∙◌}
use mathlib.Core.Bool.{Bool, true, false, ◌&&◌, ◌||◌, not, cond}
use mathlib.Core.List.{List}
use Rattle.std.specs.Prelude.{◌≢◌}
use Rattle.std.proofs.lemmas.Nat.{le_or_l, le_or_r}
use lib.ListN.{length, get_or, set}
use lib.Seq.{get_or-set_same, get_or-set_other}
use lib.Dec.{eqb, ltb, eqb-suc-suc, eqb-zero-suc, eqb-suc-zero, leb-suc-suc}
use lib.Pow.{pow_mono, pow_pos, shl_exact}
use lib.Bits.{bit_and, bit_or, and_shr, or_shr, and_mod, or_mod, and_le_l, or_zero_r, or_comm, and_comm}
use borrow.Author.Tests.{ltb-true, ltb-false, eq-eqb, ne_eqb, eqb-true, eqb-false, lt-ltb, le-ltb, not-true}
use Rattle.book.specs.Lists.{all, up_to}
use Rattle.book.specs.Sets.{has, less, WordOf}
use Rattle.book.proofs.Lists.{and_true, and_left, and_right, same_test, and_first, and_second, and_never, and_end, and_false, or_end, or_true, ltb_more}
use Rattle.book.proofs.Lists.{all_at, at_all}

-- Bits

pub has_low : (a : ℕ) → has a 0 ≡ eqb (a % 2) 1
unfolding has
has_low a = rw div-one

pub has_high : (a i : ℕ) → has a (suc i) ≡ has (a / 2) i
unfolding has
has_high a i = rw (pow-succ', div-div-eq-div-mul)

pub has_zero : (i : ℕ) → has 0 i ≡ false
unfolding has
has_zero i = rw zero-div

-- a word is even where bit 0 is not set
pub even : (w : ℕ) → eqb (w % 2) 0 ≡ not (has w 0)
even w = rw has_low (go (w % 2) (omega arith))
  where
    go : (m : ℕ) → m < 2 → eqb m 0 ≡ not (eqb m 1)
    go zero l = refl
    go (suc zero) l = refl
    go (suc (suc m)) l = absurd (omega arith)

-- Operations on words

or_bit : (x y : ℕ) → x < 2 → y < 2 → eqb (bit_or x y) 1 ≡ (eqb x 1 || eqb y 1)
or_bit zero y p q = refl
or_bit (suc zero) zero p q = refl
or_bit (suc zero) (suc zero) p q = refl
or_bit (suc zero) (suc (suc y)) p q = absurd (omega arith)
or_bit (suc (suc x)) y p q = absurd (omega arith)

pub has_or : (a b i : ℕ) → has (bit_or a b) i ≡ (has a i || has b i)
unfolding has
has_or a b i =
    rw (or_shr, or_mod (a / 2 ^ i) (b / 2 ^ i) 1)
    (or_bit (a / 2 ^ i % 2) (b / 2 ^ i % 2) (omega arith) (omega arith))

and_bit : (x y : ℕ) → x < 2 → y < 2 → eqb (bit_and x y) 1 ≡ (eqb x 1 && eqb y 1)
and_bit zero y p q = refl
and_bit (suc zero) zero p q = refl
and_bit (suc zero) (suc zero) p q = refl
and_bit (suc zero) (suc (suc y)) p q = absurd (omega arith)
and_bit (suc (suc x)) y p q = absurd (omega arith)

pub has_and : (a b i : ℕ) → has (bit_and a b) i ≡ (has a i && has b i)
unfolding has
has_and a b i =
    rw (and_shr, and_mod (a / 2 ^ i) (b / 2 ^ i) 1)
    (and_bit (a / 2 ^ i % 2) (b / 2 ^ i % 2) (omega arith) (omega arith))

pub has_cond : (b : Bool) (w i : ℕ) → has (cond b w 0) i ≡ (b && has w i)
has_cond true w i = refl
has_cond false w i = has_zero i

-- Within a width

pub has_above : (n a i : ℕ) → a < 2 ^ n → n ≤ i → has a i ≡ false
unfolding has
has_above n a i h l = rw (div-eq_of_lt (lt_of_lt_of_le h (pow_mono l)))

-- the complement of a set below n, as the code's `!b` computes it
pub has_not : (n b i : ℕ) → b < 2 ^ n → has ((2 ^ n - 1) - b) i ≡ (ltb i n && not (has b i))
has_not zero b i h =
    let e : (2 ^ 0 - 1) - b ≡ 0 = omega arith in
    rw (e, has_zero, le-ltb i 0 (omega arith))
has_not (suc n) b zero h =
    let p = pow-suc 2 n in
    let e : ((2 ^ suc n - 1) - b) % 2 ≡ 1 - b % 2 = omega arith in
    rw (has_low, e, has_low, lt-ltb 0 (suc n) (omega arith)) (other (b % 2) (omega arith))
  where
    other : (x : ℕ) → x < 2 → eqb (1 - x) 1 ≡ not (eqb x 1)
    other zero q = refl
    other (suc zero) q = refl
    other (suc (suc x)) q = absurd (omega arith)
has_not (suc n) b (suc i) h =
    let p = pow-suc 2 n in
    let e : ((2 ^ suc n - 1) - b) / 2 ≡ (2 ^ n - 1) - b / 2 = omega arith in
    rw (has_high, e, has_high, leb-suc-suc) (has_not n (b / 2) i (omega arith))

-- what the code's `a & !b` holds
pub has_minus :
    (n a b i : ℕ) → a < 2 ^ n → b < 2 ^ n → has (bit_and a ((2 ^ n - 1) - b)) i ≡ (has a i && not (has b i))
has_minus n a b i p q = rw (has_and, has_not n b i q) (go (ltb i n) refl)
  where
    go : (t : Bool) → ltb i n ≡ t → (has a i && (ltb i n && not (has b i))) ≡ (has a i && not (has b i))
    go true e = rw e
    go false e = rw (has_above n a i p (ltb-false i n e))

-- a set less another: what one bit and the bits above it are
and_low : (a b : ℕ) → bit_and a b % 2 ≡ bit_and (a % 2) (b % 2)
and_low a b = and_mod a b 1

and_half : (a b : ℕ) → bit_and a b / 2 ≡ bit_and (a / 2) (b / 2)
and_half a b = and_shr a b 1

less_low : (a b : ℕ) → less a b % 2 ≡ less (a % 2) (b % 2)
unfolding less
less_low a b =
    let whole = and_le_l a b in
    let bit = and_le_l (a % 2) (b % 2) in
    let same = and_low a b in
    omega arith

less_half : (a b : ℕ) → less a b / 2 ≡ less (a / 2) (b / 2)
unfolding less
less_half a b =
    let whole = and_le_l a b in
    let bit = and_le_l (a % 2) (b % 2) in
    let same = and_low a b in
    let half = and_half a b in
    omega arith

less_bit : (x y : ℕ) → x < 2 → y < 2 → eqb (less x y) 1 ≡ (eqb x 1 && not (eqb y 1))
unfolding less
less_bit zero y p q = refl
less_bit (suc zero) zero p q = refl
less_bit (suc zero) (suc zero) p q = refl
less_bit (suc zero) (suc (suc y)) p q = absurd (omega arith)
less_bit (suc (suc x)) y p q = absurd (omega arith)

-- nothing less a set is nothing
pub none_less : (b : ℕ) → less 0 b ≡ 0
unfolding less
none_less b = zero-sub (bit_and 0 b)

pub less_none : (a : ℕ) → less a 0 ≡ a
unfolding less
less_none a = rw (and_comm a 0) (sub-zero a)

pub none_or : (a : ℕ) → bit_or 0 a ≡ a
none_or a = or_comm 0 a ∙ or_zero_r a

pub has_less : (a b i : ℕ) → has (less a b) i ≡ (has a i && not (has b i))
has_less a b zero =
    rw (has_low (less a b), has_low a, has_low b, less_low a b)
    (less_bit (a % 2) (b % 2) (omega arith) (omega arith))
has_less a b (suc i) =
    rw (has_high (less a b) i, has_high a i, has_high b i, less_half a b) (has_less (a / 2) (b / 2) i)

-- the numbers below n
pub has_below : (n j : ℕ) → has (2 ^ n - 1) j ≡ ltb j n
has_below n j = (rw (sub-zero (2 ^ n - 1)) at (has_not n 0 j (pow_pos n))) ∙ rw (has_zero, and_end)

-- the set of i alone
pub has_single : (j i : ℕ) → has (2 ^ i) j ≡ eqb j i
has_single zero zero = rw has_low
has_single (suc j) zero = rw (has_high, has_zero, eqb-suc-zero)
has_single zero (suc i) =
    let p = pow-suc 2 i in
    let e : 2 ^ suc i % 2 ≡ 0 = omega arith in
    rw (has_low, e, eqb-zero-suc i)
has_single (suc j) (suc i) =
    let p = pow-suc 2 i in
    let e : 2 ^ suc i / 2 ≡ 2 ^ i = omega arith in
    rw (has_high, e, eqb-suc-suc) (has_single j i)

-- the code's `1 << i`
pub single_shift : (n i : ℕ) → i < n → (1 * 2 ^ i) % 2 ^ n ≡ 2 ^ i
single_shift n i h = shl_exact 1 i n (omega arith) (omega arith) ∙ one-mul (2 ^ i)

-- the same within a word of n bits, as `single` and `below` give it
pub single_in : (n i j : ℕ) → i < n → has (2 ^ i) j ≡ (ltb j n && eqb j i)
single_in n i j h =
    rw has_single (sym (and_second (ltb j n) (eqb j i) (λ e. lt-ltb j n (omega (arith, eqb-true j i e)))))

pub single_out : (n i j : ℕ) → n ≤ i → has 0 j ≡ (ltb j n && eqb j i)
single_out n i j h =
    rw has_zero
    (sym (and_never (ltb j n) (eqb j i) (λ e. ne_eqb j i (λ d. omega (arith, ltb-true j n e)))))

-- i joins a set, as `with` has it: i is a member, and others are as they were
pub with_same : (set s i : ℕ) → WordOf (λ j. eqb j i) s → i < 64 → has (bit_or set s) i ≡ true
with_same set s i w h = rw (has_or set s i, w i, lt-ltb i 64 h, eq-eqb i i refl) (or_true (has set i))

pub with_other : (set s i : ℕ) → WordOf (λ j. eqb j i) s → (k : ℕ) → k ≢ i → has (bit_or set s) k ≡ has set k
with_other set s i w k d = rw (has_or set s k, w k, ne_eqb k i d, and_false) (or_end (has set k))

pub below_in : (n k j : ℕ) → k ≤ n → has (2 ^ k - 1) j ≡ (ltb j n && ltb j k)
below_in n k j h =
    rw has_below (sym (and_second (ltb j n) (ltb j k) (λ e. lt-ltb j n (omega (arith, ltb-true j k e)))))

pub below_out : (n k j : ℕ) → n ≤ k → has (2 ^ n - 1) j ≡ (ltb j n && ltb j k)
below_out n k j h =
    rw has_below (sym (and_first (ltb j n) (ltb j k) (λ e. lt-ltb j k (omega (arith, ltb-true j n e)))))

-- Words by their members

bits_same : (x y : ℕ) → x < 2 → y < 2 → eqb x 1 ≡ eqb y 1 → x ≡ y
bits_same zero zero p q e = refl
bits_same zero (suc zero) p q e = cc
bits_same (suc zero) zero p q e = cc
bits_same (suc zero) (suc zero) p q e = refl
bits_same zero (suc (suc y)) p q e = absurd (omega arith)
bits_same (suc zero) (suc (suc y)) p q e = absurd (omega arith)
bits_same (suc (suc x)) y p q e = absurd (omega arith)

pub same_members : (n a b : ℕ) → a < 2 ^ n → b < 2 ^ n → ((i : ℕ) → i < n → has a i ≡ has b i) → a ≡ b
same_members zero a b p q h = omega arith
same_members (suc n) a b p q h =
    let s = pow-suc 2 n in
    let low : a % 2 ≡ b % 2 =
    bits_same (a % 2) (b % 2) (omega arith) (omega arith) (rw (has_low, has_low) at (h 0 (omega arith))) in
    let high : a / 2 ≡ b / 2 =
    same_members n (a / 2) (b / 2) (omega arith) (omega arith)
    (λ i l. rw (has_high, has_high) at (h (suc i) (omega arith))) in
    omega arith

-- the code's `a & !b`
pub minus_less : (n a b : ℕ) → a < 2 ^ n → b < 2 ^ n → bit_and a ((2 ^ n - 1) - b) ≡ less a b
unfolding less
minus_less n a b p q =
    same_members n (bit_and a ((2 ^ n - 1) - b)) (less a b) (lt_of_le_of_lt (and_le_l a ((2 ^ n - 1) - b)) p)
    (omega arith) (λ i l. has_minus n a b i p q ∙ sym (has_less a b i))

pub empty_none : (n a : ℕ) → a < 2 ^ n → eqb a 0 ≡ all (λ i. not (has a i)) (up_to n)
empty_none n a p =
    same_test (eqb a 0) (all (λ i. not (has a i)) (up_to n))
    (λ e. at_all (λ i. not (has a i)) n (λ i l. rw (eqb-true a 0 e, has_zero)))
    (λ e.
    eq-eqb a 0
    (same_members n a 0 p (pow_pos n)
    (λ i l. rw has_zero (not-true (has a i) (all_at (λ i. not (has a i)) n e i l)))))

-- the code's `a & b == 0`
pub disjoint_test : (n a b : ℕ) → a < 2 ^ n → eqb (bit_and a b) 0 ≡ all (λ i. not (has a i && has b i)) (up_to n)
disjoint_test n a b p =
    rw (empty_none n (bit_and a b) (lt_of_le_of_lt (and_le_l a b) p)) (simp has_and)

-- the code's `a & !b == 0`
pub subset_test : (m n a b : ℕ) → m ≤ n → a < 2 ^ m → b < 2 ^ n
    → eqb (bit_and a ((2 ^ n - 1) - b)) 0 ≡ all (λ i. not (has a i) || has b i) (up_to m)
subset_test m n a b l p q =
    let minus : (i : ℕ) → has (bit_and a ((2 ^ n - 1) - b)) i ≡ (has a i && not (has b i)) =
    λ i. has_minus n a b i (lt_of_lt_of_le p (pow_mono l)) q in
    rw (empty_none m (bit_and a ((2 ^ n - 1) - b)) (lt_of_le_of_lt (and_le_l a ((2 ^ n - 1) - b)) p))
    (simp (minus, not_minus))
  where
    not_minus : (s t : Bool) → not (s && not t) ≡ (not s || t)
    not_minus true true = refl
    not_minus true false = refl
    not_minus false t = refl

-- Tables of words

-- a table with a word added to the rows below k that a mask names
abbrev pub Added : List ℕ → ℕ → ℕ → List ℕ → ℕ → Type 0
Added words word mask table k =
    (j : ℕ) → get_or table j 0 ≡ bit_or (get_or words j 0) (cond (ltb j k && has mask j) word 0)

pub added_none : (words : List ℕ) (word mask : ℕ) → Added words word mask words 0
added_none words word mask j = rw (le-ltb j 0 (omega arith), or_zero_r)

pub added_here : (words : List ℕ) (word mask : ℕ) (table : List ℕ) (k : ℕ) → k < length table → has mask k ≡ true
    → Added words word mask table k → Added words word mask (set table k (bit_or (get_or words k 0) word)) (k + 1)
added_here words word mask table k h m old j = go (eqb j k) refl
  where
    go :
        (t : Bool)
        → eqb j k ≡ t
        → get_or (set table k (bit_or (get_or words k 0) word)) j 0
        ≡ bit_or (get_or words j 0) (cond (ltb j (k + 1) && has mask j) word 0)
    go true e =
        rw (eqb-true j k e, get_or-set_same table k (bit_or (get_or words k 0) word) 0 h, lt-ltb k (k + 1) (omega arith), m)
    go false e =
        let n = eqb-false j k e in
        rw (get_or-set_other table k j (bit_or (get_or words k 0) word) 0 n, ltb_more j k n) (old j)

-- word k is not joined yet
pub added_yet : (words : List ℕ) (word mask : ℕ) (table : List ℕ) (k : ℕ) → Added words word mask table k → get_or table k 0 ≡ get_or words k 0
added_yet words word mask table k old =
    old k ∙ rw (le-ltb k k (omega arith)) (or_zero_r (get_or words k 0))

pub added_not : (words : List ℕ) (word mask : ℕ) (table : List ℕ) (k : ℕ) → has mask k ≡ false
    → Added words word mask table k → Added words word mask table (k + 1)
added_not words word mask table k m old j = go (eqb j k) refl
  where
    go :
        (t : Bool) → eqb j k ≡ t → get_or table j 0 ≡ bit_or (get_or words j 0) (cond (ltb j (k + 1) && has mask j) word 0)
    go true e = old j ∙ rw (eqb-true j k e, m, and_false, and_false)
    go false e = rw (ltb_more j k (eqb-false j k e)) (old j)

-- Unions

-- nothing is in a union where nothing is in either word
pub none_seen : (a b : ℕ) → eqb (bit_or a b) 0 ≡ (eqb a 0 && eqb b 0)
none_seen a b =
    same_test (eqb (bit_or a b) 0) (eqb a 0 && eqb b 0)
    (λ h.
    let e = eqb-true (bit_or a b) 0 h in
    and_true (eqb a 0) (eqb b 0)
    (eq-eqb a 0 (omega (arith, le_or_l a b)))
    (eq-eqb b 0 (omega (arith, le_or_r a b))))
    (λ h.
    rw (eqb-true a 0 (and_left (eqb a 0) (eqb b 0) h), eqb-true b 0 (and_right (eqb a 0) (eqb b 0) h)) refl)
