-- Laws of cells: the groups of sixteen bits of a word, a set less a cell, and the words of pairs. Assumes nothing.
use Prim.Native.Nat.{ℕ, zero, suc, ◌+◌, ◌*◌, ◌-◌, ◌/◌, ◌%◌, ◌^◌, ◌<◌}
use native.Mathlib.Omega.{arith}
use mathlib.Core.Path.{◌≡◌, refl, sym, ap, ◌∙◌}
use mathlib.Core.Bool.{Bool, true, false, ◌&&◌, not, cond}
use mathlib.Core.List.{List, [], ◌∷◌}
use lib.ListN.{length, get_or, set}
use lib.Seq.{get_or-set_same, get_or-set_other}
use lib.Bits.{bit_and}
use lib.Pow.{pow_pos, shl_exact}
use lib.Dec.{eqb, ltb}
use borrow.Author.Tests.{eq-eqb, ne_eqb, eqb-true, eqb-false, lt-ltb, ltb-true, ltb-false}
use Rattle.book.specs.Lists.{any, up_to}
use Rattle.book.specs.Sets.{has}
use Rattle.book.proofs.Lists.{and_end, and_false, any_from_same, same_test}
use Rattle.book.proofs.Members.{has_and, has_below, has_minus, has_zero}
use Rattle.verdicts.proofs.Marks.{not_empty}
use Rattle.verdicts.proofs.Quantifiers.{at_any, any_at}
use Rattle.search.specs.Inner.Places.{in_places}
use Rattle.search.proofs.Fours.{has_cut, has_stack}
use Rattle.search.proofs.PlaceLaws.{has_shift}
use Rattle.blocked.specs.Inner.Cells.{in_cell}

-- tests that agree on the numbers below n
any_same_below : (f g : ℕ → Bool) (n : ℕ) → ((j : ℕ) → j < n → f j ≡ g j) → any f (up_to n) ≡ any g (up_to n)
unfolding up_to
any_same_below f g n h = any_from_same f g 0 n (λ j lo hi. h j (omega arith))

-- Groups of sixteen bits

-- the code's `65535 << (16 * g)`
group_mask : (g i : ℕ) → g < 4 → has ((65535 * 2 ^ (16 * g)) % 2 ^ 64) i ≡ eqb (i / 16) g
group_mask g i l =
    let shifted : 65535 * 2 ^ (16 * g) ≡ 0 + 2 ^ (16 * g) * 65535 = omega arith in
    rw (shl_exact {a = 65535} 16 (16 * g) 64 (omega arith) (omega arith), shifted)
    (has_stack (16 * g) 0 65535 i (pow_pos (16 * g)) ∙ go (ltb i (16 * g)) refl)
  where
    go : (t : Bool) → ltb i (16 * g) ≡ t → cond t (has 0 i) (has 65535 (i - 16 * g)) ≡ eqb (i / 16) g
    go true e =
        let below = ltb-true i (16 * g) e in
        has_zero i ∙ sym (ne_eqb (i / 16) g (λ n. omega arith))
    go false e =
        let past = ltb-false i (16 * g) e in
        has_below 16 (i - 16 * g)
        ∙ same_test (ltb (i - 16 * g) 16) (eqb (i / 16) g)
        (λ h. eq-eqb (i / 16) g (omega (arith, ltb-true (i - 16 * g) 16 h)))
        (λ h. lt-ltb (i - 16 * g) 16 (omega (arith, eqb-true (i / 16) g h)))

-- Cells of a set

-- bit k of a cell's group is the cell's k-th place
cell_bit :
    (places : List ℕ) (c k : ℕ) → k < 16 → has (get_or places (c / 4) 0) (16 * (c % 4) + k) ≡ in_places places (16 * c + k)
unfolding in_places
cell_bit places c k l =
    let word : (16 * c + k) / 64 ≡ c / 4 = omega arith in
    let bit : (16 * c + k) % 64 ≡ 16 * (c % 4) + k = omega arith in
    rw (word, bit)

-- the code's test of a cell's operations
pub cell_group :
    (places : List ℕ) (c word : ℕ)
    → word < 65536
    → ((k : ℕ) → k < 16 → has word k ≡ in_places places (16 * c + k))
    → not (eqb word 0) ≡ in_cell places c
unfolding in_cell
cell_group places c word small bits =
    not_empty 16 word small ∙ any_same_below (has word) (λ k. in_places places (16 * c + k)) 16 bits

-- the code's group of a set's word
pub cell_bits :
    (places : List ℕ) (c k : ℕ)
    → k < 16
    → has (get_or places (c / 4) 0 / 2 ^ (16 * (c % 4)) % 65536) k ≡ in_places places (16 * c + k)
cell_bits places c k l =
    has_cut 16 (get_or places (c / 4) 0 / 2 ^ (16 * (c % 4))) k l
    ∙ has_shift (get_or places (c / 4) 0) (16 * (c % 4)) k
    ∙ cell_bit places c k l

-- the cell of a place in the set has one, and a cell that has one has it
pub cell_member : (places : List ℕ) (x : ℕ) → in_places places x ≡ true → in_cell places (x / 16) ≡ true
unfolding in_cell
cell_member places x h =
    let e : 16 * (x / 16) + x % 16 ≡ x = omega arith in
    at_any (λ k. in_places places (16 * (x / 16) + k)) 16 (x % 16) (omega arith) (rw e h)

pub cell_place :
    (places : List ℕ) (c : ℕ) → in_cell places c ≡ true → (z : ℕ) × (z / 16 ≡ c) × (in_places places z ≡ true)
unfolding in_cell
cell_place places c h =
    let found = any_at (λ k. in_places places (16 * c + k)) 16 h in
    let below = found.2 in
    (16 * c + found.0, omega arith, found.1)

-- the group of cell c among the places of its word
in_group :
    (c p : ℕ) → p / 64 ≡ c / 4 → has ((65535 * 2 ^ (16 * (c % 4))) % 2 ^ 64) (p % 64) ≡ eqb (p / 16) c
in_group c p same =
    group_mask (c % 4) (p % 64) (omega arith)
    ∙ same_test (eqb (p % 64 / 16) (c % 4)) (eqb (p / 16) c)
    (λ h. eq-eqb (p / 16) c (omega (arith, eqb-true (p % 64 / 16) (c % 4) h)))
    (λ h. eq-eqb (p % 64 / 16) (c % 4) (omega (arith, eqb-true (p / 16) c h)))

-- a set whose word of cell c has lost the cell's group
pub less_group :
    (places : List ℕ) (c p : ℕ)
    → c / 4 < length places
    → get_or places (c / 4) 0 < 2 ^ 64
    → in_places
    (set places (c / 4) (bit_and (get_or places (c / 4) 0) ((2 ^ 64 - 1) - (65535 * 2 ^ (16 * (c % 4))) % 2 ^ 64))) p
    ≡ (in_places places p && not (eqb (p / 16) c))
unfolding in_places
less_group places c p room fits = go (eqb (p / 64) (c / 4)) refl
  where
    mask : ℕ
    mask = (65535 * 2 ^ (16 * (c % 4))) % 2 ^ 64

    word : ℕ
    word = bit_and (get_or places (c / 4) 0) ((2 ^ 64 - 1) - mask)

    go :
        (t : Bool)
        → eqb (p / 64) (c / 4) ≡ t
        → has (get_or (set places (c / 4) word) (p / 64) 0) (p % 64)
        ≡ (has (get_or places (p / 64) 0) (p % 64) && not (eqb (p / 16) c))
    go true e =
        let same = eqb-true (p / 64) (c / 4) e in
        rw (same, get_or-set_same places (c / 4) word 0 room)
        (has_minus 64 (get_or places (c / 4) 0) mask (p % 64) fits (omega arith)
        ∙ ap (λ (t : Bool). has (get_or places (c / 4) 0) (p % 64) && not t) (in_group c p same))
    go false e =
        let other = eqb-false (p / 64) (c / 4) e in
        rw (get_or-set_other places (c / 4) (p / 64) word 0 other, ne_eqb (p / 16) c (λ n. other (omega arith)))
        (sym (and_end (has (get_or places (p / 64) 0) (p % 64))))

-- a set with the group of cell c alone
pub only_group :
    (places empty : List ℕ) (c p : ℕ)
    → c / 4 < length empty
    → ((i : ℕ) → get_or empty i 0 ≡ 0)
    → in_places (set empty (c / 4) (bit_and (get_or places (c / 4) 0) ((65535 * 2 ^ (16 * (c % 4))) % 2 ^ 64))) p
    ≡ (in_places places p && eqb (p / 16) c)
unfolding in_places
only_group places empty c p room zeros = go (eqb (p / 64) (c / 4)) refl
  where
    mask : ℕ
    mask = (65535 * 2 ^ (16 * (c % 4))) % 2 ^ 64

    word : ℕ
    word = bit_and (get_or places (c / 4) 0) mask

    go :
        (t : Bool)
        → eqb (p / 64) (c / 4) ≡ t
        → has (get_or (set empty (c / 4) word) (p / 64) 0) (p % 64)
        ≡ (has (get_or places (p / 64) 0) (p % 64) && eqb (p / 16) c)
    go true e =
        let same = eqb-true (p / 64) (c / 4) e in
        rw (same, get_or-set_same empty (c / 4) word 0 room)
        (has_and (get_or places (c / 4) 0) mask (p % 64)
        ∙ ap (λ (t : Bool). has (get_or places (c / 4) 0) (p % 64) && t) (in_group c p same))
    go false e =
        let other = eqb-false (p / 64) (c / 4) e in
        rw (
          get_or-set_other empty (c / 4) (p / 64) word 0 other,
          zeros (p / 64),
          has_zero (p % 64),
          ne_eqb (p / 16) c (λ n. other (omega arith)),
        )
        (sym (and_false (has (get_or places (p / 64) 0) (p % 64))))

-- Pairs

-- four places of a cell in each word, every one of them with sixteen operations
pub pair_words :
    (places : List ℕ) (m word p q r s : ℕ)
    → ((k : ℕ) → k < 16 → has word k ≡ in_places places (16 * m + k))
    → ((i : ℕ) → i < 64 → has p i ≡ has word (i / 16))
    → ((i : ℕ) → i < 64 → has q i ≡ has (word / 2 ^ 4) (i / 16))
    → ((i : ℕ) → i < 64 → has r i ≡ has (word / 2 ^ 8) (i / 16))
    → ((i : ℕ) → i < 64 → has s i ≡ has (word / 2 ^ 12) (i / 16))
    → (w b : ℕ)
    → w < 4
    → b < 64
    → has (get_or (p ∷ q ∷ r ∷ s ∷ []) w 0) b ≡ in_places places (16 * m + (4 * w + b / 16))
pair_words places m word p q r s h hp hq hr hs zero b v l =
    let same : b / 16 ≡ 4 * 0 + b / 16 = omega arith in
    hp b l ∙ ap (has word) same ∙ h (4 * 0 + b / 16) (omega arith)
pair_words places m word p q r s h hp hq hr hs (suc zero) b v l =
    hq b l ∙ has_shift word 4 (b / 16) ∙ h (4 + b / 16) (omega arith)
pair_words places m word p q r s h hp hq hr hs (suc (suc zero)) b v l =
    hr b l ∙ has_shift word 8 (b / 16) ∙ h (8 + b / 16) (omega arith)
pair_words places m word p q r s h hp hq hr hs (suc (suc (suc zero))) b v l =
    hs b l ∙ has_shift word 12 (b / 16) ∙ h (12 + b / 16) (omega arith)
pair_words places m word p q r s h hp hq hr hs (suc (suc (suc (suc w)))) b v l = absurd (omega arith)
