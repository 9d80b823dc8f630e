-- Which rules meet a place, as words: for each cell and reference, and for each order. Assumes nothing.
use Prim.Native.Nat.{ℕ, zero, suc, ◌+◌, ◌*◌, ◌<◌}
use native.Mathlib.Omega.{arith}
use mathlib.Core.Path.{◌≡◌, refl}
use mathlib.Core.Bool.{Bool, true, false, ◌&&◌}
use mathlib.Core.List.{List, [], ◌∷◌}
use lib.ListN.{length, get_or, set}
use lib.Seq.{get_or-set_same, get_or-set_other}
use lib.Dec.{eqb, ltb}
use lib.Bits.{bit_and}
use borrow.Author.Tests.{eqb-true, eqb-false}
use Rattle.book.specs.Sets.{has}
use Rattle.book.proofs.Members.{has_and}
use Rattle.search.specs.Inner.Table.{meets}
use Rattle.search.specs.declared.tables.RuleTable.{RuleTable}
use Rattle.blocked.specs.Inner.Pairs.{first_at, second_at}

-- The words of the cells

-- a word holds the rules whose reference i place p meets
abbrev pub MetWord : List RuleTable → ℕ → ℕ → ℕ → Type 0
MetWord t i p word = (q : ℕ) → has word q ≡ (ltb q 32 && meets t q i p)

-- the words of a cell
abbrev pub CellWords : List RuleTable → ℕ → List ℕ → Type 0
CellWords t c words = (i : ℕ) → i < 3 → MetWord t i (16 * c) (get_or words i 0)

-- three words in a row, one for each reference
pub three_words :
    (t : List RuleTable) (p a b c : ℕ)
    → MetWord t 0 p a
    → MetWord t 1 p b
    → MetWord t 2 p c
    → (i : ℕ)
    → i < 3
    → MetWord t i p (get_or (a ∷ b ∷ c ∷ []) i 0)
three_words t p a b c x y z zero l = x
three_words t p a b c x y z (suc zero) l = y
three_words t p a b c x y z (suc (suc zero)) l = z
three_words t p a b c x y z (suc (suc (suc i))) l = absurd (omega arith)

-- the cells below c have their words
abbrev pub CellsFilled : List RuleTable → ℕ → List (List ℕ) → Type 0
CellsFilled t c met = (d : ℕ) → d < c → CellWords t d (get_or met d [])

pub cells_more :
    (t : List RuleTable) (c : ℕ) (met : List (List ℕ)) (words : List ℕ)
    → c < length met
    → CellsFilled t c met
    → CellWords t c words
    → CellsFilled t (c + 1) (set met c words)
cells_more t c met words room old new d l = go (eqb d c) refl
  where
    go : (b : Bool) → eqb d c ≡ b → CellWords t d (get_or (set met c words) d [])
    go true e = rw (eqb-true d c e, get_or-set_same met c words [] room) new
    go false e =
        let other = eqb-false d c e in
        rw (get_or-set_other met c d words [] other) (old d (omega arith))

-- The words of the orders

-- the word of an order
abbrev pub OrderWord : List RuleTable → ℕ → ℕ → ℕ → ℕ → ℕ → Type 0
OrderWord t rules a m v word =
    (q : ℕ)
    → has word q
    ≡ (has rules q && (ltb q 32 && (meets t q (first_at v) a && meets t q (second_at v) (16 * m))))

both : (r b x y : Bool) → ((r && (b && x)) && (b && y)) ≡ (r && (b && (x && y)))
both true true true y = refl
both true true false y = refl
both true false x y = refl
both false b x y = refl

pub order_word :
    (t : List RuleTable) (rules a m v first second one other : ℕ)
    → first ≡ first_at v
    → second ≡ second_at v
    → MetWord t first a one
    → MetWord t second (16 * m) other
    → OrderWord t rules a m v (bit_and (bit_and rules one) other)
order_word t rules a m v first second one other e f here there q =
    rw (has_and, has_and, here q, there q, both, ← e, ← f)
