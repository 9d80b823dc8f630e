-- The number and the place of every refusal, as the documents list them. Assumes nothing.
use Prim.Native.Nat.{ℕ}
use mathlib.Core.Path.{◌≡◌, refl}
use mathlib.Core.List.{List, [], ◌∷◌, map}
use Rattle.book.specs.Numbers.{number_of, place_of}
use Rattle.book.specs.declared.refusal.Refusal.{Refusal}
use Rattle.book.specs.declared.refusal.Refusal.TheVariants.{BookLength, BlockCheck, BlockKind, CountOrZero, ParentOrOwn}
use Rattle.book.specs.declared.refusal.Refusal.TheVariants.{LabelOrFunction, RuleNumber, SharedLeaf, MaskOperation}
use Rattle.book.specs.declared.refusal.Refusal.TheVariants.{BlockLength, NoUser, PlanLength, FaultyRow, WordCount, NoRule}
use Rattle.book.specs.declared.refusal.Refusal.TheVariants.{BufferLength, RuleForbids, LedgerLength, CountsFull}
use Rattle.book.specs.declared.refusal.Refusal.TheVariants.{NoValueRow, TreeSize, PlacesFull, NotHeld, RulesFull}

-- those with a place, at block or row n
abbrev pub placed : ℕ → List Refusal
placed n =
    BlockCheck n
    ∷ BlockKind n
    ∷ CountOrZero n
    ∷ ParentOrOwn n
    ∷ LabelOrFunction n
    ∷ RuleNumber n
    ∷ SharedLeaf n
    ∷ MaskOperation n
    ∷ FaultyRow n
    ∷ []

pub placed_refusals :
    (n : ℕ)
    → ◌≡◌ {A = List (ℕ × ℕ)} (map (λ r. (number_of r, place_of r)) (placed n))
    ((2, n) ∷ (3, n) ∷ (4, n) ∷ (5, n) ∷ (6, n) ∷ (7, n) ∷ (8, n) ∷ (9, n) ∷ (22, n) ∷ [])
unfolding number_of place_of
placed_refusals n = refl

-- those without
abbrev pub others : List Refusal
others =
    BookLength
    ∷ BlockLength
    ∷ NoUser
    ∷ PlanLength
    ∷ WordCount
    ∷ NoRule
    ∷ BufferLength
    ∷ RuleForbids
    ∷ LedgerLength
    ∷ CountsFull
    ∷ NoValueRow
    ∷ TreeSize
    ∷ PlacesFull
    ∷ NotHeld
    ∷ RulesFull
    ∷ []

pub other_refusals :
    ◌≡◌ {A = List (ℕ × ℕ)} (map (λ r. (number_of r, place_of r)) others)
    ((1, 0)
    ∷ (10, 0)
    ∷ (20, 0)
    ∷ (21, 0)
    ∷ (23, 0)
    ∷ (24, 0)
    ∷ (25, 0)
    ∷ (26, 0)
    ∷ (27, 0)
    ∷ (28, 0)
    ∷ (29, 0)
    ∷ (30, 0)
    ∷ (31, 0)
    ∷ (32, 0)
    ∷ (33, 0)
    ∷ [])
unfolding number_of place_of
other_refusals = refl
