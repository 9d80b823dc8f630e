-- The paths of a row, as the paper has them: each from the row down to a column. Document 01, "Plans and lineage", its
-- second paragraph, with document 02, N5. Assumes nothing.
use Rattle.std.specs.Prelude.{ℕ, zero, suc, Bool, true, false, ◌&&◌, not, cond, List, [], ◌∷◌, ◌++◌, map, eqb, ltb}
use Rattle.book.specs.Lists.{any}
use Rattle.book.specs.Blocks.{Head}
use Rattle.book.specs.Head.{label, operation, supports}
use Rattle.lineage.specs.Rows.{Plan}
use Rattle.lineage.specs.Rows.{Kind, Column, Apply, Choose, Output, Condition, Unknown, kind_at, row_a, row_b, row_c}

-- an Apply row on a path: "An Apply with one row", "an Apply with two rows", and its function
pub data Applied : Type 0 where
  OneRow TwoRows : (function : ℕ) → Applied

-- "c a row or 255 for no second row": c may be b, and the Apply has two rows all the same
unfoldable pub applied_as : (function c : ℕ) → Applied
applied_as f c = cond (eqb c 255) (OneRow f) (TwoRows f)

-- a path: its column, and the Apply rows on it counted upward from the column
pub record Path : Type 0 where
  pub column : ℕ
  pub applies : List Applied

-- the path one Apply row further up
unfoldable pub through : Applied → Path → Path
through row p = record { column = p.column; applies = p.applies ++ (row ∷ []) }

-- the paths of a row of a kind, given those of the rows that it names: "through b or c of Apply and Choose, never
-- through a of Choose". 255 in c of Apply is no lower row, and gives none.
unfoldable pub paths_by : Kind → (ℕ → List Path) → ℕ → ℕ → ℕ → List Path
paths_by Column lower a b c = record { column = a; applies = [] } ∷ []
paths_by Apply lower a b c = map (through (applied_as a c)) (lower b ++ lower c)
paths_by Choose lower a b c = lower b ++ lower c
paths_by Output lower a b c = []
paths_by Condition lower a b c = []
paths_by Unknown lower a b c = []

-- `paths` with at most `steps` steps down
unfoldable pub paths_in : ℕ → Plan → ℕ → List Path
paths_in zero plan i = []
paths_in (suc steps) plan i =
    paths_by (kind_at plan i)
    (λ r. elim (ltb r i) as (λ b. List Path) [ true ↦ paths_in steps plan r | false ↦ [] ])
    (row_a plan i) (row_b plan i) (row_c plan i)

-- "A path goes from a row down to a Column row": every row on it is lower than the one before, so it has at most i + 1
-- rows
unfoldable pub paths : Plan → ℕ → List Path
paths plan i = paths_in (suc i) plan i

-- "It carries the column's label, if any."
unfoldable pub labels : (head : Head) (column : ℕ) → List ℕ
labels head column = cond (eqb (label head column) 255) [] (label head column ∷ [])

-- "whose operation is not 0 and is supported by the label"
unfoldable pub takes : (head : Head) (label operation : ℕ) → Bool
takes head d k = not (eqb k 0) && supports head d k

-- the functions that count, upward from the column: "On a path, an Apply with two rows doesn't count as an operation,
-- and nothing above it does."
unfoldable pub counting : List Applied → List ℕ
counting [] = []
counting (OneRow f ∷ above) = f ∷ counting above
counting (TwoRows f ∷ above) = []

-- "that of the first function, counted upward from the column, whose operation [is taken]; if there is none, 0"
unfoldable pub first_operation : (head : Head) (label : ℕ) (functions : List ℕ) → ℕ
first_operation head d [] = 0
first_operation head d (f ∷ fs) =
    cond (takes head d (operation head f)) (operation head f) (first_operation head d fs)

-- "Its operation", for a label
unfoldable pub operation_of : (head : Head) (label : ℕ) → Path → ℕ
operation_of head d p = first_operation head d (counting p.applies)

-- a path carries label d with operation k
unfoldable pub carries : (head : Head) (label operation : ℕ) → Path → Bool
carries head d k p = any (eqb d) (labels head p.column) && eqb k (operation_of head d p)
