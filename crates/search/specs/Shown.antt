-- The shown plan of a choice, row by row. Document 01, "Idle rules", "The shown plan takes [..]". Assumes nothing.
use Rattle.std.specs.Prelude.{ℕ, suc, ◌+◌, Bool, cond, List, [], ◌∷◌, ◌++◌, eqb}
use Rattle.book.specs.Lists.{any, up_to}
use Rattle.book.specs.Blocks.{Head}
use Rattle.book.specs.Head.{column_count, function_count, operation}
use Rattle.lineage.specs.Rows.{Plan}
use Rattle.lineage.specs.Paths.{labels}
use Rattle.verdicts.specs.Accesses.{Access}

-- the first number of a list that passes; 0 where none does
unfoldable pub lowest : (ℕ → Bool) → List ℕ → ℕ
lowest f [] = 0
lowest f (i ∷ is) = cond (f i) i (lowest f is)

-- "lowest column with that label"
unfoldable pub column_for : (head : Head) (label : ℕ) → ℕ
column_for head d = lowest (λ c. any (eqb d) (labels head c)) (up_to (column_count head))

-- "lowest function with it"
unfoldable pub function_for : (head : Head) (operation : ℕ) → ℕ
function_for head k = lowest (λ f. eqb (operation head f) k) (up_to (function_count head))

-- "a Column row"
unfoldable pub column_row : (head : Head) (label : ℕ) → Plan
column_row head d = 1 ∷ column_for head d ∷ 0 ∷ 0 ∷ []

-- "an Apply row [..] (in b) [..] name[s] the row just before", "c 255"
unfoldable pub apply_row : (head : Head) (before operation : ℕ) → Plan
apply_row head before k = 2 ∷ function_for head k ∷ before ∷ 255 ∷ []

-- "an Output row for projection or a Condition row for condition", which "(in a) name[s] the row just before"
unfoldable pub last_row : (before channel : ℕ) → Plan
last_row before s = cond (eqb s 0) 4 5 ∷ before ∷ 0 ∷ 0 ∷ []

-- "an Apply row if the operation isn't 0"
unfoldable pub rows_of : Access → ℕ
rows_of x = cond (eqb x.operation 0) 2 3

-- the rows for one access, the first of them being row n
unfoldable pub access_rows : (head : Head) (row : ℕ) → Access → Plan
access_rows head n x =
    column_row head x.leaf
    ++ cond (eqb x.operation 0) (last_row n x.channel)
    (apply_row head n x.operation ++ last_row (suc n) x.channel)

-- "for each reference in turn", from row n on
unfoldable pub shown_from : (head : Head) (row : ℕ) → List Access → Plan
shown_from head n [] = []
shown_from head n (x ∷ choice) = access_rows head n x ++ shown_from head (n + rows_of x) choice

unfoldable pub shown_plan : Head → List Access → Plan
shown_plan head choice = shown_from head 0 choice
