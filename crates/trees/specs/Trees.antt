-- The lineage tree of a value row: its nodes, in the order in which they are written. Document 02, N7. A node is a row
-- at a level below the top, `Node` in src/walking.rt. Assumes nothing.
use Rattle.std.specs.Prelude.{ℕ, zero, suc, ◌+◌, List, [], ◌∷◌, length}
use Rattle.book.specs.Lists.{flat, keep}
use Rattle.lineage.specs.Rows.{Plan, Kind, Column, Apply, Choose, Output, Condition, Unknown}
use Rattle.lineage.specs.Rows.{kind_at, row_a, row_b, row_c, names}
use Rattle.trees.specs.declared.walking.Node.{Node}

-- which of a, b, c may be rows: a of Apply is a function
unfoldable pub row_bytes : Kind → (a b c : ℕ) → List ℕ
row_bytes Column a b c = []
row_bytes Apply a b c = b ∷ c ∷ []
row_bytes Choose a b c = a ∷ b ∷ c ∷ []
row_bytes Output a b c = []
row_bytes Condition a b c = []
row_bytes Unknown a b c = []

-- "Children come in the order a, b, c, as far as they are rows": 255 in c of Apply is none. `names` is document 01's
-- "A named row is lower than the row naming it and of kind 1 to 3".
unfoldable pub children : Plan → (row : ℕ) → List ℕ
children plan i = keep (names plan i) (row_bytes (kind_at plan i) (row_a plan i) (row_b plan i) (row_c plan i))

-- "a node before its children"; "A row reached twice is written twice." At most `steps` levels.
unfoldable pub nodes_in : (steps : ℕ) → Plan → (level row : ℕ) → List Node
nodes_in zero plan level i = []
nodes_in (suc steps) plan level i =
    record { level = level; row = i } ∷ flat (nodes_in steps plan (level + 1)) (children plan i)

-- the tree of row i with its top at a level: a child is lower than its row, so i + 1 levels are all
unfoldable pub nodes_from : Plan → (level row : ℕ) → List Node
nodes_from plan level i = nodes_in (suc i) plan level i

-- the tree of row i
unfoldable pub tree_nodes : Plan → (row : ℕ) → List Node
tree_nodes plan i = nodes_from plan 0 i

-- "The node count"
unfoldable pub node_count : Plan → (row : ℕ) → ℕ
node_count plan i = length (tree_nodes plan i)
