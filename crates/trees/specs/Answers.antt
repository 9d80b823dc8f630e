-- The tests of Tree in document 02's order, and what it answers, whole, with the buffer on leaving. Document 02, N7.
-- Assumes nothing.
use Rattle.std.specs.Prelude.{ℕ, Bool, ◌&&◌, List, [], ◌∷◌, ◌++◌, length, drop, ltb, leb, Result, Ok, Err}
use Rattle.book.specs.Blocks.{Book, head_of}
use Rattle.book.specs.Tests.{Test, answered}
use Rattle.book.specs.Refusals.{book_tests}
use Rattle.lineage.specs.Rows.{Plan, row_count, kind_at, is_value}
use Rattle.lineage.specs.Answers.{plan_tests}
use Rattle.trees.specs.Trees.{node_count}
use Rattle.trees.specs.Text.{tree_text}
use Rattle.book.specs.declared.refusal.Refusal.{Refusal}
use Rattle.book.specs.declared.refusal.Refusal.TheVariants.{NoValueRow, TreeSize}
use Rattle.trees.specs.declared.Written.{Written}

-- 29: "the row is absent or not of kind 1 to 3"
unfoldable pub is_value_row : Plan → (row : ℕ) → Bool
is_value_row plan i = ltb i (row_count plan) && is_value (kind_at plan i)

unfoldable pub value_tests : Plan → (row : ℕ) → List Test
value_tests plan i = (NoValueRow, is_value_row plan i) ∷ []

-- 30: "the tree has above 4,096 nodes or its text exceeds the buffer"
unfoldable pub tree_fits : Plan → (row room : ℕ) → Bool
tree_fits plan i room = leb (node_count plan i) 4096 && leb (length (tree_text plan i)) room

unfoldable pub room_tests : Plan → (row : ℕ) → (buffer : List ℕ) → List Test
room_tests plan i buffer = (TreeSize, tree_fits plan i (length buffer)) ∷ []

-- "Flows' refusals 1 to 22, then 29"
unfoldable pub tree_row_tests : Book → Plan → (row : ℕ) → List Test
tree_row_tests book plan i = book_tests book ++ plan_tests (head_of book) plan ++ value_tests plan i

-- "then 30"
unfoldable pub tree_tests : Book → Plan → (row : ℕ) → (buffer : List ℕ) → List Test
tree_tests book plan i buffer = tree_row_tests book plan i ++ room_tests plan i buffer

-- "The node count is [..] returned with the text's length"
unfoldable pub drawn : Plan → (row : ℕ) → Written
drawn plan i = record { nodes = node_count plan i; length = length (tree_text plan i) }

unfoldable pub tree_answer : Book → Plan → (row : ℕ) → (buffer : List ℕ) → Result Written Refusal
tree_answer book plan i buffer = answered (tree_tests book plan i buffer) Err (Ok (drawn plan i))

-- "written to the front of a lent buffer, the rest unchanged"
unfoldable pub written : (text buffer : List ℕ) → List ℕ
written text buffer = text ++ drop (length text) buffer

-- the buffer on leaving: "Every refusal leaves its buffers unchanged."
unfoldable pub tree_buffer : Book → Plan → (row : ℕ) → (buffer : List ℕ) → List ℕ
tree_buffer book plan i buffer =
    answered (tree_tests book plan i buffer) (λ refusal. buffer) (written (tree_text plan i) buffer)
