-- The text of a tree, byte by byte. Document 02, N7. Assumes nothing.
use Rattle.std.specs.Prelude.{ℕ, ◌+◌, ◌*◌, ◌/◌, ◌%◌, cond, List, [], ◌∷◌, ◌++◌, replicate, eqb, ltb}
use Rattle.book.specs.Lists.{flat}
use Rattle.lineage.specs.Rows.{Plan, Kind, Column, Apply, Choose, Output, Condition, Unknown, kind_at}
use Rattle.trees.specs.Trees.{tree_nodes}
use Rattle.trees.specs.declared.walking.Node.{Node}

abbrev pub line_feed : ℕ
line_feed = 10

abbrev pub space : ℕ
space = 32

-- the byte of a decimal digit: 48 is that of 0
abbrev pub digit : ℕ → ℕ
digit n = 48 + n

-- "the decimal row number": one digit or two, as a plan has at most 64 rows
unfoldable pub decimal : ℕ → List ℕ
decimal n = cond (ltb n 10) (digit n ∷ []) (digit (n / 10) ∷ digit (n % 10) ∷ [])

-- "the kind word (column, apply, choose)"
unfoldable pub kind_word : Kind → List ℕ
-- c o l u m n
kind_word Column = 99 ∷ 111 ∷ 108 ∷ 117 ∷ 109 ∷ 110 ∷ []
-- a p p l y
kind_word Apply = 97 ∷ 112 ∷ 112 ∷ 108 ∷ 121 ∷ []
-- c h o o s e
kind_word Choose = 99 ∷ 104 ∷ 111 ∷ 111 ∷ 115 ∷ 101 ∷ []
-- no row of a tree is of another kind
kind_word Output = []
kind_word Condition = []
kind_word Unknown = []

-- "then the decimal row number, a space, the kind word [..] and a line feed (byte 10)"
unfoldable pub row_text : Plan → (row : ℕ) → List ℕ
row_text plan i = decimal i ++ space ∷ kind_word (kind_at plan i) ++ line_feed ∷ []

-- "two spaces a level below the top"
unfoldable pub line_text : Plan → Node → List ℕ
line_text plan n = replicate (2 * n.level) space ++ row_text plan n.row

-- "one line a node"
unfoldable pub text_of : Plan → List Node → List ℕ
text_of plan ns = flat (line_text plan) ns

unfoldable pub tree_text : Plan → (row : ℕ) → List ℕ
tree_text plan i = text_of plan (tree_nodes plan i)

-- the lines of a text: its bytes 10
unfoldable pub line_count : List ℕ → ℕ
line_count [] = 0
line_count (x ∷ xs) = cond (eqb x line_feed) 1 0 + line_count xs
