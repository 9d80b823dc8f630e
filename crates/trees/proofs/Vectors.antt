-- Theorems about the definitions, by computation: small trees and their texts, and trees of 4,095 nodes and more.
-- Assumes nothing.
use Prim.Native.Nat.{ℕ, zero, suc, ◌+◌}
use mathlib.Core.Path.{◌≡◌, refl}
use mathlib.Core.List.{List, [], ◌∷◌, ◌++◌, map}
use lib.ListN.{replicate}
use Rattle.book.specs.Lists.{flat, keep}
use Rattle.std.specs.Prelude.{Result, Ok, Err}
use Rattle.book.specs.Tests.{Outcome, first_failing}
use Rattle.book.specs.Numbers.{number_of, place_of}
use Rattle.lineage.specs.Rows.{kind_of, kind_at, is_value, names}
use Rattle.lineage.proofs.Vectors.{plan, column, apply, apply_both, choose, output, condition}
use Rattle.lineage.proofs.Vectors.{state, city, price, avg, sum, concat_both}
use Rattle.trees.specs.Trees.{row_bytes, children, nodes_in, nodes_from, tree_nodes, node_count}
use Rattle.trees.specs.declared.walking.Node.{Node}
use Rattle.trees.specs.Text.{decimal, kind_word, row_text, line_text, text_of, tree_text}
use Rattle.trees.specs.Answers.{is_value_row, value_tests, tree_fits, room_tests, written}

-- Small trees

abbrev at : ℕ → ℕ → Node
at level row = record { level = level; row = row }

-- a plan's rows, one of them, and its tree
unfoldable pub trees : List (List (List ℕ) × ℕ × List Node)
trees =
    -- a column has no children, nor has the lowest row
    (price ∷ [], 0, at 0 0 ∷ [])
    ∷ (state ∷ city ∷ price ∷ [], 2, at 0 2 ∷ [])
    -- of Apply the one row, or both, b first; its function is no row
    ∷ (state ∷ city ∷ price ∷ avg 2 ∷ [], 3, at 0 3 ∷ at 1 2 ∷ [])
    ∷ (state ∷ price ∷ concat_both 1 0 ∷ [], 2, at 0 2 ∷ at 1 1 ∷ at 1 0 ∷ [])
    -- of Choose all three, a first
    ∷ (price ∷ state ∷ city ∷ choose 2 0 1 ∷ [], 3, at 0 3 ∷ at 1 2 ∷ at 1 0 ∷ at 1 1 ∷ [])
    -- a row reached twice, directly and by another
    ∷ (state ∷ concat_both 0 0 ∷ [], 1, at 0 1 ∷ at 1 0 ∷ at 1 0 ∷ [])
    ∷ (price ∷ avg 0 ∷ choose 1 0 1 ∷ [], 2, at 0 2 ∷ at 1 1 ∷ at 2 0 ∷ at 1 0 ∷ at 1 1 ∷ at 2 0 ∷ [])
    -- a node before its children, and these before the next one
    ∷ (
      state ∷ city ∷ price ∷ sum 2 ∷ choose 0 1 3 ∷ concat_both 4 2 ∷ output 5 ∷ [],
      5,
      at 0 5 ∷ at 1 4 ∷ at 2 0 ∷ at 2 1 ∷ at 2 3 ∷ at 3 2 ∷ at 1 2 ∷ [],
    )
    -- rows above are no part of it
    ∷ (price ∷ sum 0 ∷ avg 1 ∷ output 2 ∷ [], 1, at 0 1 ∷ at 1 0 ∷ [])
    ∷ []

pub trees_are : map (λ c. tree_nodes (plan c.0) c.1) trees ≡ map (λ c. c.2) trees
unfolding trees plan kind_of kind_at is_value names flat keep row_bytes children nodes_in nodes_from tree_nodes
trees_are = refl

-- A text

abbrev shown : List ℕ
shown = plan (state ∷ city ∷ price ∷ sum 2 ∷ choose 0 1 3 ∷ concat_both 4 2 ∷ output 5 ∷ [])

-- a line: its spaces, the row's digit, a space, the word, the line feed
abbrev line : ℕ → ℕ → List ℕ → List ℕ
line spaces digit word = replicate spaces 32 ++ digit ∷ 32 ∷ word ++ 10 ∷ []

abbrev word_column : List ℕ
word_column = 99 ∷ 111 ∷ 108 ∷ 117 ∷ 109 ∷ 110 ∷ []

abbrev word_apply : List ℕ
word_apply = 97 ∷ 112 ∷ 112 ∷ 108 ∷ 121 ∷ []

abbrev word_choose : List ℕ
word_choose = 99 ∷ 104 ∷ 111 ∷ 111 ∷ 115 ∷ 101 ∷ []

pub shown_text :
    tree_text shown 5
    ≡ line 0 53 word_apply
    ++ line 2 52 word_choose
    ++ line 4 48 word_column
    ++ line 4 49 word_column
    ++ line 4 51 word_apply
    ++ line 6 50 word_column
    ++ line 2 50 word_column
unfolding plan kind_of kind_at is_value names flat keep row_bytes children nodes_in nodes_from tree_nodes decimal kind_word row_text
    line_text text_of tree_text
shown_text = refl

-- two digits from 10 on
pub decimals : map decimal (0 ∷ 9 ∷ 10 ∷ 63 ∷ []) ≡ (48 ∷ []) ∷ (57 ∷ []) ∷ (49 ∷ 48 ∷ []) ∷ (54 ∷ 51 ∷ []) ∷ []
unfolding decimal
decimals = refl

-- the rest of the buffer stays as it was, and a text exactly as long fits
pub column_written :
    map (λ n. written (tree_text (column 0) 0) (replicate n 7)) (9 ∷ 12 ∷ [])
    ≡ line 0 48 word_column ∷ (line 0 48 word_column ++ 7 ∷ 7 ∷ 7 ∷ []) ∷ []
unfolding kind_of kind_at is_value names flat keep row_bytes children nodes_in nodes_from tree_nodes decimal kind_word row_text
    line_text text_of tree_text written
column_written = refl

-- Counts

-- a Choose of the row just below, three times, at every row: (3 to the power (i + 1) - 1) / 2 nodes
unfoldable pub tripled : ℕ → ℕ → List ℕ
tripled i zero = []
tripled i (suc n) = choose i i i ++ tripled (i + 1) n

pub tripled_counts :
    map (node_count (column 0 ++ tripled 0 7)) (0 ∷ 1 ∷ 2 ∷ 3 ∷ 7 ∷ []) ≡ 1 ∷ 4 ∷ 13 ∷ 40 ∷ 3280 ∷ []
unfolding tripled kind_of kind_at is_value names flat keep row_bytes children nodes_in nodes_from tree_nodes node_count
tripled_counts = refl

-- an Apply of the row just below, twice, at every row, and above it two Apply of one row
unfoldable pub doubled : ℕ → ℕ → List ℕ
doubled i zero = []
doubled i (suc n) = apply_both 0 i i ++ doubled (i + 1) n

abbrev large : List ℕ
large = column 0 ++ doubled 0 11 ++ apply 0 11 ++ apply 0 12

pub doubled_counts : map (node_count large) (11 ∷ 12 ∷ 13 ∷ []) ≡ 4095 ∷ 4096 ∷ 4097 ∷ []
unfolding doubled kind_of kind_at is_value names flat keep row_bytes children nodes_in nodes_from tree_nodes node_count
doubled_counts = refl

-- Refusals

-- the outcome of a list of tests, a refusal by its number and its place
unfoldable pub numbered : Outcome → Result (Unit {0}) (ℕ × ℕ)
numbered (Ok done) = Ok done
numbered (Err refusal) = Err (number_of refusal, place_of refusal)

abbrev passed : Result (Unit {0}) (ℕ × ℕ)
passed = Ok tt

abbrev refused : ℕ → Result (Unit {0}) (ℕ × ℕ)
refused n = Err (n, 0)

-- 29: value rows; an Output row and a Condition row; a row that is absent, near and far
pub shown_rows :
    map (λ i. numbered (first_failing (value_tests (shown ++ condition 2) i))) (0 ∷ 3 ∷ 4 ∷ 6 ∷ 7 ∷ 8 ∷ 4294967295 ∷ [])
    ≡ passed ∷ passed ∷ passed ∷ refused 29 ∷ refused 29 ∷ refused 29 ∷ refused 29 ∷ []
unfolding plan kind_of kind_at is_value is_value_row value_tests first_failing numbered number_of place_of
shown_rows = refl

-- 30: a buffer as long as the text, and one byte shorter
pub shown_room :
    map (λ n. numbered (first_failing (room_tests shown 5 (replicate n 7)))) (84 ∷ 83 ∷ 82 ∷ 0 ∷ [])
    ≡ passed ∷ passed ∷ refused 30 ∷ refused 30 ∷ []
unfolding plan kind_of kind_at is_value names flat keep row_bytes children nodes_in nodes_from tree_nodes node_count decimal kind_word
    row_text line_text text_of tree_text tree_fits room_tests first_failing numbered number_of place_of
shown_room = refl
