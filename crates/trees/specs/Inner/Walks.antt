-- What the two walks promise each other: the nodes of a row, in two parts by the row's kind. No call's promise leans on
-- this file. Assumes nothing.
use Rattle.std.specs.Prelude.{ℕ, suc, ◌≡◌, ◌<◌, Bool, true, false, not, cond, List, [], ◌++◌, length, take, eqb, Result, Ok, Err}
use Rattle.lineage.specs.Rows.{Plan, Kind, Column, Apply, Choose, Output, Condition, Unknown, kind_at}
use Rattle.trees.specs.Trees.{nodes_from}
use Rattle.trees.specs.declared.walking.Node.{Node}
use Rattle.trees.specs.declared.walking.TooMany.{TooMany}

-- what the walk of an Apply takes, which takes Column rows too
unfoldable pub of_apply : Kind → Bool
of_apply Column = true
of_apply Apply = true
of_apply Choose = false
of_apply Output = false
of_apply Condition = false
of_apply Unknown = false

unfoldable pub of_choose : Kind → Bool
of_choose Column = false
of_choose Apply = false
of_choose Choose = true
of_choose Output = false
of_choose Condition = false
of_choose Unknown = false

-- what a row's byte names: a row, or 255 for none
unfoldable pub is_row : ℕ → Bool
is_row r = not (eqb r 255)

-- what falls at each call: the row's number, counted from 1, or 0 for none
unfoldable pub rank : ℕ → ℕ
rank r = cond (is_row r) (suc r) 0

-- the nodes that each walk lists: all of the row's, or none
unfoldable pub apply_nodes : Plan → (level row : ℕ) → List Node
apply_nodes plan level r = cond (of_apply (kind_at plan r)) (nodes_from plan level r) []

unfoldable pub choose_nodes : Plan → (level row : ℕ) → List Node
choose_nodes plan level r = cond (of_choose (kind_at plan r)) (nodes_from plan level r) []

-- nodes that are too many, and the list that is full of the first of them
abbrev pub Full : (nodes after : List Node) → Type 0
Full nodes after = (4096 < length nodes) × (after ≡ take 4096 nodes)

-- nodes that are listed behind others, all of them, or as far as the list has places
abbrev pub Listed : (nodes before after : List Node) → Result (Unit {0}) TooMany → Type 0
Listed nodes before after (Ok _) = after ≡ before ++ nodes
Listed nodes before after (Err _) = Full (before ++ nodes) after
