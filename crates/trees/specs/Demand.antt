-- N7, over what is in the buffer: what Tree's numbers say of it; and what the tree of every accepted plan is. Document
-- 02, N7. Assumes nothing.
use Rattle.std.specs.Prelude.{ℕ, ◌+◌, ◌*◌, ◌^◌, ◌≤◌, ◌<◌, ◌≡◌, true, List, [], ◌∷◌, length, take, drop}
use Rattle.book.specs.Lists.{flat}
use Rattle.book.specs.Blocks.{Book}
use Rattle.lineage.specs.Rows.{Plan, Column, Apply, Choose, row_count, kind_at, is_value, row_a, row_b, row_c}
use Rattle.lineage.specs.Answers.{BothAccepted}
use Rattle.trees.specs.Trees.{children, nodes_from, node_count}
use Rattle.trees.specs.Text.{tree_text, line_count}

-- what Tree has to be given: what Flows has to be given but for the words, a value row, and a tree that fits
pub record TreeAccepted (book : Book) (plan : Plan) (i : ℕ) (buffer : List ℕ) : Type 0 where
  pub both : BothAccepted book plan
  pub there : i < row_count plan
  pub value : is_value (kind_at plan i) ≡ true
  pub few : node_count plan i ≤ 4096
  -- a text exactly as long as the buffer fits
  pub fits : length (tree_text plan i) ≤ length buffer

-- the node count and the text's length that are returned, and the buffer
pub record Draws (plan : Plan) (i : ℕ) (before after : List ℕ) (nodes bytes : ℕ) : Type 0 where
  -- "written to the front of a lent buffer, the rest unchanged"
  pub front : take bytes after ≡ tree_text plan i
  pub rest : drop bytes after ≡ drop bytes before
  pub fits : bytes ≤ length before
  pub whole : length after ≡ length before
  -- "The node count [..] equals the lines written"
  pub count : nodes ≡ node_count plan i
  pub lines : line_count (take bytes after) ≡ nodes
  -- a row is a node of its own tree; "given up once above 4,096"
  pub some : 1 ≤ nodes
  pub most : nodes ≤ 4096
  -- "The tree of row i has at most 3 to the power (i + 1) nodes."
  pub powers : nodes ≤ 3 ^ (i + 1)
  -- at most 63 levels below the top: 126 spaces, two digits, a space, six letters and the line feed
  pub short : bytes ≤ 136 * nodes

-- the children of a row of an accepted plan, by its kind
pub record Children (plan : Plan) (i : ℕ) : Type 0 where
  pub column : kind_at plan i ≡ Column → children plan i ≡ []
  pub apply_one : kind_at plan i ≡ Apply → row_c plan i ≡ 255 → children plan i ≡ row_b plan i ∷ []
  pub apply_two :
      kind_at plan i ≡ Apply → (row_c plan i ≡ 255 → ⊥) → children plan i ≡ row_b plan i ∷ row_c plan i ∷ []
  pub choose : kind_at plan i ≡ Choose → children plan i ≡ row_a plan i ∷ row_b plan i ∷ row_c plan i ∷ []

-- what the tree of every row is, whatever the plan: with no count of steps in it
pub record Trees (plan : Plan) : Type 0 where
  -- the row, then the trees of its children one level below
  pub tree :
      (level i : ℕ)
      → nodes_from plan level i
      ≡ record { level = level; row = i } ∷ flat (nodes_from plan (level + 1)) (children plan i)
  pub powers : (i : ℕ) → node_count plan i ≤ 3 ^ (i + 1)
  pub lines : (i : ℕ) → line_count (tree_text plan i) ≡ node_count plan i
  -- so a buffer of 4,096 × 136 bytes has room for every tree of at most 4,096 nodes
  pub short : (i : ℕ) → i < 64 → length (tree_text plan i) ≤ 136 * node_count plan i

-- of an accepted book and plan
abbrev pub EveryChild : Book → Plan → Type 0
EveryChild book plan = BothAccepted book plan → (i : ℕ) → i < row_count plan → Children plan i
