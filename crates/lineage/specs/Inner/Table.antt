-- The words that the code keeps while it goes up the rows. No call's promise leans on this file: it names what the
-- functions below them promise to each other. Assumes nothing.
use Rattle.std.specs.Prelude.{ℕ, ◌+◌, ◌*◌, ◌<◌, ◌≡◌, Bool, true, false, ◌&&◌, ◌||◌, not, cond, List, [], ◌∷◌, get_or, eqb, ltb}
use Rattle.std.specs.Int.Bits.{bit_or}
use Rattle.book.specs.Lists.{any, up_to}
use Rattle.book.specs.Sets.{has, WordOf}
use Rattle.book.specs.Blocks.{Head}
use Rattle.book.specs.Head.{is_data_leaf, operation}
use Rattle.book.specs.Inner.Reading.{Supporting}
use Rattle.lineage.specs.Rows.{Plan, Apply, kind_at, row_a}
use Rattle.lineage.specs.Paths.{Applied, OneRow, TwoRows, Path, labels, operation_of, paths}
use Rattle.lineage.specs.Accesses.{reaches, gives}

-- some Apply on the path has two rows
unfoldable pub mixes : List Applied → Bool
mixes [] = false
mixes (OneRow f ∷ above) = mixes above
mixes (TwoRows f ∷ above) = true

-- seventeen words a row: a path's label stands in the word of its operation; a label without one stands in word 0 while
-- it may take one, and in word 16 once its path has passed an Apply with two rows
unfoldable pub word_for : (head : Head) (label : ℕ) → Path → ℕ
word_for head d p = cond (mixes p.applies && eqb (operation_of head d p) 0) 16 (operation_of head d p)

-- some path of row i has label d in word w
unfoldable pub stands : (head : Head) (plan : Plan) (row label word : ℕ) → Bool
stands head plan i d w =
    any (λ p. any (eqb d) (labels head p.column) && eqb w (word_for head d p)) (paths plan i)

-- what an accepted plan for an accepted book gives: labels are data leaves, functions have one of 16 operations, and so
-- has what reaches a row: word 16 is no operation's
pub record PlanSound (head : Head) (plan : Plan) : Type 0 where
  pub leaves : (r d w : ℕ) → stands head plan r d w ≡ true → is_data_leaf head d ≡ true
  pub operations : (i : ℕ) → kind_at plan i ≡ Apply → operation head (row_a plan i) < 16
  pub below : (r d k : ℕ) → reaches head plan r d k ≡ true → k < 16

-- the seventeen words of row i
abbrev pub RowReached : Head → Plan → ℕ → List ℕ → Type 0
RowReached head plan i row = (w : ℕ) → w < 17 → WordOf (λ d. stands head plan i d w) (get_or row w 0)

-- word w of row r of a table; 0 past its end
abbrev pub word : (table : List (List ℕ)) (r w : ℕ) → ℕ
word table r w = get_or (get_or table r []) w 0

-- a table of rows of seventeen words: the rows below i; the others are empty
abbrev pub Reached : Head → Plan → ℕ → List (List ℕ) → Type 0
Reached head plan i table = (r w : ℕ) → w < 17 → WordOf (λ d. ltb r i && stands head plan r d w) (word table r w)

-- the words of two rows, joined
abbrev pub Brought : (table : List (List ℕ)) (first second : ℕ) (row : List ℕ) → Type 0
Brought table first second row =
    (w : ℕ) → w < 17 → get_or row w 0 ≡ bit_or (word table first w) (word table second w)

-- the words of a Column row: its labels, without an operation
abbrev pub ColumnReached : Head → ℕ → List ℕ → Type 0
ColumnReached head column row =
    (w : ℕ) → w < 17 → WordOf (λ d. any (eqb d) (labels head column) && eqb w 0) (get_or row w 0)

-- the words of row i, from those of the rows below it
abbrev pub RowStep : Head → Plan → List ℕ → List (List ℕ) → ℕ → List ℕ → Type 0
RowStep head plan supporting table i row =
    Supporting head supporting → PlanSound head plan → Reached head plan i table → RowReached head plan i row

-- a row's words after the members of a set that stand in word 0 have gone to word o
abbrev pub Moved : (row : List ℕ) (o : ℕ) (set : ℕ → Bool) (next : List ℕ) → Type 0
Moved row o set next =
    (w d : ℕ) →
    w < 17 →
    has (get_or next w 0) d ≡
    ((has (get_or row w 0) d && not (eqb w 0 && set d)) || (eqb w o && (set d && has (get_or row 0 0) d)))

-- after a function of operation o: leaves without an operation that support o take it
abbrev pub Operated : List ℕ → ℕ → List ℕ → List ℕ → Type 0
Operated row o supporting next = Moved row o (λ d. not (eqb o 0) && has (get_or supporting o 0) d) next

-- after an Apply with two rows: leaves without an operation can take none any more
abbrev pub Mixed : List ℕ → List ℕ → Type 0
Mixed row next = Moved row 16 (λ d. true) next

-- row r of a table by operation: word 0 has every leaf without one
abbrev pub ByOperation : (table : List (List ℕ)) (r : ℕ) (words : List ℕ) → Type 0
ByOperation table r words =
    (k : ℕ)
    → k < 16
    → get_or words k 0 ≡ cond (eqb k 0) (bit_or (word table r 0) (word table r 16)) (word table r k)

-- where row i gives accesses, they are those of a row below n
abbrev pub Given : Plan → ℕ → ℕ → Type 0
Given plan n i = (s : ℕ) → gives (kind_at plan i) s ≡ true → row_a plan i < n

-- the accesses that the rows below i give, sixteen words a channel
abbrev pub Gathered : Head → Plan → ℕ → List (List ℕ) → Type 0
Gathered head plan i words =
    (s k : ℕ) →
    s < 2 →
    k < 16 →
    WordOf (λ d. any (λ j. gives (kind_at plan j) s && reaches head plan (row_a plan j) d k) (up_to i)) (word words s k)

-- a row's words added to those of channel s
abbrev pub RowAdded : List (List ℕ) → ℕ → List ℕ → List (List ℕ) → Type 0
RowAdded words s row next =
    (t k : ℕ) → t < 2 → k < 16 → word next t k ≡ bit_or (word words t k) (cond (eqb t s) (get_or row k 0) 0)

-- what row i gives, added to what the rows below it give
abbrev pub GatheredStep : Plan → List (List ℕ) → ℕ → List (List ℕ) → List (List ℕ) → Type 0
GatheredStep plan table i words next =
    (head : Head) (n : ℕ)
    → PlanSound head plan
    → Reached head plan n table
    → Given plan n i
    → Gathered head plan i words
    → Gathered head plan (i + 1) next

-- what the first n rows give, one channel after the other
abbrev pub GatheredAll : Plan → List (List ℕ) → ℕ → List ℕ → Type 0
GatheredAll plan table n words =
    (head : Head)
    → PlanSound head plan
    → Reached head plan n table
    → ((i : ℕ) → i < n → Given plan n i)
    → (s k : ℕ)
    → s < 2
    → k < 16
    → WordOf (λ d. any (λ j. gives (kind_at plan j) s && reaches head plan (row_a plan j) d k) (up_to n))
    (get_or words (16 * s + k) 0)
