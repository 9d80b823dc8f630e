-- The few rules that close three cells, in the tables' terms. No call's promise leans on this file. Assumes nothing.
use Rattle.std.specs.Prelude.{ℕ, suc, ◌<◌, ◌≡◌, Bool, true, false, ◌&&◌, List}
use Rattle.book.specs.Sets.{has}
use Rattle.search.specs.Inner.Closing.{Within}
use Rattle.search.specs.declared.tables.RuleTable.{RuleTable}
use Rattle.blocked.specs.Few.{after_trials, with_asking, without}
use Rattle.blocked.specs.Inner.Cells.{Shut, in_cell, past_cells}
use Rattle.blocked.specs.Inner.Rows.{CellsOf, Given, OpensOf}
use Rattle.blocked.specs.declared.tables.Scope.{Scope}

-- cells that a set of rules closes
abbrev pub ShutOf : List RuleTable → (ℕ → Bool) → Scope → ℕ → ℕ → ℕ → Type 0
ShutOf t rules s l m n = Shut t rules s.firsts s.seconds s.thirds l m n

-- a test that the tables tell of: rules pass where those of them that count, together with r, close three cells
pub record Told (t : List RuleTable) (s : Scope) (l m n r counts : ℕ) (passes : (ℕ → Bool) → Bool) : Type 0 where
  pub shut : (left : ℕ → Bool) → ShutOf t (λ q. with_asking r left q && has counts q) s l m n → passes left ≡ true
  pub opens : (left : ℕ → Bool) → OpensOf t (λ q. with_asking r left q && has counts q) s l m n → passes left ≡ false

-- three cells of a scope, and what a row is given
pub record CellsGiven (t : List RuleTable) (met : List (List ℕ)) (counts : ℕ) (s : Scope) (l m n : ℕ) : Type 0 where
  pub prepared : Given t met counts s
  pub cells : CellsOf s l m n

-- and no other third cell is there
pub record OneGiven (t : List RuleTable) (met : List (List ℕ)) (counts : ℕ) (s : Scope) (l m n : ℕ) : Type 0 where
  pub cells_given : CellsGiven t met counts s l m n
  pub one : (w : ℕ) → w < past_cells → in_cell s.thirds w ≡ true → w ≡ n

-- rules that count, r among them
pub record Keeps (r counts rules : ℕ) : Type 0 where
  pub within : Within (has rules) (has counts)
  pub asking : has rules r ≡ true

-- what is left of some rules once rule q has been tried
pub record Dropped (passes : (ℕ → Bool) → Bool) (r counts q before after : ℕ) : Type 0 where
  pub keeps : Keeps r counts after
  pub trial : after_trials passes (suc q) (without (has before) r) ≡ after_trials passes q (without (has after) r)
