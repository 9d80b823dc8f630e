-- Rows: the third cells beside a first and a second one, and which sets of rules leave them open, in the tables' terms.
-- No call's promise leans on this file. Assumes nothing.
use Rattle.std.specs.Prelude.{ℕ, ◌<◌, ◌≡◌, Bool, true, List, get_or, Option, Some, None, eqb}
use Rattle.std.specs.Int.Bits.{bit_and, bit_or}
use Rattle.book.specs.Sets.{has}
use Rattle.search.specs.declared.tables.RuleTable.{RuleTable}
use Rattle.blocked.specs.Inner.Cells.{Cells, Opens, Shut, in_cell, past_cells}
use Rattle.blocked.specs.Inner.Pairs.{Prepared}
use Rattle.blocked.specs.declared.tables.Scope.{Scope}
use Rattle.blocked.specs.declared.users.Denial.{Denial}

-- three cells of a scope
abbrev pub CellsOf : Scope → ℕ → ℕ → ℕ → Type 0
CellsOf s l m n = Cells s.firsts s.seconds s.thirds l m n

-- places of them that break no rule of a set
abbrev pub OpensOf : List RuleTable → (ℕ → Bool) → Scope → ℕ → ℕ → ℕ → Type 0
OpensOf t rules s l m n = Opens t rules s.firsts s.seconds s.thirds l m n

-- a first and a second cell that have places
pub record RowThere (s : Scope) (l m : ℕ) : Type 0 where
  pub below : (l < past_cells) × (m < past_cells)
  pub first : in_cell s.firsts l ≡ true
  pub second : in_cell s.seconds m ≡ true

-- a set of rules leaves every third cell beside them open
abbrev pub RowOpen : List RuleTable → (ℕ → Bool) → Scope → ℕ → ℕ → Type 0
RowOpen t rules s l m = (w : ℕ) → CellsOf s l m w → OpensOf t rules s l m w

-- a third cell that it closes, and no third cell before it
pub record ShutThird (t : List RuleTable) (rules : ℕ → Bool) (s : Scope) (l m cell : ℕ) : Type 0 where
  pub open_before : (w : ℕ) → w < cell → CellsOf s l m w → OpensOf t rules s l m w
  pub shut : Shut t rules s.firsts s.seconds s.thirds l m cell

-- the first third cell that it closes, if there is one
abbrev pub ThirdOf : List RuleTable → (ℕ → Bool) → Scope → ℕ → ℕ → Option ℕ → Type 0
ThirdOf t rules s l m None = RowOpen t rules s l m
ThirdOf t rules s l m (Some cell) = ShutThird t rules s l m cell

-- what the search is given: the tables, for all rules
abbrev pub Given : List RuleTable → List (List ℕ) → ℕ → Scope → Type 0
Given t met all s = Prepared t met (has all) s.seconds s.thirds

-- and in a row
pub record RowGiven (t : List RuleTable) (met : List (List ℕ)) (all : ℕ) (s : Scope) (l m : ℕ) : Type 0 where
  pub prepared : Given t met all s
  pub there : RowThere s l m

-- every one of 33 sets of rules leaves a row open
abbrev pub AllOpen : List RuleTable → Scope → ℕ → ℕ → List ℕ → Type 0
AllOpen t s l m sets = (i : ℕ) → i < 33 → RowOpen t (has (get_or sets i 0)) s l m

-- no rule of a word is outside another
abbrev pub lies_within : (rules wide : ℕ) → Bool
lies_within rules wide = eqb (bit_or rules wide) wide

-- sets that leave a row open, and the first third cell that the rules of a user close
pub record AskedUser (t : List RuleTable) (s : Scope) (l m : ℕ) (rules : ℕ → Bool) (opened : List ℕ) (third : Option ℕ) : Type 0 where
  pub free : AllOpen t s l m opened
  pub first : ThirdOf t rules s l m third

-- the rules of a user that are among all rules
abbrev pub own_of : ℕ → List ℕ → ℕ → ℕ → Bool
own_of all own u = has (bit_and all (get_or own u 0))

-- a row is closed to a user below a limit, and to no user before it
pub record DeniedUserIn (t : List RuleTable) (all : ℕ) (s : Scope) (own : List ℕ) (l m limit : ℕ) (found : Denial) : Type 0 where
  pub below : found.user < limit
  pub first : found.first ≡ l
  pub second : found.second ≡ m
  pub open_before : (v : ℕ) → v < found.user → RowOpen t (own_of all own v) s l m
  pub shut : ShutThird t (own_of all own found.user) s l m found.third

-- the first such user, if there is one
abbrev pub DeniedIn : List RuleTable → ℕ → Scope → List ℕ → ℕ → ℕ → ℕ → Option Denial → Type 0
DeniedIn t all s own l m limit None = (v : ℕ) → v < limit → RowOpen t (own_of all own v) s l m
DeniedIn t all s own l m limit (Some found) = DeniedUserIn t all s own l m limit found
