-- What the functions that are lent the tables promise each other: the definitions of Pairs, Rows, Users and Few, of the
-- tables and of a row in them. No call's promise leans on this file. Assumes nothing.
use Rattle.std.specs.Prelude.{ℕ, Bool, List, Option}
use Rattle.book.specs.Sets.{has}
use Rattle.blocked.specs.Inner.Cells.{Left, Tried}
use Rattle.blocked.specs.Inner.Pairs.{Prepared, Ready}
use Rattle.blocked.specs.Inner.Rows.{AllOpen, AskedUser, DeniedIn, Given, RowGiven, RowOpen, RowThere, ThirdOf}
use Rattle.blocked.specs.Inner.Users.{DeniedFirst, RowsUpTo}
use Rattle.blocked.specs.Inner.Few.{CellsGiven, OneGiven, Told}
use Rattle.blocked.specs.declared.tables.Row.{Row}
use Rattle.blocked.specs.declared.tables.Scope.{Scope}
use Rattle.blocked.specs.declared.tables.Tables.{Tables}
use Rattle.blocked.specs.declared.users.Denial.{Denial}

-- a scope with other third places: those of one cell, where its rules are dropped by trial
abbrev pub with_thirds : Scope → (thirds : List ℕ) → Scope
with_thirds s thirds = record { firsts = s.firsts; seconds = s.seconds; thirds = thirds }

-- what a search is given: for some rules and third places, for all of them, in a row
abbrev pub PreparedBy : Tables → (rules : ℕ → Bool) → (thirds : List ℕ) → Type 0
PreparedBy t rules thirds = Prepared t.rules t.met rules t.scope.seconds thirds

abbrev pub ReadyBy : Tables → Type 0
ReadyBy t = Ready t.rules t.met t.all t.scope.seconds t.scope.thirds t.covered

abbrev pub GivenBy : Tables → Type 0
GivenBy t = Given t.rules t.met t.all t.scope

abbrev pub RowBy : Tables → Row → Type 0
RowBy t row = RowGiven t.rules t.met t.all t.scope row.first row.second

abbrev pub ThereBy : Tables → Row → Type 0
ThereBy t row = RowThere t.scope row.first row.second

-- some third places of a row
abbrev pub TriedBy : Tables → Row → (rules k : ℕ) → (before after : List ℕ) → Type 0
TriedBy t row rules k before after =
    Tried t.rules rules t.scope.firsts t.scope.seconds row.first row.second k before after

abbrev pub LeftBy : Tables → Row → (rules : ℕ) → (thirds rest : List ℕ) → Type 0
LeftBy t row rules thirds rest =
    Left t.rules rules t.scope.firsts t.scope.seconds thirds row.first row.second 16 rest

abbrev pub ThirdBy : Tables → Row → (rules : ℕ → Bool) → (thirds : List ℕ) → Option ℕ → Type 0
ThirdBy t row rules thirds third = ThirdOf t.rules rules (with_thirds t.scope thirds) row.first row.second third

-- sets of rules that leave a row open
abbrev pub OpenBy : Tables → Row → (rules : ℕ) → Type 0
OpenBy t row rules = RowOpen t.rules (has rules) t.scope row.first row.second

abbrev pub AllOpenBy : Tables → Row → List ℕ → Type 0
AllOpenBy t row sets = AllOpen t.rules t.scope row.first row.second sets

abbrev pub AskedBy : Tables → Row → (rules : ℕ) → (opened : List ℕ) → Option ℕ → Type 0
AskedBy t row rules opened third = AskedUser t.rules t.scope row.first row.second (has rules) opened third

-- users
abbrev pub DeniedBy : Tables → Row → (own : List ℕ) → (limit : ℕ) → Option Denial → Type 0
DeniedBy t row own limit found = DeniedIn t.rules t.all t.scope own row.first row.second limit found

abbrev pub UpToBy : Tables → (own : List ℕ) → (h : ℕ) → Option Denial → Type 0
UpToBy t own h found = RowsUpTo t.rules t.all t.scope own h found

abbrev pub FirstBy : Tables → (r : ℕ) → Option Denial → Type 0
FirstBy t r found = DeniedFirst t.rules r t.scope.firsts t.scope.seconds t.scope.thirds t.covered found

-- the few rules
abbrev pub CellsBy : Tables → Denial → (counts : ℕ) → Type 0
CellsBy t d counts = CellsGiven t.rules t.met counts t.scope d.first d.second d.third

abbrev pub ToldBy : Tables → Row → (thirds : List ℕ) → (n r counts : ℕ) → ((ℕ → Bool) → Bool) → Type 0
ToldBy t row thirds n r counts passes =
    Told t.rules (with_thirds t.scope thirds) row.first row.second n r counts passes

abbrev pub OneBy : Tables → Row → (thirds : List ℕ) → (n counts : ℕ) → Type 0
OneBy t row thirds n counts = OneGiven t.rules t.met counts (with_thirds t.scope thirds) row.first row.second n
