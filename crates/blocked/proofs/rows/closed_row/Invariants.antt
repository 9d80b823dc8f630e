-- One place of the first cell after the other, in turn from the hint (`LeftFrom`). Assumes nothing.
use Prim.Native.Nat.{◌≤◌, ◌<◌}
use Rattle.book.specs.Sets.{has}
use Rattle.blocked.specs.Inner.Tables.{PreparedBy}
use Rattle.blocked.proofs.RowLaws.{LeftFrom}
use Rattle.blocked.proofs.rows.closed_row.Given as goal

abbrev pub invariant-loop-j : goal.invariant-loop-j
invariant-loop-j l =
    (l.j ≤ 16)
    × (l.row.first < 132
    → l.row.second < 132
    → PreparedBy l.tables (has l.rules) l.thirds
    → LeftFrom l.tables.rules l.rules l.tables.scope.firsts l.tables.scope.seconds
    l.thirds l.row.first l.row.second l.from l.j l.places)
