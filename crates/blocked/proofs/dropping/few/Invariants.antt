-- One rule a turn, from the highest number down (`Turns`). Assumes nothing.
use Rattle.blocked.specs.Inner.Tables.{with_thirds}
use Rattle.blocked.proofs.DroppingLaws.{Turns}
use Rattle.blocked.proofs.dropping.few.Given as goal

abbrev pub invariant-loop-q : goal.invariant-loop-q
invariant-loop-q l =
    Turns l.tables.rules l.tables.met (with_thirds l.tables.scope l.thirds) l.row.first l.row.second l.fn.denial.third
    l.r l.rules l.q l.left
