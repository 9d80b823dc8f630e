-- One restriction a turn (`Filled`). Assumes nothing.
use Rattle.lineage.proofs.Tables.{Filled}
use Rattle.search.specs.Inner.Table.{RestrictionWord}
use Rattle.search.proofs.tables.restriction_words.Given as goal

abbrev pub invariant-loop-j : goal.invariant-loop-j
invariant-loop-j l = Filled 8 (RestrictionWord l.rule l.i) l.words l.j
