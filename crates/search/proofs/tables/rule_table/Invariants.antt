-- One reference a turn. Assumes nothing.
use Rattle.std.proofs.Common.{List, ℕ}
use Rattle.book.specs.Inner.Words.{HeadWords}
use Rattle.search.proofs.RuleWords.{References}
use Rattle.search.proofs.tables.rule_table.Given as goal

abbrev pub invariant-loop-i : goal.invariant-loop-i
invariant-loop-i l = (head : List ℕ) → HeadWords head l.words → References head l.rule l.table l.i
