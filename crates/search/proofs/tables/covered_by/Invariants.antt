-- One rule a turn. Assumes nothing.
use Rattle.book.specs.Blocks.{head_of}
use Rattle.book.specs.Inner.Words.{HeadWords}
use Rattle.search.proofs.RuleWords.{Covers}
use Rattle.search.proofs.tables.covered_by.Given as goal

abbrev pub invariant-loop-r : goal.invariant-loop-r
invariant-loop-r l = HeadWords (head_of l.book) l.words → Covers l.book l.covered l.r
