-- One rule a turn. Assumes nothing.
use Rattle.std.proofs.Common.{◌≡◌, ◌≤◌, length}
use Rattle.book.specs.Blocks.{head_of}
use Rattle.book.specs.Inner.Words.{HeadWords}
use Rattle.search.proofs.RuleWords.{Rules}
use Rattle.search.proofs.tables.fill_table.Given as goal

abbrev pub invariant-loop-q : goal.invariant-loop-q
invariant-loop-q l =
    HeadWords (head_of l.book) l.words → l.n ≤ 32 → length l.fn.tables ≡ 32 → Rules l.book l.tables l.q
