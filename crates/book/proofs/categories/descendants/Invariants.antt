-- One falling pass: the law `gathered_more` is its step. Assumes nothing.
use Rattle.book.specs.Inner.Reading.{parent_in}
use Rattle.book.proofs.HeadWords.{Gathered}
use Rattle.book.proofs.categories.descendants.Given as goal

abbrev pub invariant-loop-i : goal.invariant-loop-i
invariant-loop-i l = Gathered (parent_in l.which l.head) l.n l.words l.i
