-- The definition, opened. Assumes nothing.
use borrow.Author.Rules.{rules}
use Rattle.book.specs.Refusals.{length_holds, between}
use Rattle.book.proofs.checking.length_holds.Goals as goal

pub returns : goal.returns
unfolding between length_holds
returns c = search rules
