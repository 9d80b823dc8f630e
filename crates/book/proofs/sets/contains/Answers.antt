-- A word of 64 bits has no member from 64 on; below that the code is the definition. Assumes nothing.
use mathlib.Core.Path.{sym}
use borrow.Author.Rules.{rules}
use Rattle.book.specs.Sets.{has}
use Rattle.book.proofs.Members.{has_above}
use Rattle.book.proofs.sets.contains.Goals as goal

pub returns-then-i-ge64 : goal.returns-then-i-ge64
returns-then-i-ge64 c = sym (has_above 64 c.args.set c.args.i (search rules) (search rules))

pub returns : goal.returns
unfolding has
returns c = search rules
