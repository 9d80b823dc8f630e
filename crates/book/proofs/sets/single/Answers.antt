-- A shift of 1 by less than 64 is a power of two, whose one member is its exponent. Assumes nothing.
use borrow.Author.Rules.{rules}
use Rattle.book.proofs.Members.{single_shift, single_in, single_out}
use Rattle.book.proofs.sets.single.Goals as goal

pub returns-then-i-ge64 : goal.returns-then-i-ge64
returns-then-i-ge64 c j = single_out 64 c.args.i j (search rules)

pub returns : goal.returns
returns c j =
    let i = c.args.i in
    rw (single_shift 64 i (search rules)) (single_in 64 i j (search rules))
