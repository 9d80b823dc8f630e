-- A power of two less one has the members below its exponent. Assumes nothing.
use native.Mathlib.Omega.{arith}
use lib.Pow.{pow_pos}
use borrow.Author.Rules.{rules}
use Rattle.book.proofs.Members.{single_shift, below_in, below_out}
use Rattle.book.proofs.sets.below.Goals as goal

pub returns-then-n-ge64 : goal.returns-then-n-ge64
returns-then-n-ge64 c j = below_out 64 c.args.n j (search rules)

pub overflow_sub-result : goal.overflow_sub-result
overflow_sub-result c = omega (arith, single_shift 64 c.args.n (search rules), pow_pos c.args.n)

pub returns : goal.returns
returns c j =
    let n = c.args.n in
    rw (single_shift 64 n (search rules)) (below_in 64 n j (search rules))
