-- One of the two, by their order. Assumes nothing.
use Rattle.std.proofs.Common.{rules}
use Rattle.search.specs.Inner.Search.{triple_before}
use Rattle.search.proofs.WeightLaws.{earlier_first, earlier_one, earlier_other, earlier_second}
use Rattle.search.proofs.weighing.earlier.Goals as goal

pub returns-in-None-default : goal.returns-in-None-default
returns-in-None-default c p q one other = earlier_other p q c.args.other (rw c.in-None-default.is-0 at one) other

pub returns-in_default-None : goal.returns-in_default-None
returns-in_default-None c p q one other = earlier_one p q c.args.one one (rw c.in_default-None.is-1 at other)

pub returns-then-lt : goal.returns-then-lt
unfolding triple_before
returns-then-lt c p q one other =
    let d = c.in-Some-Some in
    rw d.is-1 (earlier_second p q d.a d.b (search rules) (rw d.is-0 at one) (rw d.is-1 at other))

pub returns-else-lt : goal.returns-else-lt
unfolding triple_before
returns-else-lt c p q one other =
    let d = c.in-Some-Some in
    rw d.is-0 (earlier_first p q d.a d.b (search rules) (rw d.is-0 at one) (rw d.is-1 at other))
