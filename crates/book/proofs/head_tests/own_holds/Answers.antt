-- A mask without operation 0 is even. Assumes nothing.
use Rattle.book.specs.Refusals.{own_holds}
use Rattle.book.proofs.Members.{even}
use Rattle.book.proofs.head_tests.own_holds.Goals as goal

pub returns : goal.returns
unfolding own_holds
returns c =
    let own = c.own_operations-own in
    let withdrawn = c.withdrawn_operations-withdrawn in
    rw (even own.result, even withdrawn.result, own.ensures.0, withdrawn.ensures.0)
