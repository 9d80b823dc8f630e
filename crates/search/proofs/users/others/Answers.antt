-- Those below 32 by the test, and none from there on (`members_below`). Assumes nothing.
use Rattle.std.proofs.Common.{rules, arith}
use Rattle.search.specs.Inner.Search.{others_for}
use Rattle.search.proofs.UserLaws.{members_below}
use Rattle.search.proofs.users.others.Goals as goal

pub returns : goal.returns
unfolding others_for
returns c =
    let a = c.args in
    members_below (others_for a.r a.covered.now a.u) 32 c.those_below.result
    (λ q l. let h = c.those_below.ensures.below q l (omega arith) in search rules)
    c.those_below.ensures.above
