-- The rules that pass (`members_below`). Assumes nothing.
use native.Mathlib.Omega.{arith}
use borrow.Author.Rules.{rules}
use Rattle.search.specs.Inner.Table.{meets}
use Rattle.search.proofs.UserLaws.{members_below}
use Rattle.blocked.proofs.pairs.met_by.Goals as goal

pub returns : goal.returns
returns c =
    let a = c.args in
    members_below (λ q. meets a.t.now q a.i a.p) 32 c.those_below.result
    (λ q l. let told = c.those_below.ensures.below q l (omega arith) in search rules)
    c.those_below.ensures.above
