-- Each operation for itself (`settled_with`). Assumes nothing.
use Rattle.std.proofs.Common.{rules}
use Rattle.search.proofs.SettlingLaws.{settled_with}
use Rattle.search.proofs.settling.settled_operations.Goals as goal

pub returns : goal.returns
returns c =
    let a = c.args in
    let ask = a.ask.now in
    settled_with ask.tables.now ask.rule ask.references a.q a.i a.k a.l a.a a.thirds.now c.those_below.result
    (λ o small h. let e = c.those_below.ensures.below o small small in search rules)
