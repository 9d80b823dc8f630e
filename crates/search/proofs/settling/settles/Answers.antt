-- What is taken is all that is refused (`settled_beside`). Assumes nothing.
use Rattle.search.proofs.SettlingLaws.{settled_beside}
use Rattle.search.proofs.settling.settles.Goals as goal

pub returns : goal.returns
returns c all =
    let a = c.args in
    let ask = a.ask.now in
    settled_beside ask.tables.now ask.rule ask.references a.q a.i a.k a.l a.a a.thirds.now a.y
    c.accepted_third-own.result c.accepted_beside-other.result c.accepted_third-own.ensures
    c.accepted_beside-other.ensures (c.takes_all.ensures all)
