-- One word a turn (`Mapped`); the law `settled_at` reads the words as places. Assumes nothing.
use Rattle.std.proofs.Common.{rules}
use native.Mathlib.Omega.{arith}
use Rattle.search.proofs.SettlingLaws.{settled_at}
use Rattle.search.proofs.settling.take_settled_at.Goals as goal

pub returns : goal.returns
returns c =
    let a = c.args in
    let ask = a.ask.now in
    let operations = c.settled_operations-operations in
    settled_at ask.tables.now ask.rule ask.references a.q a.i a.k a.l a.a a.thirds.now a.seconds.now
    c.loop-w.seconds operations.result c.loop-w.w (search rules) (search rules) operations.ensures
    c.loop-w.invariant (omega arith)
