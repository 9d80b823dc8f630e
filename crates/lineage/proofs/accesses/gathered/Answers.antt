-- One row a turn (`give`). Assumes nothing.
use Rattle.std.proofs.Common.{◌≡◌, arith}
use Rattle.lineage.proofs.Words.{gathered_none}
use Rattle.lineage.proofs.accesses.gathered.Goals as goal

pub loop-i-init : goal.loop-i-init
loop-i-init c head sound reached given = gathered_none head c.args.plan.now 2 16

pub loop-i-preserved : goal.loop-i-preserved
loop-i-preserved c head sound reached given =
    let l = c.loop-i in
    c.give.ensures head c.args.n sound reached (given l.i c.loop-i-test.true) (l.invariant head sound reached given)

pub returns : goal.returns
returns c head sound reached given s k channel small =
    let l = c.loop-i in
    let e : l.i ≡ c.args.n = omega (arith, l.auto.i-end) in
    rw (c.flat.ensures s k channel small, ← e) (l.invariant head sound reached given s k channel small)
