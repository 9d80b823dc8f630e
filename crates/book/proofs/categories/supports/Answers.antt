-- One category a turn (`Filled`). Assumes nothing.
use Rattle.std.proofs.Common.{rules, arith, ◌<◌}
use Rattle.book.proofs.Loops.{fill_none, fill_more}
use Rattle.book.proofs.HeadWords.{below_capped}
use Rattle.book.proofs.categories.supports.Goals as goal

pub loop-d-init : goal.loop-d-init
loop-d-init c = (omega (arith, c.min-n.ensures), fill_none (search rules))

pub loop-d-preserved : goal.loop-d-preserved
loop-d-preserved c =
    let l = c.loop-d in
    (l.invariant.0, fill_more l.invariant.1 (omega arith) c.support.ensures.0)

pub returns : goal.returns
returns c d small known =
    let n = c.min-n in
    let m = c.count in
    let l : d < n.result = below_capped m.result n.result n.ensures d small (rw m.ensures.0 known) in
    c.loop-d.invariant.1.at d (omega arith)
