-- One category of the list a turn: the law `under_more`. Assumes nothing.
use Rattle.std.proofs.Common.{arith}
use lib.Seq.{take_all}
use Rattle.book.specs.Lists.{any}
use Rattle.book.proofs.Lists.{and_false}
use Rattle.book.proofs.Members.{has_zero}
use Rattle.book.proofs.HeadWords.{under_more}
use Rattle.book.proofs.rules.under_some.Goals as goal

pub loop-c-init : goal.loop-c-init
unfolding any
loop-c-init c count parent held j = rw (has_zero j, and_false, and_false)

pub loop-c-preserved : goal.loop-c-preserved
loop-c-preserved c count parent held =
    let l = c.loop-c in
    let a = c.args in
    under_more count parent l.found c.under-found.result a.list.now l.c-index c.loop-c-test.true
    (l.invariant count parent held) ((rw c.from.ensures at c.under-found.ensures) count parent held)

pub returns : goal.returns
returns c count parent held j =
    let l = c.loop-c in
    let list = c.args.list.now in
    rw (take_all l.c-index list (omega arith)) at (l.invariant count parent held j)
