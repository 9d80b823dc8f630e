-- One falling pass: the law `gathered_more` is its step. Assumes nothing.
use Rattle.std.proofs.Common.{arith, ◌≡◌, ◌+◌, ◌-◌}
use Rattle.book.specs.Inner.Reading.{count_in, parent_in}
use Rattle.book.proofs.HeadWords.{gathered_none, gathered_more, gathered_end}
use Rattle.book.proofs.categories.descendants.Goals as goal

pub loop-i-init : goal.loop-i-init
loop-i-init c =
    let a = c.args in
    gathered_none (parent_in a.which a.head.now) c.min-n.result (omega (arith, c.min-n.ensures))

pub loop-i-preserved : goal.loop-i-preserved
loop-i-preserved c =
    let a = c.args in
    let l = c.loop-i in
    let n = c.min-n in
    let p = c.min-p in
    let high : l.i ≡ (l.i - 1) + 1 = omega (arith, c.loop-i-test.true) in
    gathered_more (parent_in a.which a.head.now) n.result (l.i - 1) p.result c.single.result l.words
    (rw high at l.invariant) (rw c.parent.ensures.0 at p.ensures) c.single.ensures

pub returns : goal.returns
returns c =
    let a = c.args in
    let l = c.loop-i in
    let n = c.min-n in
    let e : l.i ≡ 0 = omega (arith, c.loop-i-test.false) in
    gathered_end (parent_in a.which a.head.now) (count_in a.which a.head.now) n.result l.words
    (rw e at l.invariant) (rw c.count.ensures.0 at n.ensures)
