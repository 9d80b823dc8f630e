-- One order a turn: the words of its two references (`order_word`). Assumes nothing.
use native.Mathlib.Omega.{arith}
use mathlib.Core.Path.{◌∙◌}
use Rattle.book.proofs.Loops.{fill_more}
use Rattle.blocked.proofs.MetLaws.{order_word, three_words}
use Rattle.blocked.proofs.OrderLaws.{order_first, order_second}
use Rattle.blocked.proofs.pairs.row_masks.Goals as goal

pub loop-v-preserved : goal.loop-v-preserved
loop-v-preserved c =
    let a = c.args in
    let v = c.loop-v.v in
    let first = c.from.ensures ∙ order_first v c.loop-v-test.true in
    let second = c.from-in-loop-v.ensures ∙ order_second v c.loop-v-test.true in
    fill_more c.loop-v.invariant c.loop-v-test.true
    (λ holds.
    order_word a.t.now a.rules a.a a.m v c.from.result c.from-in-loop-v.result _ _ first second
    (three_words a.t.now a.a c.met_by.result c.met_by-2.result c.met_by-3.result c.met_by.ensures c.met_by-2.ensures
    c.met_by-3.ensures c.from.result (omega arith))
    (λ q. holds a.m c.from-in-loop-v.result q (omega arith) (omega arith)))

pub returns : goal.returns
returns c small holds v q l = c.loop-v.invariant.at v (omega arith) holds q

pub returns-then-m-ge-PAST_CELLS : goal.returns-then-m-ge-PAST_CELLS
returns-then-m-ge-PAST_CELLS c small = absurd (omega arith)
