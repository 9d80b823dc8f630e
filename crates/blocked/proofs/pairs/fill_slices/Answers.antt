-- One order a turn (`Sliced`). Assumes nothing.
use native.Mathlib.Omega.{arith}
use Rattle.blocked.proofs.OrderLaws.{order_first, order_second, order_third}
use Rattle.blocked.proofs.SliceLaws.{sliced_more}
use Rattle.blocked.proofs.pairs.fill_slices.Goals as goal

pub loop-v-preserved : goal.loop-v-preserved
loop-v-preserved c =
    let a = c.args in
    let v = c.loop-v.v in
    let lv = c.loop-v-test.true in
    sliced_more a.t.now a.masks.now a.a c.loop-v.s v _ _ _ c.fill_order.new.slices lv (order_first v lv)
    (order_second v lv) (order_third v lv) c.fill_order.ensures c.loop-v.invariant

pub returns : goal.returns
returns c v l = c.loop-v.invariant.turned v (omega arith)
