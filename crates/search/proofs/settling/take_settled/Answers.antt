-- One order a turn, and each of them settles. Assumes nothing.
use Rattle.std.proofs.Common.{refl, ◌&&◌}
use native.Mathlib.Omega.{arith}
use Rattle.search.specs.Inner.Table.{meets}
use Rattle.search.specs.Inner.Closing.{closes, closes_at}
use Rattle.search.proofs.ClosingLaws.{order_at}
use Rattle.search.proofs.SettlingLaws.{settled_more, order_closes}
use Rattle.search.proofs.settling.take_settled.Goals as goal

pub loop-i-preserved : goal.loop-i-preserved
loop-i-preserved c =
    let a = c.args in
    let ask = a.ask.now in
    let t = ask.tables.now in
    let loop = c.loop-i in
    let m = loop.i-index in (
      refl,
      settled_more t ask.rule ask.references a.a a.thirds.now (closes t a.q a.a)
          (λ y x. meets t a.q (order_at m 0) x && closes_at t a.q (order_at m 0) (order_at m 1) (order_at m 2) a.a y x)
          a.seconds.now loop.seconds c.take_settled_at.new.seconds
          (λ y x. order_closes t a.q a.a y x m (omega arith)) loop.invariant.1 c.take_settled_at.ensures,
    )
