-- One order a turn, and each of them settles. Assumes nothing.
use Rattle.std.proofs.Common.{◌≡◌}
use Rattle.search.specs.Inner.Closing.{orders, closes}
use Rattle.search.specs.Inner.Search.{asked, Settled}
use Rattle.search.proofs.settling.take_settled.Given as goal

abbrev pub invariant-loop-i : goal.invariant-loop-i
invariant-loop-i l =
    (l.i-items ≡ orders) × asked Settled l.ask l.a l.thirds (closes l.ask.tables.now l.q l.a) l.fn.seconds l.seconds
