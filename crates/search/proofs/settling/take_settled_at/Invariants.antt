-- One word a turn (`Mapped`); the law `settled_at` reads the words as places. Assumes nothing.
use Rattle.std.proofs.Common.{◌-◌, ◌^◌, bit_and, get_or}
use Rattle.search.specs.Inner.Table.{meets_words}
use Rattle.search.proofs.PlaceLaws.{Mapped}
use Rattle.search.proofs.settling.take_settled_at.Given as goal

abbrev pub invariant-loop-w : goal.invariant-loop-w
invariant-loop-w l =
    Mapped (λ j x. bit_and x ((2 ^ 64 - 1) - bit_and (get_or (meets_words l.ask.tables.now l.q l.l) j 0) l.operations))
    l.fn.seconds l.seconds l.w
