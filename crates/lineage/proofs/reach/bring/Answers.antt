-- Past the table's end there is no row, and nothing is joined. Assumes nothing.
use Rattle.std.proofs.Common.{sym, []}
use lib.Bits.{or_zero_r}
use lib.ListN.{get_or, get_or-eq_default}
use Rattle.lineage.proofs.reach.bring.Goals as goal

pub returns-in_default : goal.returns-in_default
returns-in_default c w small =
    let a = c.args in
    rw (← c.from.ensures, get_or-eq_default a.reach.now [] c.in_default.ensures.lookup.3) (sym (or_zero_r (get_or a.row.now w 0)))
