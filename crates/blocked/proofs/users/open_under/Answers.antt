-- No third cell is closed under some of all rules. Assumes nothing.
use Rattle.blocked.proofs.UserLaws.{part_prepared}
use Rattle.blocked.proofs.users.open_under.Goals as goal

pub returns-in-None : goal.returns-in-None
returns-in-None c given =
    let a = c.args in
    let t = a.tables.now in
    rw c.in-None.is at
    (c.closed_third.ensures (part_prepared t.rules t.met t.scope t.all a.rules given.prepared) given.there)
