-- A set that gets wider leaves the row open too (`sets_set`). Assumes nothing.
use Rattle.blocked.proofs.UserLaws.{sets_set}
use Rattle.blocked.proofs.users.add_rules.Goals as goal

pub returns-in-Some : goal.returns-in-Some
returns-in-Some c given own free =
    let a = c.args in
    let t = a.tables.now in
    let loop = c.loop-d in
    sets_set t.rules t.scope a.row.first a.row.second loop.trials.opened loop.d c.in-Some.wider
    (rw loop.invariant free) (rw c.in-Some.is at (c.open_under.ensures given))

pub returns : goal.returns
returns c given own free =
    let a = c.args in
    let t = a.tables.now in
    let loop = c.loop-d in
    sets_set t.rules t.scope a.row.first a.row.second loop.trials.opened c.from-own.result a.rules
    (rw loop.invariant free) own
