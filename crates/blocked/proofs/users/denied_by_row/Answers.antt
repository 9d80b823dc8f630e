-- The row is closed to a user before the one found so far, or to none (`rows_more`). Assumes nothing.
use Rattle.blocked.proofs.UserLaws.{limit_small, rows_more}
use Rattle.blocked.proofs.users.denied_by_row.Goals as goal

pub returns : goal.returns
returns c given old =
    let a = c.args in
    let t = a.tables.now in
    let most = limit_small t.rules t.all t.scope a.own.now _ a.before old in
    rw c.or.ensures
    (rows_more t.rules t.all t.scope a.own.now a.row.first a.row.second given.there.below.1 a.before
    c.denied_in-earlier.result old
    (rw c.limit_of.ensures at (c.denied_in-earlier.ensures given (rw c.limit_of.ensures most))))
