-- Nobody, or the rules that are left for the user and the cells that were found. Assumes nothing.
use Rattle.blocked.proofs.FewLifting.{nobody_causes, user_found}
use Rattle.blocked.proofs.calls.causes.Goals as goal

pub returns-in_err-denial : goal.returns-in_err-denial
returns-in_err-denial c l =
    let a = c.args in
    let book = a.book.now in
    let found = c.denied in
    rw c.from_residual.ensures
    (nobody_causes book.bytes.now book.accepted a.rule l found.new.tables (found.ensures.filled l) found.result
    c.in_err-denial.was (found.ensures.first l))

pub returns : goal.returns
returns c l =
    let a = c.args in
    let book = a.book.now in
    let found = c.denied in
    let rules = c.covering-rules in
    user_found book.bytes.now book.accepted a.rule l found.new.tables (found.ensures.filled l) c.in_ok-denial.denial
    found.result c.in_ok-denial.was (found.ensures.first l) rules.result rules.ensures c.few-found.result
    c.few-found.ensures
