-- Nobody, or a user: what is found is the first that is closed (`started_denied`). Assumes nothing.
use Rattle.blocked.proofs.CallLaws.{nobody_answer, user_answer}
use Rattle.blocked.proofs.FewLifting.{started_denied}
use Rattle.blocked.proofs.calls.blocking.Goals as goal

pub returns-in_err-denial : goal.returns-in_err-denial
returns-in_err-denial c l =
    let a = c.args in
    let book = a.book.now in
    let found = c.denied in
    rw c.from_residual.ensures
    (nobody_answer book.bytes.now a.rule found.result
    (started_denied book.bytes.now book.accepted a.rule l found.new.tables (found.ensures.filled l) found.result
    (found.ensures.first l))
    c.in_err-denial.was)

pub returns : goal.returns
returns c l =
    let a = c.args in
    let book = a.book.now in
    let found = c.denied in
    user_answer book.bytes.now a.rule found.result
    (started_denied book.bytes.now book.accepted a.rule l found.new.tables (found.ensures.filled l) found.result
    (found.ensures.first l))
    c.in_ok-denial.denial c.closed.result c.in_ok-denial.was c.closed.ensures
