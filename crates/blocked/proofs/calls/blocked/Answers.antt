-- Refused, or what the search finds: the answer is the definition's. Assumes nothing.
use Rattle.std.proofs.Common.{rules}
use Rattle.blocked.proofs.DemandLaws.{blocked_promises, blocked_refused}
use Rattle.blocked.proofs.CallLaws.{blocked_told_answer}
use Rattle.blocked.proofs.calls.blocked.Goals as goal

pub returns-in_err-book-clause-answer : goal.returns-in_err-book-clause-answer
returns-in_err-book-clause-answer c =
    let a = c.args in
    let told = blocked_refused a.book.now a.rule _ c.in_err-book.ensures.refused in
    search rules

pub returns-in_err-book-clause-blocked : goal.returns-in_err-book-clause-blocked
returns-in_err-book-clause-blocked c = blocked_promises _ _ _ (returns-in_err-book-clause-answer c)

pub returns-clause-answer : goal.returns-clause-answer
returns-clause-answer c =
    let a = c.args in
    let book = c.in_ok-book in
    blocked_told_answer a.book.now a.rule book.ensures.passed c.blocking.result (rw book.ensures.bytes at c.blocking.ensures)

pub returns-clause-blocked : goal.returns-clause-blocked
returns-clause-blocked c = blocked_promises _ _ _ (returns-clause-answer c)
