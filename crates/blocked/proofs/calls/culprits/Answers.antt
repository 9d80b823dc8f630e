-- Refused, or what the search finds: the answer is the definition's. Assumes nothing.
use Rattle.std.proofs.Common.{rules}
use Rattle.blocked.proofs.FewLaws.{culprits_promises, culprits_refused}
use Rattle.blocked.proofs.CallLaws.{culprits_told_answer}
use Rattle.blocked.proofs.calls.culprits.Goals as goal

pub returns-in_err-book-clause-answer : goal.returns-in_err-book-clause-answer
returns-in_err-book-clause-answer c =
    let a = c.args in
    let told = culprits_refused a.book.now a.rule _ c.in_err-book.ensures.refused in
    search rules

pub returns-in_err-book-clause-caused : goal.returns-in_err-book-clause-caused
returns-in_err-book-clause-caused c = culprits_promises _ _ _ (returns-in_err-book-clause-answer c)

pub returns-clause-answer : goal.returns-clause-answer
returns-clause-answer c =
    let a = c.args in
    let book = c.in_ok-book in
    culprits_told_answer a.book.now a.rule book.ensures.passed c.causes.result (rw book.ensures.bytes at c.causes.ensures)

pub returns-clause-caused : goal.returns-clause-caused
returns-clause-caused c = culprits_promises _ _ _ (returns-clause-answer c)
