-- What refuses ends the call, and what passes leaves the rest to decide. Assumes nothing.
use Rattle.std.proofs.Common.{rules, ◌∙◌, sym}
use Rattle.book.specs.Refusals.{BookAccepted}
use Rattle.verdicts.proofs.JudgeLaws.{book_refused, user_refused, user_told, plan_decides}
use Rattle.verdicts.proofs.judging.test_judge.Goals as goal

pub returns-in_err-book-clause-refused : goal.returns-in_err-book-clause-refused
returns-in_err-book-clause-refused c =
    let a = c.args in
    let told = book_refused a.book.now a.user a.plan.now _ c.in_err-book.ensures.refused in
    search rules

pub returns-in_err-test_user-clause-refused : goal.returns-in_err-test_user-clause-refused
returns-in_err-test_user-clause-refused c =
    let a = c.args in
    let book = c.in_ok-book.book in
    let same = c.in_ok-book.ensures.bytes in
    let accepted : BookAccepted a.book.now = rw same at book.accepted in
    let user = user_told a.book.now a.user a.plan.now _ _ accepted (rw same at book.told) c.test_user.ensures in
    let told = user_refused a.book.now a.user a.plan.now _ accepted (sym user ∙ c.in_err-test_user.was) in
    search rules

pub returns-in_err-test_plan-clause-refused : goal.returns-in_err-test_plan-clause-refused
returns-in_err-test_plan-clause-refused c =
    let a = c.args in
    let book = c.in_ok-book.book in
    let same = c.in_ok-book.ensures.bytes in
    let accepted : BookAccepted a.book.now = rw same at book.accepted in
    let user = user_told a.book.now a.user a.plan.now _ _ accepted (rw same at book.told) c.test_user.ensures in
    let told =
    plan_decides a.book.now a.user a.plan.now accepted (sym user ∙ c.in_ok-test_user.was)
    ∙ sym (rw (c.head.ensures, same) at c.test_plan.ensures)
    ∙ c.in_err-test_plan.was in
    search rules

pub returns-clause-passed : goal.returns-clause-passed
returns-clause-passed c =
    let a = c.args in
    let book = c.in_ok-book.book in
    let same = c.in_ok-book.ensures.bytes in
    let accepted : BookAccepted a.book.now = rw same at book.accepted in
    let user = user_told a.book.now a.user a.plan.now _ _ accepted (rw same at book.told) c.test_user.ensures in
    plan_decides a.book.now a.user a.plan.now accepted (sym user ∙ c.in_ok-test_user.was)
    ∙ sym (rw (c.head.ensures, same) at c.test_plan.ensures)
    ∙ c.in_ok-test_plan.was
