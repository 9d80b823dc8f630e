-- The first list of tests that refuses gives the refusal, or what the places hold of the number does.
use Rattle.std.proofs.Common.{[], rules, ◌∙◌, sym}
use Rattle.book.specs.Refusals.{BookAccepted}
use Rattle.verdicts.proofs.JudgeLaws.{user_told}
use Rattle.ledger.proofs.CallLaws.{settle_no_book, settle_no_user, settle_no_ledger, settle_found}
use Rattle.ledger.proofs.settling.settle.Goals as goal

pub returns-in_err-book-clause-place : goal.returns-in_err-book-clause-place
returns-in_err-book-clause-place c =
    let a = c.args in
    settle_no_book a.book.now a.user a.number a.ledger.now a.holds.now c.in_err-book.field-0.0 _ (search rules)
    c.in_err-book.ensures.refused

pub returns-in_err-test_user-clause-place : goal.returns-in_err-test_user-clause-place
returns-in_err-test_user-clause-place c =
    let a = c.args in
    let same = c.in_ok-book.ensures.bytes in
    let accepted : BookAccepted a.book.now = rw same at c.in_ok-book.book.accepted in
    let told = user_told a.book.now a.user [] _ _ accepted (rw same at c.in_ok-book.book.told) c.test_user.ensures in
    settle_no_user a.book.now a.user a.number a.ledger.now a.holds.now c.in_err-test_user.field-0.0 _ (search rules)
    accepted (sym told ∙ c.in_err-test_user.was)

pub returns-in_err-test_ledger-clause-place : goal.returns-in_err-test_ledger-clause-place
returns-in_err-test_ledger-clause-place c =
    let a = c.args in
    let same = c.in_ok-book.ensures.bytes in
    let accepted : BookAccepted a.book.now = rw same at c.in_ok-book.book.accepted in
    let told = user_told a.book.now a.user [] _ _ accepted (rw same at c.in_ok-book.book.told) c.test_user.ensures in
    settle_no_ledger a.book.now a.user a.number a.ledger.now a.holds.now c.in_err-test_ledger.field-0.0 _ (search rules)
    accepted (sym told ∙ c.in_ok-test_user.was)
    (sym c.test_ledger.ensures ∙ c.in_err-test_ledger.was)

pub returns-clause-place : goal.returns-clause-place
returns-clause-place c =
    let a = c.args in
    let same = c.in_ok-book.ensures.bytes in
    let accepted : BookAccepted a.book.now = rw same at c.in_ok-book.book.accepted in
    let told = user_told a.book.now a.user [] _ _ accepted (rw same at c.in_ok-book.book.told) c.test_user.ensures in
    c.ok_or.ensures.value
    ∙ settle_found a.book.now a.user a.number a.ledger.now a.holds.now c.place_of.result
    accepted (sym told ∙ c.in_ok-test_user.was)
    (sym c.test_ledger.ensures ∙ c.in_ok-test_ledger.was) c.place_of.ensures.found c.place_of.ensures.place
