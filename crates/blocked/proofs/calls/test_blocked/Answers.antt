-- What refuses ends the call, and what passes leaves the rest to decide. Assumes nothing.
use Rattle.std.proofs.Common.{rules, ◌∙◌, sym}
use Rattle.book.specs.Tests.{Passes}
use Rattle.book.specs.Refusals.{BookAccepted}
use Rattle.search.specs.Answers.{rule_tests}
use Rattle.blocked.proofs.CallLaws.{book_refused, forbids_decide, rule_refused}
use Rattle.blocked.proofs.calls.test_blocked.Goals as goal

pub returns-in_err-book-clause-refused : goal.returns-in_err-book-clause-refused
returns-in_err-book-clause-refused c =
    let a = c.args in
    let told = book_refused a.book.now a.rule _ c.in_err-book.ensures.refused in
    search rules

pub returns-in_err-test_rule-clause-refused : goal.returns-in_err-test_rule-clause-refused
returns-in_err-test_rule-clause-refused c =
    let a = c.args in
    let same = c.in_ok-book.ensures.bytes in
    let accepted : BookAccepted a.book.now = rw same at c.in_ok-book.book.accepted in
    let there = rw same at c.test_rule.ensures in
    let told = rule_refused a.book.now a.rule _ accepted (sym there ∙ c.in_err-test_rule.was) in
    search rules

pub returns-in_err-test_forbids-clause-refused : goal.returns-in_err-test_forbids-clause-refused
returns-in_err-test_forbids-clause-refused c =
    let a = c.args in
    let same = c.in_ok-book.ensures.bytes in
    let accepted : BookAccepted a.book.now = rw same at c.in_ok-book.book.accepted in
    let there : Passes (rule_tests a.book.now a.rule) = search rules in
    let told =
    forbids_decide a.book.now a.rule accepted there
    ∙ sym (rw (c.rule.ensures, same) at c.test_forbids.ensures)
    ∙ c.in_err-test_forbids.was in
    search rules

pub returns-clause-passed : goal.returns-clause-passed
returns-clause-passed c =
    let a = c.args in
    let same = c.in_ok-book.ensures.bytes in
    let accepted : BookAccepted a.book.now = rw same at c.in_ok-book.book.accepted in
    let there : Passes (rule_tests a.book.now a.rule) = search rules in
    forbids_decide a.book.now a.rule accepted there
    ∙ sym (rw (c.rule.ensures, same) at c.test_forbids.ensures)
    ∙ c.in_ok-test_forbids.was
