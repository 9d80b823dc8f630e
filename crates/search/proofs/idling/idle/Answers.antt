-- The first list that refuses gives the answer, and nothing is written; where none does, what the search found is what
-- the definitions say. Assumes nothing.
use Rattle.std.proofs.Common.{rules, ◌≡◌, ◌∙◌, sym}
use Rattle.std.specs.Prelude.{Err}
use Rattle.search.specs.Answers.{buffer_tests}
use Rattle.search.proofs.IdleLaws.{RefusedBy, book_refused, buffer_refused, idle_found, idle_promises, rule_refused}
use Rattle.search.proofs.idling.idle.Goals as goal

pub returns-in_err-book-clause-answer : goal.returns-in_err-book-clause-answer
returns-in_err-book-clause-answer c =
    let a = c.args in
    let out : c.from_residual.result ≡ Err c.in_err-book.field-0.0 = search rules in
    out ∙ (book_refused a.book.now a.rule a.buffer.now c.in_err-book.field-0.0 c.in_err-book.ensures.refused).0

pub returns-in_err-book-clause-buffer : goal.returns-in_err-book-clause-buffer
returns-in_err-book-clause-buffer c =
    let a = c.args in
    (book_refused a.book.now a.rule a.buffer.now c.in_err-book.field-0.0 c.in_err-book.ensures.refused).1

pub returns-in_err-book-clause-demand : goal.returns-in_err-book-clause-demand
returns-in_err-book-clause-demand c =
    idle_promises c.args.book.now c.args.rule c.args.buffer.now _ _ (returns-in_err-book-clause-answer c)
    (returns-in_err-book-clause-buffer c)

by_rule :
    (c : goal.After-from_residual-in_err-test_rule)
    → RefusedBy c.args.book.now c.args.rule c.args.buffer.now c.in_err-test_rule.field-0.0
by_rule c =
    let book = c.in_ok-book in
    rule_refused c.args.book.now c.args.rule c.args.buffer.now c.in_err-test_rule.field-0.0
    (rw book.ensures.bytes at book.book.accepted)
    (rw book.ensures.bytes at (sym c.test_rule.ensures ∙ c.in_err-test_rule.was))

pub returns-in_err-test_rule-clause-answer : goal.returns-in_err-test_rule-clause-answer
returns-in_err-test_rule-clause-answer c =
    let out : c.from_residual-in_err-test_rule.result ≡ Err c.in_err-test_rule.field-0.0 = search rules in
    out ∙ (by_rule c).0

pub returns-in_err-test_rule-clause-buffer : goal.returns-in_err-test_rule-clause-buffer
returns-in_err-test_rule-clause-buffer c = (by_rule c).1

pub returns-in_err-test_rule-clause-demand : goal.returns-in_err-test_rule-clause-demand
returns-in_err-test_rule-clause-demand c =
    idle_promises c.args.book.now c.args.rule c.args.buffer.now _ _ (returns-in_err-test_rule-clause-answer c)
    (returns-in_err-test_rule-clause-buffer c)

by_buffer :
    (c : goal.After-from_residual-in_err-ensure)
    → RefusedBy c.args.book.now c.args.rule c.args.buffer.now c.in_err-ensure.field-0.0
unfolding buffer_tests
by_buffer c =
    let book = c.in_ok-book in
    buffer_refused c.args.book.now c.args.rule c.args.buffer.now c.in_err-ensure.field-0.0
    (rw book.ensures.bytes at book.book.accepted)
    (rw book.ensures.bytes at (sym c.test_rule.ensures ∙ c.in_ok-test_rule.was))
    (sym c.ensure.ensures ∙ c.in_err-ensure.was)

pub returns-in_err-ensure-clause-answer : goal.returns-in_err-ensure-clause-answer
returns-in_err-ensure-clause-answer c =
    let out : c.from_residual-in_err-ensure.result ≡ Err c.in_err-ensure.field-0.0 = search rules in
    out ∙ (by_buffer c).0

pub returns-in_err-ensure-clause-buffer : goal.returns-in_err-ensure-clause-buffer
returns-in_err-ensure-clause-buffer c = (by_buffer c).1

pub returns-in_err-ensure-clause-demand : goal.returns-in_err-ensure-clause-demand
returns-in_err-ensure-clause-demand c =
    idle_promises c.args.book.now c.args.rule c.args.buffer.now _ _ (returns-in_err-ensure-clause-answer c)
    (returns-in_err-ensure-clause-buffer c)

pub returns-clause-answer : goal.returns-clause-answer
unfolding buffer_tests
returns-clause-answer c =
    let a = c.args in
    let book = c.in_ok-book.book in
    rw c.in_ok-book.ensures.bytes at
    (idle_found book.bytes.now a.rule a.buffer.now _ _ _ c.needs-found.result book.accepted
    (sym c.test_rule.ensures ∙ c.in_ok-test_rule.was) (sym c.ensure.ensures ∙ c.in_ok-ensure.was) c.head.ensures
    c.needs-found.ensures c.shown.ensures.answer c.shown.ensures.buffer).0

pub returns-clause-buffer : goal.returns-clause-buffer
unfolding buffer_tests
returns-clause-buffer c =
    let a = c.args in
    let book = c.in_ok-book.book in
    rw c.in_ok-book.ensures.bytes at
    (idle_found book.bytes.now a.rule a.buffer.now _ _ _ c.needs-found.result book.accepted
    (sym c.test_rule.ensures ∙ c.in_ok-test_rule.was) (sym c.ensure.ensures ∙ c.in_ok-ensure.was) c.head.ensures
    c.needs-found.ensures c.shown.ensures.answer c.shown.ensures.buffer).1

pub returns-clause-demand : goal.returns-clause-demand
returns-clause-demand c =
    idle_promises c.args.book.now c.args.rule c.args.buffer.now _ _ (returns-clause-answer c) (returns-clause-buffer c)
