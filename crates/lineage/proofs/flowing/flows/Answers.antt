-- The first list that refuses gives the answer, and nothing is written; where none does, the words are those of
-- `accesses`. Assumes nothing.
use Rattle.std.proofs.Common.{rules, ◌≡◌, ◌∙◌, sym, length}
use Rattle.std.specs.Prelude.{Ok, Err}
use borrow.Author.Tests.{eqb-true}
use Rattle.book.specs.Blocks.{head_of}
use Rattle.book.specs.Tests.{Passes, first_failing}
use Rattle.book.specs.Refusals.{book_tests}
use Rattle.lineage.specs.Answers.{words_tests, plan_tests}
use Rattle.book.proofs.Answers.{last_passed}
use Rattle.lineage.proofs.FlowLaws.{book_refused, plan_refused_there, words_refused, flows_done}
use Rattle.lineage.proofs.flowing.flows.Goals as goal

pub returns-in_err-book-clause-answer : goal.returns-in_err-book-clause-answer
returns-in_err-book-clause-answer c =
    let a = c.args in
    let out : c.from_residual.result ≡ Err c.in_err-book.field-0.0 = search rules in
    out ∙ (book_refused a.book.now a.plan.now a.words.now c.in_err-book.field-0.0 (c.in_err-book.ensures.refused)).0

pub returns-in_err-book-clause-words : goal.returns-in_err-book-clause-words
returns-in_err-book-clause-words c =
    let a = c.args in
    (book_refused a.book.now a.plan.now a.words.now c.in_err-book.field-0.0 (c.in_err-book.ensures.refused)).1

pub returns-in_err-test_plan-clause-answer : goal.returns-in_err-test_plan-clause-answer
returns-in_err-test_plan-clause-answer c =
    let a = c.args in
    let book = c.in_ok-book in
    let out : c.from_residual-in_err-test_plan.result ≡ Err c.in_err-test_plan.field-0.0 = search rules in
    out
    ∙ (plan_refused_there a.book.now a.plan.now a.words.now (rw book.ensures.bytes at book.book.accepted)
    c.in_err-test_plan.field-0.0
    (rw (c.head.ensures, book.ensures.bytes) at (sym c.test_plan.ensures ∙ c.in_err-test_plan.was))).0

pub returns-in_err-test_plan-clause-words : goal.returns-in_err-test_plan-clause-words
returns-in_err-test_plan-clause-words c =
    let a = c.args in
    let book = c.in_ok-book in
    (plan_refused_there a.book.now a.plan.now a.words.now (rw book.ensures.bytes at book.book.accepted)
    c.in_err-test_plan.field-0.0
    (rw (c.head.ensures, book.ensures.bytes) at (sym c.test_plan.ensures ∙ c.in_err-test_plan.was))).1

pub returns-in_err-ensure-clause-answer : goal.returns-in_err-ensure-clause-answer
unfolding words_tests
returns-in_err-ensure-clause-answer c =
    let a = c.args in
    let book = c.in_ok-book in
    let out : c.from_residual-in_err-ensure.result ≡ Err c.in_err-ensure.field-0.0 = search rules in
    out
    ∙ (words_refused a.book.now a.plan.now a.words.now (rw book.ensures.bytes at book.book.accepted)
    (rw (c.head.ensures, book.ensures.bytes) at (sym c.test_plan.ensures ∙ c.in_ok-test_plan.was))
    c.in_err-ensure.field-0.0 (sym c.ensure.ensures ∙ c.in_err-ensure.was)).0

pub returns-in_err-ensure-clause-words : goal.returns-in_err-ensure-clause-words
unfolding words_tests
returns-in_err-ensure-clause-words c =
    let a = c.args in
    let book = c.in_ok-book in
    (words_refused a.book.now a.plan.now a.words.now (rw book.ensures.bytes at book.book.accepted)
    (rw (c.head.ensures, book.ensures.bytes) at (sym c.test_plan.ensures ∙ c.in_ok-test_plan.was))
    c.in_err-ensure.field-0.0 (sym c.ensure.ensures ∙ c.in_err-ensure.was)).1

pub copy_from_slice-requires : goal.copy_from_slice-requires
copy_from_slice-requires c =
    let long = eqb-true (length c.args.words.now) 32 (last_passed _ _ (sym c.ensure.ensures ∙ c.in_ok-ensure.was)) in
    search rules

pub returns-clause-answer : goal.returns-clause-answer
unfolding words_tests
returns-clause-answer c =
    let a = c.args in
    let book = c.in_ok-book in
    (flows_done a.book.now a.plan.now a.words.now (rw book.ensures.bytes at book.book.accepted)
    (rw (c.head.ensures, book.ensures.bytes) at (sym c.test_plan.ensures ∙ c.in_ok-test_plan.was))
    (sym c.ensure.ensures ∙ c.in_ok-ensure.was)).0

pub returns-clause-words : goal.returns-clause-words
unfolding words_tests
returns-clause-words c =
    let a = c.args in
    let book = c.in_ok-book in
    let sound =
    rw (c.head.ensures, book.ensures.bytes) at (sym c.test_plan.ensures ∙ c.in_ok-test_plan.was) in
    let accepted = rw book.ensures.bytes at book.book.accepted in
    c.copy_from_slice.ensures.after
    ∙ (rw book.ensures.bytes at c.accesses.ensures) (rw book.ensures.bytes at book.book.told) (accepted, sound)
    ∙ (flows_done a.book.now a.plan.now a.words.now accepted sound
    (sym c.ensure.ensures ∙ c.in_ok-ensure.was)).1
