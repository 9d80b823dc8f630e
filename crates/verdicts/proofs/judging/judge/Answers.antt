-- The tests decide which of both answers it is (`judge_refused`, `judge_answer_law`); either keeps demand 2
-- (`judge_promises`). Assumes nothing.
use mathlib.Core.Path.{sym, ap, ◌∙◌}
use Rattle.std.proofs.Common.{rules}
use Rattle.verdicts.specs.Answers.{broken}
use Rattle.verdicts.proofs.JudgeLaws.{judge_accepted, judge_answer_law, judge_refused}
use Rattle.verdicts.proofs.DemandLaws.{judge_promises}
use Rattle.verdicts.proofs.Sound.{mask_held}
use Rattle.verdicts.proofs.judging.judge.Goals as goal

pub returns-in_err-book-clause-answer : goal.returns-in_err-book-clause-answer
returns-in_err-book-clause-answer c =
    let a = c.args in
    let told = judge_refused a.book.now a.user a.plan.now _ c.in_err-book.ensures.refused in
    search rules

pub returns-in_err-book-clause-judges : goal.returns-in_err-book-clause-judges
returns-in_err-book-clause-judges c = judge_promises _ _ _ _ (returns-in_err-book-clause-answer c)

pub returns-clause-answer : goal.returns-clause-answer
returns-clause-answer c =
    let a = c.args in
    let passed = c.in_ok-book.ensures.passed in
    let given = judge_accepted a.book.now a.user a.plan.now passed in
    let same = c.in_ok-book.ensures.bytes in
    let told = rw same at c.in_ok-book.book.told in
    let words = (rw same at c.accesses-given.ensures) told (given.book_accepted, given.plan_accepted) in
    let mask = (rw (words, same) at c.broken_by-mask.ensures) told given.book_accepted in
    ap broken (mask ∙ mask_held a.book.now given.book_accepted a.user a.plan.now)
    ∙ sym (judge_answer_law a.book.now a.user a.plan.now passed)

pub returns-clause-judges : goal.returns-clause-judges
returns-clause-judges c = judge_promises _ _ _ _ (returns-clause-answer c)
