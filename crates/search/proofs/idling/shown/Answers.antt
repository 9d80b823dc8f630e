-- Nothing is written for an idle rule; otherwise the rows of the plan, and no more. Assumes nothing.
use native.Mathlib.Omega.{arith}
use Rattle.std.proofs.Common.{rules, ◌≡◌}
use Rattle.std.specs.Prelude.{Some}
use Rattle.search.proofs.IdleLaws.{nobody_shown, shown_answer, shown_buffer}
use Rattle.search.proofs.idling.shown.Goals as goal

pub returns-in_err-user-clause-answer : goal.returns-in_err-user-clause-answer
returns-in_err-user-clause-answer c = rw c.from_residual.ensures (nobody_shown c.args.head.now c.args.buffer.now c.args.found c.in_err-user.was).0

pub returns-in_err-user-clause-buffer : goal.returns-in_err-user-clause-buffer
returns-in_err-user-clause-buffer c long = (nobody_shown c.args.head.now c.args.buffer.now c.args.found c.in_err-user.was).1

pub returns-clause-answer : goal.returns-clause-answer
returns-clause-answer c =
    let a = c.args in
    let rows = c.row_count-rows in
    let found : a.found ≡ Some c.in_ok-user.field-0 = search rules in
    rw (found, c.from.ensures)
    (shown_answer a.head.now c.shown_plan.result a.buffer.now c.in_ok-user.field-0 rows.result rows.ensures.0
    rows.ensures.1 (search rules) c.shown_plan.ensures)

pub returns-clause-buffer : goal.returns-clause-buffer
returns-clause-buffer c long =
    let a = c.args in
    let rows = c.row_count-rows in
    let found : a.found ≡ Some c.in_ok-user.field-0 = search rules in
    rw found
    (shown_buffer a.head.now c.shown_plan.result a.buffer.now c.in_ok-user.field-0 rows.result rows.ensures.0
    rows.ensures.1 (search rules) c.shown_plan.ensures _ (c.write_plan.ensures long (omega (arith, rows.ensures.1))))
