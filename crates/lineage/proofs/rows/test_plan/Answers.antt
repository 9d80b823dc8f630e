-- The length comes first, then the rows. A length that holds is at most 256, so the number of rows fits a byte. Assumes nothing.
use Rattle.std.proofs.Common.{rules, arith, ◌≡◌, ◌∙◌, sym, length}
use Rattle.book.proofs.Answers.{stopped, went_on, last_passed}
use Rattle.lineage.specs.Answers.{plan_tests}
use Rattle.lineage.proofs.PlanLaws.{plan_length_law, plan_rows}
use Rattle.lineage.proofs.rows.test_plan.Goals as goal

pub returns-in_err-ensure : goal.returns-in_err-ensure
unfolding plan_tests
returns-in_err-ensure c =
    rw (← c.plan_length_holds.ensures)
    (stopped _ _ _ c.in_err-ensure.field-0.0 _ (search rules) (sym c.ensure.ensures ∙ c.in_err-ensure.was))

pub overflow_cast-plan : goal.overflow_cast-plan
overflow_cast-plan c =
    let bounds =
    plan_length_law (length c.args.plan.now)
    (sym c.plan_length_holds.ensures ∙ last_passed _ _ (sym c.ensure.ensures ∙ c.in_ok-ensure.was)) in
    omega arith

pub returns : goal.returns
returns c =
    c.test_rows.ensures
    ∙ sym
    (plan_rows c.args.head.now c.args.plan.now
    (sym c.plan_length_holds.ensures ∙ last_passed _ _ (sym c.ensure.ensures ∙ c.in_ok-ensure.was)))
