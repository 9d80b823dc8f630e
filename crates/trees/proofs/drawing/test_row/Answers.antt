-- The first list that refuses decides (`list_stopped`, `list_went_on`). Assumes nothing.
use mathlib.Core.Path.{◌≡◌, sym, ◌∙◌}
use mathlib.Core.List.{◌++◌}
use Rattle.std.proofs.Common.{rules}
use Rattle.std.specs.Prelude.{Err}
use Rattle.book.specs.Blocks.{head_of}
use Rattle.book.specs.Refusals.{book_tests}
use Rattle.book.proofs.Answers.{append_refused, list_stopped, list_went_on}
use Rattle.lineage.specs.Answers.{plan_tests}
use Rattle.trees.specs.Answers.{tree_row_tests, value_tests}
use Rattle.trees.proofs.drawing.test_row.Goals as goal

pub returns-in_err-book : goal.returns-in_err-book
unfolding tree_row_tests
returns-in_err-book c =
    let book = book_tests c.args.book.now in
    let plan = plan_tests (head_of c.args.book.now) c.args.plan.now in
    let x = c.in_err-book.field-0.0 in
    let out : c.from_residual.result ≡ Err x = search rules in
    list_stopped (book ++ plan) (value_tests c.args.plan.now c.args.row) x _ out
    (append_refused book plan x c.in_err-book.ensures.refused)

pub returns-in_err-test_plan : goal.returns-in_err-test_plan
unfolding tree_row_tests
returns-in_err-test_plan c =
    let book = book_tests c.args.book.now in
    let plan = plan_tests (head_of c.args.book.now) c.args.plan.now in
    let bytes = c.in_ok-book.ensures.bytes in
    let x = c.in_err-test_plan.field-0.0 in
    let out : c.from_residual-in_err-test_plan.result ≡ Err x = search rules in
    let told = rw (c.head.ensures, bytes) at (sym c.in_err-test_plan.was ∙ c.test_plan.ensures) in
    list_stopped (book ++ plan) (value_tests c.args.plan.now c.args.row) x _ out
    (sym (list_went_on book plan (Err x) (rw bytes at c.in_ok-book.book.accepted) told))
