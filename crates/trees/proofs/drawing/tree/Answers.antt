-- Refused: nothing is written. Accepted: the row is low enough for its type, and `write_tree` does the rest. Assumes
-- nothing.
use native.Mathlib.Omega.{arith}
use mathlib.Core.Path.{◌≡◌, sym, ◌∙◌}
use Rattle.std.proofs.Common.{rules}
use Rattle.std.specs.Prelude.{Err}
use Rattle.trees.proofs.TreeAnswers.{row_accepted, row_low, tree_answered, tree_refused}
use Rattle.trees.proofs.DemandLaws.{tree_draws}
use Rattle.trees.proofs.drawing.tree.Goals as goal

pub overflow_cast-row : goal.overflow_cast-row
overflow_cast-row c =
    let low = row_low c.args.book.now c.args.plan.now c.args.row (sym c.test_row.ensures ∙ c.in_ok-test_row.was) in
    omega arith

pub returns-in_err-test_row-clause-answer : goal.returns-in_err-test_row-clause-answer
returns-in_err-test_row-clause-answer c =
    let a = c.args in
    let x = c.in_err-test_row.field-0.0 in
    let out : c.from_residual.result ≡ Err x = search rules in
    out ∙ (tree_refused a.book.now a.plan.now a.row a.buffer.now x (sym c.test_row.ensures ∙ c.in_err-test_row.was)).0

pub returns-in_err-test_row-clause-buffer : goal.returns-in_err-test_row-clause-buffer
returns-in_err-test_row-clause-buffer c =
    let a = c.args in
    let x = c.in_err-test_row.field-0.0 in
    (tree_refused a.book.now a.plan.now a.row a.buffer.now x (sym c.test_row.ensures ∙ c.in_err-test_row.was)).1

pub returns-clause-answer : goal.returns-clause-answer
returns-clause-answer c =
    let a = c.args in
    let passed = sym c.test_row.ensures ∙ c.in_ok-test_row.was in
    let accepted = row_accepted a.book.now a.plan.now a.row passed in
    (tree_answered a.book.now a.plan.now a.row a.buffer.now passed _ _
    (c.write_tree.ensures (row_low a.book.now a.plan.now a.row passed) accepted.2)).0

pub returns-clause-buffer : goal.returns-clause-buffer
returns-clause-buffer c =
    let a = c.args in
    let passed = sym c.test_row.ensures ∙ c.in_ok-test_row.was in
    let accepted = row_accepted a.book.now a.plan.now a.row passed in
    (tree_answered a.book.now a.plan.now a.row a.buffer.now passed _ _
    (c.write_tree.ensures (row_low a.book.now a.plan.now a.row passed) accepted.2)).1

pub returns-clause-draws : goal.returns-clause-draws
returns-clause-draws c =
    let a = c.args in
    let passed = sym c.test_row.ensures ∙ c.in_ok-test_row.was in
    let accepted = row_accepted a.book.now a.plan.now a.row passed in
    let e =
    tree_answered a.book.now a.plan.now a.row a.buffer.now passed _ _
    (c.write_tree.ensures (row_low a.book.now a.plan.now a.row passed) accepted.2) in
    tree_draws a.book.now a.plan.now a.row a.buffer.now _ _ e.0 e.1
