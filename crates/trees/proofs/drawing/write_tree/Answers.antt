-- Too many nodes, too long, or written. Assumes nothing.
use mathlib.Core.Path.{◌≡◌, ◌∙◌}
use Rattle.std.proofs.Common.{rules}
use Rattle.std.specs.Prelude.{Err}
use Rattle.book.specs.declared.refusal.Refusal.TheVariants.{TreeSize}
use Rattle.trees.specs.Trees.{node_count}
use Rattle.trees.proofs.Walked.{listed_many, listed_whole}
use Rattle.trees.proofs.TreeAnswers.{told_long, told_written, tree_many}
use Rattle.trees.proofs.drawing.write_tree.Goals as goal

pub overflow_cast-result-2 : goal.overflow_cast-result-2
overflow_cast-result-2 c =
    let few = c.text_length-length.ensures.few in
    search rules

pub returns-in_err-map_err : goal.returns-in_err-map_err
unfolding node_count
returns-in_err-map_err c low value =
    let out : c.from_residual.result ≡ Err TreeSize = search rules in
    let over : c.list_tree.result ≡ Err (record {}) = search rules in
    let many = listed_many _ _ _ _ _ (c.list_tree.ensures low value) c.new-nodes.ensures over in
    let e = tree_many c.args.plan.now c.args.row c.args.buffer.now many in
    (out ∙ e.0, e.1)

pub returns-then-buffer-length : goal.returns-then-buffer-length
returns-then-buffer-length c low value =
    let whole = listed_whole _ _ _ _ (c.list_tree.ensures low value) c.new-nodes.ensures (search rules) in
    let listed = c.as_slice.ensures in
    told_long c.args.plan.now c.args.row c.args.buffer.now _ _ whole
    (rw listed.value at (c.text_length-length.ensures.length listed.fits)) c.if-buffer-length.true

pub returns : goal.returns
returns c low value =
    let whole = listed_whole _ _ _ _ (c.list_tree.ensures low value) c.new-nodes.ensures (search rules) in
    let listed = c.as_slice.ensures in
    rw c.len.ensures.value
    (told_written c.args.plan.now c.args.row c.args.buffer.now _ _ whole
    (rw listed.value at (c.text_length-length.ensures.length listed.fits)) _
    (rw c.len.ensures.value at c.len.ensures.fits) c.if-buffer-length.false
    (rw c.as_slice-2.ensures.value at c.write_lines.ensures))
