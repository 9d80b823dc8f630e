-- The number says what N7 asks (`tree_promised`). Assumes nothing.
use Rattle.capi.specs.Packing.{tree_packed, tree_value}
use Rattle.capi.proofs.PackedLaws.{packs}
use Rattle.capi.proofs.Headline.{tree_promised}
use Rattle.capi.proofs.pspec_tree.Goals as goal

pub returns-clause-says : goal.returns-clause-says
unfolding tree_packed
returns-clause-says c =
    let a = c.args in
    tree_promised a.book.now a.plan.now a.row a.buffer.now _ _ (packs tree_value c.tree.result _ c.pack.result c.pack.ensures c.tree.ensures.answer) c.tree.ensures.buffer
