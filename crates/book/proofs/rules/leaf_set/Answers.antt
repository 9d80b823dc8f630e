-- The definition, opened: the leaves that the reference's category covers. Assumes nothing.
use Rattle.book.specs.Head.{is_data_leaf, data_count, data_parent}
use Rattle.book.specs.Rule.{in_leaf_set}
use Rattle.book.proofs.rules.leaf_set.Goals as goal

pub returns : goal.returns
unfolding in_leaf_set is_data_leaf
returns c head w =
    rw (c.data_category.ensures.0, c.exclusions.ensures)
    at (c.covered_leaves.ensures (data_count head) (data_parent head) w.categories)
