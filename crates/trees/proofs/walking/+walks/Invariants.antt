-- The row number falls at each call (`row_falls`). After k rows the row's own node and theirs are listed. Assumes nothing.
use Prim.Native.Nat.{◌+◌, ◌≤◌}
use mathlib.Core.Path.{◌≡◌}
use mathlib.Core.List.{◌∷◌, ◌++◌}
use lib.ListN.{take}
use Rattle.book.specs.Lists.{flat}
use Rattle.trees.proofs.Nodes.{passed, top}
use Rattle.trees.proofs.walking.+walks.Given as goal

abbrev pub decreases-list_apply : goal.decreases-list_apply
decreases-list_apply l = l.row

abbrev pub decreases-list_choose : goal.decreases-list_choose
decreases-list_choose l = l.row

abbrev pub invariant-list_apply-loop-named : goal.invariant-list_apply-loop-named
invariant-list_apply-loop-named l =
    l.level + l.row ≤ 255
    → l.nodes.items
    ≡ l.fn.nodes.items ++ top l.plan l.level l.row ∷ flat (passed l.plan (l.level + 1) l.row) (take l.named-index l.named-items)

abbrev pub invariant-list_choose-loop-child : goal.invariant-list_choose-loop-child
invariant-list_choose-loop-child l =
    l.level + l.row ≤ 255
    → l.nodes.items
    ≡ l.fn.nodes.items ++ top l.plan l.level l.row ∷ flat (passed l.plan (l.level + 1) l.row) (take l.child-index l.child-items)
