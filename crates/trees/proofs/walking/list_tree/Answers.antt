-- The two walks of the top row list the whole tree. Assumes nothing.
use native.Mathlib.Omega.{arith}
use mathlib.Core.Path.{◌≡◌}
use Rattle.std.proofs.Common.{rules}
use Rattle.std.specs.Prelude.{Err}
use Rattle.trees.proofs.Walked.{tree_listed, tree_over}
use Rattle.trees.proofs.walking.list_tree.Goals as goal

pub returns-in_err-list_apply : goal.returns-in_err-list_apply
returns-in_err-list_apply c low value =
    let out : c.from_residual.result ≡ Err c.in_err-list_apply.field-0.0 = search rules in
    tree_over _ _ _ _ _ _ value out (c.in_err-list_apply.ensures (omega arith))

pub returns : goal.returns
returns c low value =
    tree_listed _ _ _ _ _ _ value (c.in_ok-list_apply.ensures (omega arith)) (c.list_choose.ensures (omega arith))
