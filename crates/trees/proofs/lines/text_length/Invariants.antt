-- After k turns the sum is the length of the first k lines (`lines_length`). Assumes nothing.
use Prim.Native.Nat.{◌*◌, ◌≤◌}
use mathlib.Core.Path.{◌≡◌}
use lib.ListN.{length, take}
use Rattle.trees.specs.Text.{text_of}
use Rattle.trees.proofs.lines.text_length.Given as goal

abbrev pub invariant-loop-node : goal.invariant-loop-node
invariant-loop-node l =
    (l.sum ≤ 520 * l.node-index) × (l.sum ≡ length (text_of l.plan (take l.node-index l.first)))
