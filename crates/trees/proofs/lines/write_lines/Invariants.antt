-- After k turns the first k lines are written (`lines_written`). Assumes nothing.
use Prim.Native.Nat.{◌≤◌}
use mathlib.Core.Path.{◌≡◌}
use lib.ListN.{length, take}
use Rattle.trees.specs.Text.{text_of}
use Rattle.trees.specs.Answers.{written}
use Rattle.trees.proofs.lines.write_lines.Given as goal

abbrev pub invariant-loop-node : goal.invariant-loop-node
invariant-loop-node l =
    (l.at ≤ length l.buffer)
    × (length (text_of l.plan l.nodes) ≤ length l.fn.buffer
    → (l.buffer ≡ written (text_of l.plan (take l.node-index l.nodes)) l.fn.buffer)
    × (l.at ≡ length (text_of l.plan (take l.node-index l.nodes))))
