-- One pass collects the parents; the leaves are the other numbers below the count. Assumes nothing.
use Prim.Native.Nat.{◌-◌, ◌≤◌}
use Rattle.book.specs.Inner.Reading.{parent_in}
use Rattle.book.proofs.Hierarchies.{Named}
use Rattle.book.proofs.categories.leaves.Given as goal

abbrev pub invariant-loop-i : goal.invariant-loop-i
invariant-loop-i l = (l.n ≤ 255) × Named (parent_in l.which l.head) l.n l.i l.parents

abbrev pub decreases-loop-i : goal.decreases-loop-i
decreases-loop-i l = l.n - l.i
