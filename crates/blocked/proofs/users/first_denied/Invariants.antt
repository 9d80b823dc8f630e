-- One first cell a turn (`RowsUpTo`). Assumes nothing.
use Prim.Native.Nat.{◌*◌, ◌≤◌}
use Rattle.blocked.specs.Inner.Tables.{GivenBy, UpToBy}
use Rattle.blocked.proofs.users.first_denied.Given as goal

abbrev pub invariant-loop-l : goal.invariant-loop-l
invariant-loop-l l = (l.l ≤ 132) × (GivenBy l.tables → UpToBy l.tables l.own (132 * l.l) l.found)
