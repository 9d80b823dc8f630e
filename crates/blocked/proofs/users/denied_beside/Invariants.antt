-- One second cell a turn (`RowsUpTo`). Assumes nothing.
use Prim.Native.Nat.{◌+◌, ◌*◌, ◌≤◌, ◌<◌}
use Rattle.blocked.specs.Inner.Tables.{GivenBy, UpToBy}
use Rattle.blocked.proofs.users.denied_beside.Given as goal

abbrev pub invariant-loop-m : goal.invariant-loop-m
invariant-loop-m l =
    (l.m ≤ 132)
    × (GivenBy l.tables
    → l.l < 132
    → UpToBy l.tables l.own (132 * l.l) l.fn.before
    → UpToBy l.tables l.own (132 * l.l + l.m) l.found)
