-- One user a turn: the row is open to those before it. Assumes nothing.
use Prim.Native.Nat.{ℕ, ◌≤◌, ◌<◌}
use Rattle.blocked.specs.Inner.Rows.{RowOpen, own_of}
use Rattle.blocked.specs.Inner.Tables.{AllOpenBy, RowBy}
use Rattle.blocked.proofs.users.denied_in.Given as goal

abbrev pub invariant-loop-u : goal.invariant-loop-u
invariant-loop-u l =
    (l.u ≤ 32)
    × (RowBy l.tables l.row
    → AllOpenBy l.tables l.row l.trials.opened
    × ((v : ℕ) → v < l.u → RowOpen l.tables.rules (own_of l.tables.all l.own v) l.tables.scope l.row.first l.row.second))
