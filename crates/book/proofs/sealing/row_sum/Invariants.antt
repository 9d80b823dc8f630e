-- Each turn is one byte more of one column (`Summed`); the law `columns_all` joins the columns. Assumes nothing.
use Prim.Native.Nat.{◌*◌, ◌-◌, ◌≤◌, ◌<◌}
use mathlib.Core.Path.{◌≡◌}
use lib.ListN.{length}
use Rattle.book.proofs.Columns.{columns}
use Rattle.book.proofs.Columns.{Summed, SummedRows}
use Rattle.book.proofs.sealing.row_sum.Given as goal

abbrev pub invariant-loop-j : goal.invariant-loop-j
invariant-loop-j l =
    (l.j ≤ 16)
    × (l.r < l.rows)
    × (l.rows ≤ 32)
    × (16 * l.rows ≤ length l.body)
    × (length l.bytes ≡ 16)
    × (length l.sums ≡ 16)
    × Summed l.body l.bytes l.sums l.r l.j

abbrev pub decreases-loop-j : goal.decreases-loop-j
decreases-loop-j l = 16 - l.j

abbrev pub invariant-loop-r : goal.invariant-loop-r
invariant-loop-r l =
    (l.r ≤ l.rows)
    × (l.rows ≤ 32)
    × (16 * l.rows ≤ length l.body)
    × (length l.bytes ≡ 16)
    × (length l.sums ≡ 16)
    × SummedRows l.body l.bytes l.sums l.r

abbrev pub decreases-loop-r : goal.decreases-loop-r
decreases-loop-r l = l.rows - l.r

abbrev pub invariant-loop-j-2 : goal.invariant-loop-j-2
invariant-loop-j-2 l =
    (l.j ≤ 16)
    × (l.rows ≤ 32)
    × (16 * l.rows ≤ length l.body)
    × SummedRows l.body l.bytes l.sums l.rows
    × (l.sum ≡ columns l.body l.rows l.j)
    × (l.sum ≤ 4308480 * l.j)

abbrev pub decreases-loop-j-2 : goal.decreases-loop-j-2
decreases-loop-j-2 l = 16 - l.j
