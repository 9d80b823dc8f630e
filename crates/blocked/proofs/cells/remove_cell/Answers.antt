-- A word less a group of sixteen bits: the law `less_group`. Assumes nothing.
use Prim.Native.Nat.{◌/◌}
use native.Mathlib.Omega.{arith}
use lib.ListN.{get_or}
use mir.Syntax.{w64}
use mir.Val.{Fits}
use Rattle.blocked.proofs.CellLaws.{less_group}
use borrow.Author.Rules.{rules}
use Rattle.blocked.proofs.cells.remove_cell.Goals as goal

pub returns-then-c-ge-PAST_CELLS : goal.returns-then-c-ge-PAST_CELLS
returns-then-c-ge-PAST_CELLS c l = absurd (omega arith)

pub returns : goal.returns
returns c l p h =
    let words = c.args.set.now in
    let n = c.args.c in
    let f : Fits w64 (get_or words (n / 4) 0) = search rules in
    less_group words n p (search rules) f.fits
