-- The group of sixteen bits of a word: the law `only_group`. Assumes nothing.
use native.Mathlib.Omega.{arith}
use lib.ListN.{replicate}
use Rattle.blocked.proofs.CellLaws.{only_group}
use Rattle.lineage.proofs.Steps.{get_d_zeros}
use borrow.Author.Rules.{rules}
use Rattle.blocked.proofs.cells.only_cell.Goals as goal

pub returns-then-c-ge-PAST_CELLS : goal.returns-then-c-ge-PAST_CELLS
returns-then-c-ge-PAST_CELLS c l = absurd (omega arith)

pub returns : goal.returns
returns c l p h =
    let a = c.args in
    only_group a.set.now (replicate 33 0) a.c p (search rules) (λ i. get_d_zeros 33 i)
