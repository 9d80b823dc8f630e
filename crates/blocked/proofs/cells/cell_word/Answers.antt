-- A group of sixteen bits of a word: the law `cell_bits`. Assumes nothing.
use native.Mathlib.Omega.{arith}
use Rattle.blocked.proofs.CellLaws.{cell_bits}
use Rattle.blocked.proofs.cells.cell_word.Goals as goal

pub returns-then-c-ge-PAST_CELLS-clause-members : goal.returns-then-c-ge-PAST_CELLS-clause-members
returns-then-c-ge-PAST_CELLS-clause-members c l = absurd (omega arith)

pub returns-clause-members : goal.returns-clause-members
returns-clause-members c l = cell_bits c.args.set.now c.args.c
