-- A word below 65536 that is not 0 has one of its sixteen bits (`cell_group`). Assumes nothing.
use Rattle.blocked.proofs.CellLaws.{cell_group}
use Rattle.blocked.proofs.cells.has_cell.Goals as goal

pub returns : goal.returns
returns c l = cell_group c.args.set.now c.args.c c.cell_word.result c.cell_word.ensures.small (c.cell_word.ensures.members l)
