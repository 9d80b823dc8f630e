-- The law `sums_start` where the bytes from 128 on are zero. Assumes nothing.
use mathlib.Core.Path.{sym, ◌∙◌}
use Rattle.book.proofs.Blocks.{sums_start, sums_all}
use Rattle.book.proofs.sealing.summed.Goals as goal

pub returns-then-zeros : goal.returns-then-zeros
returns-then-zeros c =
    sums_start c.args.block.now (sym c.zeros.ensures ∙ c.if-zeros.true)

pub returns : goal.returns
returns c = sums_all c.args.block.now
