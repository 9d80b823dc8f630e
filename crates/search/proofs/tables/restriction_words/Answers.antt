-- One restriction a turn (`Filled`). Assumes nothing.
use native.Mathlib.Omega.{arith}
use Rattle.lineage.proofs.Tables.{fill_none, fill_more}
use borrow.Author.Rules.{rules}
use Rattle.search.proofs.tables.restriction_words.Goals as goal

pub loop-j-init : goal.loop-j-init
loop-j-init c = fill_none (search rules)

pub loop-j-preserved : goal.loop-j-preserved
loop-j-preserved c = rw c.from.ensures (fill_more c.loop-j.invariant c.loop-j-test.true c.restriction_word.ensures)

pub returns : goal.returns
returns c j l = c.loop-j.invariant.at j (omega arith)
