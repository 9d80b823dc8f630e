-- From 64 on nothing is under c (`subtree_past`). Assumes nothing.
use Rattle.book.proofs.HeadWords.{subtree_past}
use Rattle.book.proofs.words.Categories.under.Goals as goal

pub returns-then-c-ge64 : goal.returns-then-c-ge64
returns-then-c-ge64 c count parent held i = subtree_past count parent c.args.c i c.if-c-ge64.true
