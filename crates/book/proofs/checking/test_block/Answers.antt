-- The head and the block are what their readers say. Assumes nothing.
use Rattle.book.proofs.checking.test_block.Goals as goal

pub returns : goal.returns
returns c = rw (c.head_of.ensures, c.block_at.ensures) at c.test_contents.ensures
