-- The category falls at each call; the laws `support_lower` and `support_top` are the two cases. Assumes nothing.
use Rattle.book.proofs.categories.+support.Given as goal

abbrev pub decreases-support : goal.decreases-support
decreases-support l = l.d
