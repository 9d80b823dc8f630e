-- The set is added to the words of the mask below k: the invariant `Added`. Assumes nothing.
use Rattle.std.proofs.Common.{◌≡◌}
use lib.ListN.{length}
use Rattle.book.proofs.Members.{Added}
use Rattle.book.proofs.words.add_set.Given as goal

abbrev pub invariant-loop-k : goal.invariant-loop-k
invariant-loop-k l = (length l.words ≡ 16) × Added l.initial.words l.set l.mask l.words l.k
