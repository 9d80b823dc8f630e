use Rattle.std.proofs.Common.{◌≡◌}
use lib.ListN.{take}
use lib.Dec.{eqb}
use Rattle.book.specs.Lists.{all}
use Rattle.book.proofs.testing.zeros.Given as goal

-- the bytes read so far are zero exactly where nothing is seen
abbrev pub invariant-loop-byte : goal.invariant-loop-byte
invariant-loop-byte l = eqb l.seen 0 ≡ all (λ x. eqb x 0) (take l.byte-index l.byte-items)
