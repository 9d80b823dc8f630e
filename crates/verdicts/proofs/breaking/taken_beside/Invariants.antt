-- One restriction a turn. Assumes nothing.
use lib.ListN.{take}
use Rattle.verdicts.specs.Inner.Words.{Beside}
use Rattle.verdicts.proofs.breaking.taken_beside.Given as goal

abbrev pub invariant-loop-row : goal.invariant-loop-row
invariant-loop-row l = Beside (take l.row-index l.masks) l.a l.b l.found
