-- One category of the list a turn: the law `under_more`. Assumes nothing.
use lib.ListN.{take}
use Rattle.book.specs.Inner.Words.{Within, under_some}
use Rattle.book.proofs.rules.under_some.Given as goal

abbrev pub invariant-loop-c : goal.invariant-loop-c
invariant-loop-c l = Within l.words (under_some (take l.c-index l.list)) l.found
