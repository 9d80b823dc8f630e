-- One restriction a turn; the law `accepting_more` is the step. Assumes nothing.
use Rattle.std.proofs.Common.{◌≤◌}
use Rattle.search.proofs.ClosingLaws.{Accepting}
use Rattle.search.proofs.closing.accepted_beside.Given as goal

abbrev pub invariant-loop-j : goal.invariant-loop-j
invariant-loop-j l = (l.j ≤ 8) × Accepting l.t l.q l.i l.k l.l l.b l.c l.j l.found
