-- An absent reference has one place; any other one word a turn (`Candidates`). Assumes nothing.
use Rattle.search.proofs.Candidates.{Candidates}
use Rattle.search.proofs.searching.candidates.Given as goal

abbrev pub invariant-loop-w : goal.invariant-loop-w
invariant-loop-w l = Candidates l.ask.tables.now l.had l.ask.rule l.reference l.found l.w
