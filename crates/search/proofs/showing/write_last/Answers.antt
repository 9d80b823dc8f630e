-- A row of kind 4 or 5: the law `last_written`. Assumes nothing.
use borrow.Author.Tests.{eq-eqb, ne_eqb}
use Rattle.search.proofs.PlanWriting.{last_written}
use Rattle.search.proofs.showing.write_last.Goals.{then-channel-eq0, else-channel-eq0}
use Rattle.search.proofs.showing.write_last.Goals as goal

pub returns-after-channel-eq0 : goal.returns-after-channel-eq0
returns-after-channel-eq0 c =
    let a = c.args in
    last_written a.plan.now c.write_row.new.plan a.before c.if-channel-eq0.kind a.channel c.write_row.ensures
    (elim c.if-channel-eq0.branch [
      | then-channel-eq0 w ↦ rw (w.kind-is, eq-eqb a.channel 0 w.if-channel-eq0.true)
      | else-channel-eq0 w ↦ rw (w.kind-is, ne_eqb a.channel 0 w.if-channel-eq0.false)
    ])
