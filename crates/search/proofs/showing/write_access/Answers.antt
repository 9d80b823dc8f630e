-- Nothing for a place without an access, two rows for operation 0, otherwise three. Assumes nothing.
use Rattle.search.proofs.PlanWriting.{access_nowhere, access_full, access_plain, access_applied}
use Rattle.search.proofs.showing.write_access.Goals as goal
use Rattle.search.proofs.showing.write_access.Goals.{then-p-ge-NOWHERE-via-then-p-ge-NOWHERE, then-p-ge-NOWHERE-via-else-p-ge-NOWHERE+then-n-ge8}

pub returns-then-p-ge-NOWHERE : goal.returns-then-p-ge-NOWHERE
returns-then-p-ge-NOWHERE c =
    let a = c.args in
    elim c.then-p-ge-NOWHERE.branch [
      | then-p-ge-NOWHERE-via-then-p-ge-NOWHERE w ↦ access_nowhere a.head.now a.n a.p a.plan.now w.if-p-ge-NOWHERE.true
      | then-p-ge-NOWHERE-via-else-p-ge-NOWHERE+then-n-ge8 w ↦ access_full a.head.now a.n a.p a.plan.now w.if-p-ge-NOWHERE.false w.if-n-ge8.true
    ]

pub returns-then-p-eq0 : goal.returns-then-p-eq0
returns-then-p-eq0 c =
    let a = c.args in
    access_plain a.head.now a.n a.p a.plan.now c.write_row.new.plan c.write_last.new.plan c.column_for.result
    c.if-p-ge-NOWHERE.false c.if-p-eq0.true c.column_for.ensures c.write_row.ensures c.write_last.ensures

pub returns-else-p-eq0 : goal.returns-else-p-eq0
returns-else-p-eq0 c =
    let a = c.args in
    access_applied a.head.now a.n a.p a.plan.now c.write_row.new.plan c.write_row-else-p-eq0.new.plan
    c.write_last-else-p-eq0.new.plan c.column_for.result c.function_for.result c.if-p-ge-NOWHERE.false
    c.if-p-eq0.false c.column_for.ensures c.function_for.ensures c.write_row.ensures
    c.write_row-else-p-eq0.ensures c.write_last-else-p-eq0.ensures
