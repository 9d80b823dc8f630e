-- A row that gives accesses adds its named row's words to one channel: the law `gathered_more`. Assumes nothing.
use borrow.Author.Rules.{rules}
use Rattle.lineage.proofs.Words.{gathered_more, gathered_same, row_added}
use Rattle.lineage.proofs.accesses.give.Goals as goal

pub returns-in-Some : goal.returns-in-Some
returns-in-Some c head n sound reached given before =
    let a = c.args in
    let row = c.by_operation in
    let s = c.index in
    let is = c.in-Some.ensures in
    gathered_more head a.plan.now a.i a.words.now before s.result n row.result a.reach.now _ sound reached given
    (rw s.ensures.value is.1) (rw is.0 row.ensures)
    (row_added a.words.now s.result row.result c.join.new.set (search rules) c.join.ensures)

pub returns-in_default : goal.returns-in_default
returns-in_default c head n sound reached given before =
    gathered_same head c.args.plan.now c.args.i c.args.words.now before c.in_default.ensures
