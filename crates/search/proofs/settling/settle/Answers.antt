-- A rule of the set is asked and marked, or nothing is done. Assumes nothing.
use mathlib.Core.Path.{sym, ◌∙◌}
use mathlib.Core.Bool.{◌&&◌}
use lib.Dec.{eqb, ltb}
use borrow.Author.Tests.{ltb-true}
use Rattle.book.proofs.Lists.{and_left, and_right}
use Rattle.search.proofs.SettlingLaws.{marked_one}
use Rattle.search.proofs.settling.settle.Goals as goal

pub returns-then-turns-q : goal.returns-then-turns-q
returns-then-turns-q c =
    let a = c.args in
    let ask = a.ask.now in
    let q = a.takers.now.last in
    let test = c.contains in
    let rest = c.take_settled in
    let rule = and_right (eqb a.turns 16) (ltb q 32 && test.result) c.if-turns-q.true in
    marked_one ask.tables.now ask.rule ask.references a.rules a.a a.thirds.now a.seconds.now a.takers.now.rules q q
    c.single.result rest.new.seconds (ltb-true _ _ (and_left (ltb q 32) test.result rule))
    (rw c.from.ensures at (sym test.ensures ∙ and_right (ltb q 32) test.result rule))
    (rw c.from-then-turns-q.ensures at c.single.ensures) rest.ensures
