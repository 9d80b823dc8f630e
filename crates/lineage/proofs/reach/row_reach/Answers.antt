-- A law for each kind says what the row holds. Assumes nothing.
use Rattle.std.proofs.Common.{◌≤◌, arith, Fits, w8}
use borrow.Author.Rules.{rules}
use borrow.Author.Tests.{eq-eqb, ne_eqb}
use Rattle.lineage.specs.Rows.{row_c}
use Rattle.lineage.proofs.Steps.{below_words, brought_words, column_row_law, choose_row, no_row_used, one_row, two_rows}
use Rattle.lineage.proofs.reach.row_reach.Goals as goal

pub returns-in-Column : goal.returns-in-Column
returns-in-Column c supporting sound reached =
    let a = c.args in
    let read = rw c.in-Column.is at c.in-Some.ensures in
    column_row_law a.head.now a.plan.now a.i c.column_reach.result read.0 (rw read.1 c.column_reach.ensures)

pub returns-in-None : goal.returns-in-None
returns-in-None c supporting sound reached =
    let a = c.args in
    let read = rw (c.in-Apply.is, c.in-None.is) at c.in-Some.ensures in
    let f : Fits w8 a.i = search rules in
    let few : a.i ≤ 255 = omega (arith, f.fits) in
    one_row a.head.now a.plan.now a.i c.bring.new.row a.supporting.now c.operate.new.row read.0 sound supporting
    (below_words a.head.now a.plan.now a.i a.reach.now c.bring.new.row reached (rw read.2 c.bring.ensures) read.3 few)
    (eq-eqb (row_c a.plan.now a.i) 255 read.3)
    (rw (read.1, ← c.operation.ensures.0) c.operate.ensures)

pub returns-in-Some-second : goal.returns-in-Some-second
returns-in-Some-second c supporting sound reached =
    let a = c.args in
    let read = rw (c.in-Apply.is, c.in-Some-second.is) at c.in-Some.ensures in
    two_rows a.head.now a.plan.now a.i c.brought-row.result a.supporting.now c.mix.new.row read.0 sound supporting
    (brought_words a.head.now a.plan.now a.i a.reach.now c.brought-row.result reached (rw (read.2, read.3) c.brought-row.ensures))
    (rw read.3 (ne_eqb c.in-Some-second.second 255 read.4)) c.mix.ensures

pub returns-in-Choose : goal.returns-in-Choose
returns-in-Choose c supporting sound reached =
    let a = c.args in
    let read = rw c.in-Choose.is at c.in-Some.ensures in
    choose_row a.head.now a.plan.now a.i c.brought.result read.0
    (brought_words a.head.now a.plan.now a.i a.reach.now c.brought.result reached (rw (read.2, read.3) c.brought.ensures))

pub returns-in-Used : goal.returns-in-Used
returns-in-Used c supporting sound reached =
    let a = c.args in
    let w = c.in-Used in
    no_row_used a.head.now a.plan.now a.i w.channel (rw w.is at c.in-Some.ensures).0
