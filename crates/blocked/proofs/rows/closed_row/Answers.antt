-- One place of the first cell after the other, in turn from the hint (`LeftFrom`). Assumes nothing.
use native.Mathlib.Omega.{arith}
use Rattle.book.specs.Sets.{has}
use Rattle.blocked.proofs.RowLaws.{left_empty, left_end, left_more, left_start, prepared_places}
use borrow.Author.Rules.{rules}
use Rattle.blocked.proofs.rows.closed_row.Goals.{else-loop-j-test, then-loop-j-test+then-is_empty}
use Rattle.blocked.proofs.rows.closed_row.Goals as goal

pub loop-j-init : goal.loop-j-init
loop-j-init c =
    let a = c.args in
    let t = a.tables.now in (
      search rules,
      λ ll lm given.
          left_start t.rules a.rules t.scope.firsts t.scope.seconds a.thirds.now a.row.first a.row.second _,
    )

pub loop-j-preserved : goal.loop-j-preserved
loop-j-preserved c =
    let a = c.args in
    let t = a.tables.now in
    let loop = c.loop-j in (
      omega arith,
      λ ll lm given.
          let old = loop.invariant.1 ll lm given in
          left_more t.rules a.rules t.scope.firsts t.scope.seconds a.thirds.now a.row.first a.row.second _
          loop.j loop.places old c.tried-opens.new.places
          (c.tried-opens.ensures ll lm (omega arith)
          (prepared_places t.rules t.met (has a.rules) t.scope.seconds a.thirds.now
          loop.places old.left.fewer given)),
    )

pub returns : goal.returns
returns c ll lm given =
    let a = c.args in
    let t = a.tables.now in
    let loop = c.loop-j in
    let old = loop.invariant.1 ll lm given in
    elim c.loop-j-test.branch [
      | else-loop-j-test w ↦ left_end t.rules a.rules t.scope.firsts t.scope.seconds a.thirds.now a.row.first a.row.second _
          loop.j loop.places old w.loop-j-test.false
      | then-loop-j-test+then-is_empty w ↦ left_empty t.rules a.rules t.scope.firsts t.scope.seconds a.thirds.now a.row.first a.row.second _
          loop.j loop.places old (w.is_empty.ensures w.if-is_empty.true)
    ]
