-- One rule a turn, below 32. Assumes nothing.
use native.Mathlib.Omega.{arith}
use Rattle.book.specs.Blocks.{head_of}
use Rattle.search.proofs.RuleWords.{covers_none, covers_more, covers_whole}
use Rattle.search.proofs.tables.covered_by.Goals as goal

pub loop-r-init : goal.loop-r-init
loop-r-init c held = covers_none c.args.book.now

pub loop-r-preserved : goal.loop-r-preserved
loop-r-preserved c held =
    let book = c.args.book.now in
    let loop = c.loop-r in
    rw c.from.ensures
    (covers_more book loop.covered loop.r c.covered_users.result
    (omega (arith, c.min-r-end.ensures, c.loop-r-test.true))
    (rw c.rule_at.ensures at (c.covered_users.ensures (head_of book) held)) (loop.invariant held))

pub returns : goal.returns
returns c held =
    let a = c.args in
    let loop = c.loop-r in
    covers_whole a.book.now loop.covered loop.r a.n
    (omega (arith, c.min-r-end.ensures, loop.auto.r-end, c.loop-r-test.false))
    (λ k l h. omega (arith, c.min-r-end.ensures, c.loop-r-test.false)) (loop.invariant held)
