-- The third places that are left, and the first of them. Assumes nothing.
use native.Mathlib.Omega.{arith}
use Rattle.search.specs.Inner.Closing.{remaining}
use Rattle.search.specs.Inner.Search.{Searched}
use Rattle.search.proofs.SearchSteps.{thirds_none, thirds_found}
use borrow.Author.Rules.{rules}
use Rattle.search.proofs.searching.beside_both.Goals as goal

pub returns-in_err-x : goal.returns-in_err-x
unfolding Searched
returns-in_err-x c begun =
    let a = c.args in
    let ask = a.ask.now in
    let taken = c.take_thirds in
    rw c.from_residual.ensures
    (thirds_none ask.tables.now ask.rule ask.references a.rules a.a a.y (remaining a.thirds.now a.takers.now)
    (remaining taken.new.places taken.new.takers) (search rules) taken.ensures 2112 (search rules)
    (rw c.in_err-x.was at (c.first_from.ensures.first (omega arith))) (omega arith))

pub returns : goal.returns
unfolding Searched
returns c begun =
    let a = c.args in
    let ask = a.ask.now in
    let taken = c.take_thirds in
    let x = c.in_ok-x.x in
    let first = rw c.in_ok-x.was at (c.first_from.ensures.first (omega arith)) in
    let there = rw c.in_ok-x.was at c.first_from.ensures.there in
    thirds_found ask.tables.now ask.rule ask.references a.rules a.a a.y (remaining a.thirds.now a.takers.now)
    (remaining taken.new.places taken.new.takers) (search rules) taken.ensures x begun first there
