-- One word a turn (`Leaving`); the law `takes_all` reads the words as places. Assumes nothing.
use native.Mathlib.Omega.{arith}
use borrow.Author.Count.{below_none}
use borrow.Author.Tests.{eqb-true}
use Rattle.search.proofs.SettlingLaws.{leaving_more, takes_all}
use borrow.Author.Rules.{rules}
use Rattle.search.proofs.settling.takes_all.Goals as goal

pub loop-w-init : goal.loop-w-init
loop-w-init c = (search rules, below_none _)

pub loop-w-preserved : goal.loop-w-preserved
loop-w-preserved c =
    let a = c.args in
    let loop = c.loop-w in (
      search rules,
      rw (c.met_words-met.ensures loop.w) (leaving_more a.t.now a.q a.i a.thirds.now a.own a.other loop.w loop.rest loop.invariant.1),
    )

pub returns : goal.returns
returns c e =
    let a = c.args in
    let loop = c.loop-w in
    takes_all a.t.now a.q a.i a.thirds.now a.own a.other loop.w loop.rest (search rules)
    (search rules) (omega arith) (eqb-true _ _ e) loop.invariant.1
