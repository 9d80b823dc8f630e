-- One weight a turn: none has fewer functions (`LightestOf`). Assumes nothing.
use native.Mathlib.Omega.{arith}
use Rattle.std.proofs.Common.{rules}
use Rattle.search.specs.Inner.Weight.{solves_among, LightestOf}
use Rattle.search.proofs.WeightLaws.{lightest_found, lightest_more, lightest_none}
use Rattle.search.proofs.weighing.lightest.Goals as goal

pub loop-weight-init : goal.loop-weight-init
loop-weight-init c =
    let a = c.args in
    lightest_none (solves_among a.ask.now.tables.now a.ask.now.rule a.ask.now.references a.rules a.sets.now)

pub returns-then-is_some : goal.returns-then-is_some
returns-then-is_some c =
    let a = c.args in
    let found = c.of_weight-found in
    lightest_found (solves_among a.ask.now.tables.now a.ask.now.rule a.ask.now.references a.rules a.sets.now) c.loop-weight.weight a.most found.result
    (search rules) found.ensures c.loop-weight.invariant

pub loop-weight-preserved : goal.loop-weight-preserved
loop-weight-preserved c =
    let a = c.args in
    let found = c.of_weight-found in
    lightest_more (solves_among a.ask.now.tables.now a.ask.now.rule a.ask.now.references a.rules a.sets.now) c.loop-weight.weight found.result (search rules)
    found.ensures c.loop-weight.invariant

pub returns : goal.returns
unfolding LightestOf
returns c b z w l = c.loop-weight.invariant b z w (omega (arith, l, c.loop-weight-test.false))
