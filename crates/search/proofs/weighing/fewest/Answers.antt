-- Nobody, the choice that was found, or a lighter one. Assumes nothing.
use native.Mathlib.Omega.{arith}
use Rattle.std.proofs.Common.{◌≡◌}
use Rattle.search.specs.Inner.Weight.{weight_at, LightestOf}
use Rattle.search.proofs.WeightLaws.{fewest_found, fewest_kept, nobody_lighter}
use Rattle.search.proofs.weighing.fewest.Goals as goal

pub returns-in_err-user : goal.returns-in_err-user
returns-in_err-user c wanted =
    let a = c.args in
    rw c.from_residual.ensures (nobody_lighter a.ask.now.tables.now a.ask.now.rule a.ask.now.references a.had a.covered.now a.found c.in_err-user.was wanted)

pub returns-then-functions-eq0 : goal.returns-then-functions-eq0
unfolding LightestOf weight_at
returns-then-functions-eq0 c wanted =
    let a = c.args in
    let w = c.in_ok-user.field-0 in
    let p = w.places in
    let first = c.functions_at.ensures in
    let second = c.functions_at-2.ensures in
    let third = c.functions_at-3.ensures in
    let none : weight_at p.first p.second p.third ≡ 0 = omega (arith, first.0, second.0, third.0, c.if-functions-eq0.true) in
    rw c.in_ok-user.was
    (fewest_kept a.ask.now.tables.now a.ask.now.rule a.ask.now.references a.had a.covered.now a.found w c.in_ok-user.was wanted (λ b z v l. absurd (omega arith)))

pub returns : goal.returns
unfolding weight_at
returns c wanted =
    let a = c.args in
    let w = c.in_ok-user.field-0 in
    let rules = c.others-rules in
    let sets = c.candidate_sets-sets in
    let light = c.lightest-lighter in
    rw c.unwrap_or.ensures
    (fewest_found a.ask.now.tables.now a.ask.now.rule a.ask.now.references a.had a.covered.now a.found w c.in_ok-user.was wanted rules.result rules.ensures
    sets.result sets.ensures light.result
    (rw (c.functions_at.ensures.0, c.functions_at-2.ensures.0, c.functions_at-3.ensures.0) at light.ensures))
