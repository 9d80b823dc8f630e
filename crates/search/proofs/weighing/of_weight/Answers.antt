-- One pattern a turn (`weighed`). Assumes nothing.
use native.Mathlib.Omega.{arith}
use mathlib.Core.Path.{sym, ◌∙◌}
use mathlib.Core.Bool.{◌&&◌}
use lib.Dec.{eqb}
use Rattle.search.specs.Inner.Weight.{solves_among, pattern_at}
use Rattle.search.proofs.WeightLaws.{weighed, weighed_all, weighed_more, weighed_none, weighed_skip}
use Rattle.search.proofs.weighing.of_weight.Goals.{else-from-weight, then-from-weight}
use Rattle.search.proofs.weighing.of_weight.Goals as goal

pub loop-pattern-init : goal.loop-pattern-init
loop-pattern-init c =
    let a = c.args in
    weighed_none (solves_among a.ask.now.tables.now a.ask.now.rule a.ask.now.references a.rules a.sets.now) a.weight

pub loop-pattern-preserved : goal.loop-pattern-preserved
loop-pattern-preserved c =
    let a = c.args in
    let loop = c.loop-pattern in
    let test = solves_among a.ask.now.tables.now a.ask.now.rule a.ask.now.references a.rules a.sets.now in
    elim c.if-from-weight.branch [
      | then-from-weight w ↦ rw w.found-is
          (weighed_more test a.weight loop.pattern w.earlier-found.result (sym c.from.ensures ∙ w.if-from-weight.true)
          (w.earlier-found.ensures (weighed test a.weight loop.pattern)
          (λ b z v. test b z v && eqb (pattern_at b z v) loop.pattern) loop.invariant (w.of_pattern.ensures (omega arith))))
      | else-from-weight w ↦ rw w.found-is (weighed_skip test a.weight loop.pattern loop.found (λ e. w.if-from-weight.false (c.from.ensures ∙ e)) loop.invariant)
    ]

pub returns : goal.returns
returns c =
    let a = c.args in
    let loop = c.loop-pattern in
    weighed_all (solves_among a.ask.now.tables.now a.ask.now.rule a.ask.now.references a.rules a.sets.now) a.weight loop.pattern loop.found
    c.loop-pattern-test.false loop.invariant
