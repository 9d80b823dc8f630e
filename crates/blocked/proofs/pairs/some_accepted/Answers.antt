-- The orders have their turns one after the other (`Asking`); a word that is not 0 has a member. Assumes nothing.
use native.Mathlib.Omega.{arith}
use lib.ListN.{get_or}
use mathlib.Core.Path.{ap, ◌∙◌}
use Rattle.blocked.proofs.NarrowLaws.{asking_end, asking_more, asking_start, begun, begun_fits}
use Rattle.blocked.proofs.OrderLaws.{order_third}
use borrow.Author.Rules.{rules}
use Rattle.blocked.proofs.pairs.some_accepted.Goals as goal

pub loop-v-init : goal.loop-v-init
loop-v-init c =
    let a = c.args in
    asking_start a.s.now a.met.now a.masks.now (begun a.pairs.now c.four-thirds.result)
    (begun_fits a.pairs.now c.four-thirds.result (search rules))

pub loop-v-preserved : goal.loop-v-preserved
loop-v-preserved c =
    let a = c.args in
    let loop = c.loop-v in
    let thirds = c.four-thirds.result in
    asking_more a.s.now a.met.now a.masks.now (begun a.pairs.now thirds) loop.rest
    c.narrow.new.pairs _ loop.v (search rules)
    (ap (λ (i : _). get_or a.met.now i 0) (c.from.ensures ∙ order_third loop.v c.loop-v-test.true))
    (λ w k. omega (arith, c.narrow.ensures.fewer w k, loop.invariant.words w k))
    c.narrow.ensures.left loop.invariant

pub returns : goal.returns
returns c =
    let a = c.args in
    let loop = c.loop-v in
    let four = c.four-thirds in
    asking_end a.s.now a.met.now a.masks.now a.pairs.now loop.rest a.third four.result loop.v
    four.ensures (search rules) loop.invariant
