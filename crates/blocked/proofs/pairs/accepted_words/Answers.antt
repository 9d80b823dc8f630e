-- One restriction a turn: `pairs_skip` if it does not take the first place, `pairs_more` if it does. Assumes nothing.
use native.Mathlib.Omega.{arith}
use Rattle.blocked.proofs.SliceLaws.{pairs_none, pairs_skip, pairs_more, pairs_end}
use borrow.Author.Rules.{rules}
use Rattle.blocked.proofs.pairs.accepted_words.Goals as goal

pub loop-j-init : goal.loop-j-init
loop-j-init c =
    let a = c.args in
    (search rules, search rules, pairs_none a.t.now a.q a.order.third a.order.first a.order.second a.a)

pub loop-j-preserved-then-not-contains : goal.loop-j-preserved-then-not-contains
loop-j-preserved-then-not-contains c =
    let a = c.args in
    let loop = c.loop-j in
    let first = c.taken_word in
    let x = c.contains in (
      search rules,
      loop.invariant.1,
      pairs_skip a.t.now a.q a.order.third a.order.first a.order.second a.a loop.j first.result x.result loop.found
          loop.invariant.2 first.ensures x.ensures c.if-not-contains.true-raw,
    )

pub loop-j-preserved : goal.loop-j-preserved
loop-j-preserved c =
    let a = c.args in
    let loop = c.loop-j in
    let first = c.taken_word in
    let x = c.contains in
    let test = c.if-not-contains in
    let second = c.taken_word-seconds in
    let third = c.taken_word-thirds in
    let r₀ = c.spread in
    let r₁ = c.spread-in-loop-j in
    let r₂ = c.spread-in-loop-j-2 in (
      search rules,
      search rules,
      pairs_more a.t.now a.q a.order.third a.order.first a.order.second a.a loop.j first.result second.result
          third.result r₀.result r₁.result r₂.result c.spread-in-loop-j-3.result x.result loop.found
          loop.invariant.2 first.ensures x.ensures test.false-raw second.ensures third.ensures
          r₀.ensures r₁.ensures r₂.ensures c.spread-in-loop-j-3.ensures,
    )

pub returns : goal.returns
returns c =
    let a = c.args in
    let loop = c.loop-j in
    pairs_end a.t.now a.q a.order.third a.order.first a.order.second a.a loop.j loop.found (omega arith) loop.invariant.2
