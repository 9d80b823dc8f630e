-- Each turn takes one rule off those that wait (`Slicing`), which makes that word smaller. Assumes nothing.
use Rattle.search.proofs.Sieves.{without_smaller}
use Rattle.blocked.proofs.SliceLaws.{slicing_end, slicing_more, slicing_start}
use borrow.Author.Rules.{rules}
use Rattle.blocked.proofs.pairs.fill_order.Goals as goal

pub loop-waiting-init : goal.loop-waiting-init
loop-waiting-init c =
    let a = c.args in
    slicing_start a.t.now a.mask a.order.third a.order.first a.order.second a.a a.slices.now c.told-slices

pub loop-waiting-smaller : goal.loop-waiting-smaller
loop-waiting-smaller c =
    let loop = c.loop-waiting in
    let low = c.lowest-q in
    let found = low.ensures.member c.loop-waiting-test.true in
    let one = c.single in
    without_smaller loop.waiting one.result low.result loop.invariant.fits (search rules) found.0
    one.ensures found.1

pub loop-waiting-preserved : goal.loop-waiting-preserved
loop-waiting-preserved c =
    let a = c.args in
    let loop = c.loop-waiting in
    let low = c.lowest-q in
    slicing_more a.t.now a.mask a.order.third a.order.first a.order.second a.a loop.slices c.accepted_words.result
    loop.waiting c.single.result low.result (search rules) c.single.ensures
    (low.ensures.member c.loop-waiting-test.true).1 c.accepted_words.ensures loop.invariant

pub returns : goal.returns
returns c =
    let a = c.args in
    let loop = c.loop-waiting in
    slicing_end a.t.now a.mask a.order.third a.order.first a.order.second a.a loop.slices loop.waiting (search rules)
    loop.invariant
