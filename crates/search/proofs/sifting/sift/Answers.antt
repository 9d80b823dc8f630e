-- Each turn takes one rule off those that wait (`Sieving`), which makes that word smaller. Assumes nothing.
use Rattle.std.proofs.Common.{rules, ◌≡◌}
use mathlib.Core.Bool.{false, not, ◌&&◌, false≢true}
use lib.ListN.{replicate}
use Rattle.book.specs.Sets.{has}
use Rattle.search.specs.Inner.Closing.{remaining}
use Rattle.search.proofs.PlaceLaws.{zero_words}
use Rattle.search.proofs.Sieves.{none_closes, turn_idle, sifted_turn, sifted_empty, sifted_join}
use Rattle.search.proofs.Sieves.{without_smaller, sieving_start, sieving_more, sieving_end}
use Rattle.search.proofs.sifting.sift.Goals as goal

pub returns-then-is_empty : goal.returns-then-is_empty
returns-then-is_empty c =
    let a = c.args in
    let first = c.again in
    sifted_empty a.t.now a.rules a.b a.c (λ q. false) (has a.rules) (remaining a.set.now a.takers.now)
    (remaining first.new.set first.new.takers) (c.is_empty.ensures c.if-is_empty.true) first.ensures

pub loop-waiting-init : goal.loop-waiting-init
loop-waiting-init c =
    let a = c.args in
    sieving_start a.t.now a.rules a.b a.c (remaining c.again.new.set c.again.new.takers)

pub loop-waiting-smaller-then-eq : goal.loop-waiting-smaller-then-eq
loop-waiting-smaller-then-eq c =
    let loop = c.loop-waiting in
    let low = c.next_after-q in
    let found = low.ensures.1 c.loop-waiting-test.true in
    without_smaller loop.waiting c.single.result low.result loop.invariant.fits (search rules) found.0
    (rw c.from.ensures at c.single.ensures) found.1

pub loop-waiting-preserved-then-eq : goal.loop-waiting-preserved-then-eq
loop-waiting-preserved-then-eq c =
    let a = c.args in
    let loop = c.loop-waiting in
    let low = c.next_after-q in
    let found = low.ensures.1 c.loop-waiting-test.true in
    let masks = c.closing_masks-masks in
    let rest = remaining loop.set loop.takers in
    let zeros : masks.result ≡ replicate 3 0 = search rules in
    sieving_more a.t.now a.rules a.b a.c (remaining c.again.new.set c.again.new.takers) rest rest
    loop.waiting c.single.result low.result (search rules) (rw c.from.ensures at c.single.ensures) found.1
    (λ small.
    turn_idle a.t.now low.result a.b a.c rest
    (none_closes a.t.now low.result a.b a.c masks.result masks.ensures (λ i. rw (zeros, zero_words 3 i))))
    loop.invariant

pub returns-then-is_empty-2 : goal.returns-then-is_empty-2
returns-then-is_empty-2 c =
    let a = c.args in
    let loop = c.loop-waiting in
    let low = c.next_after-q in
    let found = low.ensures.1 c.loop-waiting-test.true in
    let rule = loop.invariant.members low.result found.1 in
    let start = remaining a.set.now a.takers.now in
    let first = remaining c.again.new.set c.again.new.takers in
    let rest = remaining loop.set loop.takers in
    let last = remaining c.turn.new.set c.turn.new.takers in
    sifted_join a.t.now a.rules a.b a.c (λ q. false) (has a.rules) start first last c.again.ensures
    (sifted_empty a.t.now a.rules a.b a.c (λ q. false) (has a.rules) first last
    (c.is_empty-then-takers-q.ensures c.if-is_empty-2.true)
    (sifted_turn a.t.now a.rules a.b a.c (λ q. has a.rules q && not (has loop.waiting q))
    (λ q. false) low.result first rest last rule.0 rule.1
    (λ j e n. absurd (false≢true e)) loop.invariant.sifted
    (c.turn.ensures a.b a.c rule.0 c.closing_masks-masks.ensures)))

pub loop-waiting-smaller : goal.loop-waiting-smaller
loop-waiting-smaller c =
    let loop = c.loop-waiting in
    let low = c.next_after-q in
    let found = low.ensures.1 c.loop-waiting-test.true in
    without_smaller loop.waiting c.single.result low.result loop.invariant.fits (search rules) found.0
    (rw c.from.ensures at c.single.ensures) found.1

pub loop-waiting-preserved : goal.loop-waiting-preserved
loop-waiting-preserved c =
    let a = c.args in
    let loop = c.loop-waiting in
    let low = c.next_after-q in
    let found = low.ensures.1 c.loop-waiting-test.true in
    sieving_more a.t.now a.rules a.b a.c (remaining c.again.new.set c.again.new.takers)
    (remaining loop.set loop.takers) (remaining c.turn.new.set c.turn.new.takers)
    loop.waiting c.single.result low.result (search rules) (rw c.from.ensures at c.single.ensures) found.1
    (λ small. c.turn.ensures a.b a.c small c.closing_masks-masks.ensures) loop.invariant

pub returns : goal.returns
returns c =
    let a = c.args in
    let loop = c.loop-waiting in
    let start = remaining a.set.now a.takers.now in
    let first = remaining c.again.new.set c.again.new.takers in
    let rest = remaining loop.set loop.takers in
    sifted_join a.t.now a.rules a.b a.c (λ q. false) (has a.rules) start first rest c.again.ensures
    (sieving_end a.t.now a.rules a.b a.c first rest loop.waiting (search rules) loop.invariant)
