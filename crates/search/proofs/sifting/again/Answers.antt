-- One turn of a rule of the set, or nothing. Assumes nothing.
use mathlib.Core.Path.{sym, ◌∙◌}
use mathlib.Core.Bool.{false}
use lib.Dec.{ltb}
use borrow.Author.Tests.{ltb-true}
use Rattle.book.proofs.Lists.{and_left, and_right}
use Rattle.search.specs.Inner.Closing.{remaining}
use Rattle.search.proofs.Sieves.{sifted_start, sifted_turn}
use Rattle.search.proofs.sifting.again.Goals as goal

pub returns-then-q-contains : goal.returns-then-q-contains
returns-then-q-contains c =
    let a = c.args in
    let q = a.takers.now.last in
    let start = remaining a.set.now a.takers.now in
    let test = c.contains in
    let taken = c.if-q-contains.true in
    let small = ltb-true _ _ (and_left (ltb q 32) test.result taken) in
    sifted_turn a.t.now a.rules a.b a.c (λ q. false) (λ q. false) q start start
    (remaining c.turn.new.set c.turn.new.takers) small
    (rw c.from.ensures at (sym test.ensures ∙ and_right (ltb q 32) test.result taken)) (λ j d n. d)
    (sifted_start a.t.now a.rules a.b a.c start) (c.turn.ensures a.b a.c small c.closing_masks.ensures)

pub returns-else-q-contains : goal.returns-else-q-contains
returns-else-q-contains c =
    let a = c.args in
    sifted_start a.t.now a.rules a.b a.c (remaining a.set.now a.takers.now)
