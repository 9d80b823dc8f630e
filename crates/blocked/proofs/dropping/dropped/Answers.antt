-- Not tried, dropped, or kept: `not_tried`, `tried_shut`, `tried_open`. Assumes nothing.
use Prim.Native.Nat.{◌-◌, ◌^◌}
use mathlib.Core.Path.{ap, ◌∙◌}
use lib.Bits.{bit_and}
use Rattle.book.specs.Sets.{has}
use Rattle.blocked.proofs.DroppingLaws.{less_one, not_tried, tried_open, tried_other, tried_shut}
use borrow.Author.Rules.{rules}
use Rattle.blocked.proofs.dropping.dropped.Goals as goal

pub returns-then-q-r : goal.returns-then-q-r
returns-then-q-r c passes n counts low given told keeps =
    let a = c.args in
    not_tried a.r counts a.q a.rules passes c.contains.result (c.contains.ensures ∙ ap (has a.rules) c.from.ensures) keeps
    c.if-q-r.true

pub returns-in-Some : goal.returns-in-Some
returns-in-Some c passes n counts low given told keeps =
    let a = c.args in
    let t = a.tables.now in
    let one = c.single in
    let fewer = bit_and a.rules ((2 ^ 64 - 1) - one.result) in
    tried_shut t.rules t.met t.scope a.thirds.now a.row.first a.row.second n a.r counts a.q a.rules fewer passes given told keeps
    (λ j. less_one a.rules one.result a.q j (search rules) (search rules) (rw c.from-2.ensures at one.ensures))
    (tried_other a.r a.q c.contains.result c.if-q-r.false)
    c.closed_third.result c.closed_third.ensures _ c.in-Some.is

pub returns-in-None : goal.returns-in-None
returns-in-None c passes n counts low given told keeps =
    let a = c.args in
    let t = a.tables.now in
    let one = c.single in
    let fewer = bit_and a.rules ((2 ^ 64 - 1) - one.result) in
    tried_open t.rules t.met t.scope a.thirds.now a.row.first a.row.second n a.r counts a.q a.rules fewer passes given told keeps
    (λ j. less_one a.rules one.result a.q j (search rules) (search rules) (rw c.from-2.ensures at one.ensures))
    (tried_other a.r a.q c.contains.result c.if-q-r.false)
    c.closed_third.result c.closed_third.ensures c.in-None.is
