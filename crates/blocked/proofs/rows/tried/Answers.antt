-- Outside the set, or asked about each third cell. Assumes nothing.
use native.Mathlib.Omega.{arith}
use mathlib.Core.Path.{sym, ap, ◌∙◌}
use borrow.Author.Tests.{not-false, not-true}
use Rattle.search.specs.Inner.Places.{in_places}
use Rattle.blocked.proofs.RowLaws.{tried_asked, tried_outside}
use Rattle.blocked.proofs.rows.tried.Goals as goal

pub returns-then-not-inside : goal.returns-then-not-inside
returns-then-not-inside c ll lm lk given =
    let a = c.args in
    let tables = a.tables.now in
    let scope = tables.scope in
    let member = c.inside in
    tried_outside tables.rules a.rules scope.firsts scope.seconds a.row.first a.row.second a.k a.places.now
    (ap (in_places scope.firsts) (sym (omega (arith, c.from.ensures)))
    ∙ sym (member.ensures (omega arith))
    ∙ not-true member.result c.if-not-inside.true-raw)

pub returns : goal.returns
returns c ll lm lk given =
    let a = c.args in
    let tables = a.tables.now in
    let scope = tables.scope in
    let member = c.inside in
    let masks = c.row_masks-masks in
    let slices = c.fill_slices in
    let pairs = c.second_pairs-pairs in
    tried_asked tables.rules a.rules scope.firsts scope.seconds a.row.first a.row.second a.k a.places.now _ tables.met
    masks.result _ pairs.result c.remove_open.new.places (omega (arith, c.from.ensures))
    (sym (member.ensures (omega arith))
    ∙ not-false member.result c.if-not-inside.false-raw)
    lm given (masks.ensures lm given.met_holds) slices.ensures (pairs.ensures lm)
    c.remove_open.ensures
