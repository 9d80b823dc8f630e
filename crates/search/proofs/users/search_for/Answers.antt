-- A user whom the rule does not cover, one whose rules hold a mask, or a search. Assumes nothing.
use Rattle.std.proofs.Common.{rules, ◌≡◌, true, false, sym, ◌∙◌}
use lib.ListN.{get_or}
use Rattle.search.proofs.UserLaws.{uncovered, settled_none, searched_for, nothing_for}
use Rattle.search.proofs.users.search_for.Goals as goal

pub returns-then-not-covers : goal.returns-then-not-covers
returns-then-not-covers c settle =
    let a = c.args in
    let ask = a.ask.now in
    let e : c.covers.result ≡ false = search rules in
    nothing_for ask.tables.now ask.rule ask.references a.had a.covered.now a.u
    (uncovered ask.tables.now ask.rule ask.references a.had a.covered.now a.u (sym c.covers.ensures ∙ e))

pub returns-then-settled : goal.returns-then-settled
returns-then-settled c settle =
    let a = c.args in
    let ask = a.ask.now in
    let rules = c.others-rules in
    let found = c.settled.ensures c.if-settled.true in
    nothing_for ask.tables.now ask.rule ask.references a.had a.covered.now a.u
    (settled_none ask.tables.now ask.rule ask.references a.had a.covered.now a.u rules.result rules.ensures
    (get_or a.masks.now found.0 0) (settle found.0 found.1) found.2)

pub returns : goal.returns
returns c settle =
    let a = c.args in
    let ask = a.ask.now in
    let others = c.others-rules in
    let e : c.covers.result ≡ true = search rules in
    searched_for ask.tables.now ask.rule ask.references a.had a.covered.now a.u others.result others.ensures
    c.search.new.takers.rules c.search.result (sym c.covers.ensures ∙ e) c.search.ensures
