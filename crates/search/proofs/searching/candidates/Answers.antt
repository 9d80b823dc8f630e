-- An absent reference has one place; any other one word a turn (`Candidates`). Assumes nothing.
use mathlib.Core.Path.{refl}
use lib.ListN.{replicate, get_or-replicate}
use Rattle.search.proofs.Candidates.{candidate_absent, candidates_none, candidates_more}
use Rattle.search.proofs.Candidates.{candidates_end}
use borrow.Author.Rules.{rules}
use Rattle.search.proofs.searching.candidates.Goals as goal

pub returns-then-ask-reference : goal.returns-then-ask-reference
returns-then-ask-reference c p h =
    let a = c.args in
    let ask = a.ask.now in
    let reference = c.reference_at-reference in
    candidate_absent ask.tables.now ask.rule ask.references a.had a.i reference.result (replicate 33 0) p
    reference.ensures.0 c.if-ask-reference.true refl (λ w. get_or-replicate 33 w 0 0) h

pub loop-w-init : goal.loop-w-init
loop-w-init c =
    let a = c.args in
    let ask = a.ask.now in
    candidates_none ask.tables.now a.had ask.rule c.reference_at-reference.result (replicate 33 0) refl refl

pub loop-w-preserved : goal.loop-w-preserved
loop-w-preserved c =
    let a = c.args in
    let ask = a.ask.now in
    let loop = c.loop-w in
    candidates_more ask.tables.now a.had ask.rule c.reference_at-reference.result loop.found loop.w _
    c.loop-w-test.true (c.met_words-met.ensures loop.w) loop.invariant

pub returns : goal.returns
returns c p h =
    let a = c.args in
    let ask = a.ask.now in
    let reference = c.reference_at-reference in
    let loop = c.loop-w in
    candidates_end ask.tables.now a.had ask.rule reference.result ask.references a.i loop.found loop.w p
    reference.ensures.0 (search rules) c.loop-w-test.false loop.invariant h
