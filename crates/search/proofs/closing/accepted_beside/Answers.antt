-- One restriction a turn; the law `accepting_more` is the step. Assumes nothing.
use native.Mathlib.Omega.{arith}
use Rattle.search.proofs.ClosingLaws.{accepting_none, accepting_more, accepting_end}
use borrow.Author.Rules.{rules}
use Rattle.search.proofs.closing.accepted_beside.Goals as goal

pub loop-j-init : goal.loop-j-init
loop-j-init c =
    let a = c.args in
    (search rules, accepting_none a.t.now a.q a.i a.k a.l a.b a.c)

pub loop-j-preserved : goal.loop-j-preserved
loop-j-preserved c =
    let a = c.args in
    let loop = c.loop-j in
    let second = c.contains-in-loop-j in
    let first = c.contains in (
      search rules,
      accepting_more a.t.now a.q a.i a.k a.l a.b a.c loop.j loop.found _ _ _
          c.word_if-found.result first.result second.result loop.invariant.1
          (c.taken_words-first.ensures loop.j) (c.taken_words-second.ensures loop.j)
          (c.taken_words-third.ensures loop.j) first.ensures second.ensures c.word_if-found.ensures,
    )

pub returns : goal.returns
returns c =
    let a = c.args in
    let loop = c.loop-j in
    accepting_end a.t.now a.q a.i a.k a.l a.b a.c loop.j loop.found (omega arith) loop.invariant.1
