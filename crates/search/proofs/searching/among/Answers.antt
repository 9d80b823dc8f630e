-- One first place a turn (`Seeking`). Assumes nothing.
use Rattle.std.proofs.Common.{◌≡◌, None, ◌<◌}
use native.Mathlib.Omega.{arith}
use Rattle.book.specs.Sets.{has}
use Rattle.search.specs.Inner.Search.{asked, solves_in, solves_first, Searched}
use Rattle.search.proofs.Solutions.{seeking_start, seeking_more, seeking_end}
use Rattle.search.proofs.Solutions.{grown_within, found_solved, nothing_unsolved}
use Rattle.search.proofs.SearchSteps.{in_inside, in_lessen, among_none, among_found}
use borrow.Author.Rules.{rules}
use Rattle.search.proofs.searching.among.Goals as goal

pub loop-next-init : goal.loop-next-init
loop-next-init c =
    let a = c.args in
    let ask = a.ask.now in (
      c.first_from-next.ensures.there,
      λ begun.
          seeking_start (asked solves_in ask a.firsts.now a.seconds.now a.thirds.now) (λ b z w. b)
          a.firsts.now a.rules a.takers.now.rules _
          (in_inside ask.tables.now ask.rule ask.references a.firsts.now a.seconds.now a.thirds.now
          (has a.takers.now.rules)) (c.first_from-next.ensures.first (omega arith)),
    )

pub overflow_add-a : goal.overflow_add-a
overflow_add-a c =
    let small : c.in-Some.a < 2112 = rw c.in-Some.is at c.loop-next.invariant.0 in
    omega arith

pub returns-in-Some-beside_first : goal.returns-in-Some-beside_first
unfolding Searched
returns-in-Some-beside_first c begun =
    let a = c.args in
    let ask = a.ask.now in
    let f = c.in-Some.a in
    let found = c.in-Some-beside_first.found in
    let start = a.takers.now.rules in
    let seen = c.loop-next.takers.rules in
    let seeking = rw c.in-Some.is at (c.loop-next.invariant.1 begun) in
    let small : f < 2112 = rw c.in-Some.is at c.loop-next.invariant.0 in
    let inside = grown_within (has a.rules) (has start) (has seen) begun seeking.only in
    among_found ask.tables.now ask.rule ask.references a.firsts.now a.seconds.now a.thirds.now a.rules start seen f
    found.first found.second found.third begun small seeking
    (found_solved (asked solves_first ask f a.seconds.now a.thirds.now) a.rules seen
    c.beside_first.new.takers.rules c.beside_first.result found c.in-Some-beside_first.is
    (c.beside_first.ensures inside))

pub loop-next-smaller : goal.loop-next-smaller
loop-next-smaller c =
    let small : c.in-Some.a < 2112 = rw c.in-Some.is at c.loop-next.invariant.0 in
    rw c.in-Some.is (omega (arith, small, (c.first_from-next-in-Some.ensures.first (omega arith)).low))

pub loop-next-preserved : goal.loop-next-preserved
loop-next-preserved c =
    let a = c.args in
    let ask = a.ask.now in
    let f = c.in-Some.a in
    let start = a.takers.now.rules in
    let seen = c.loop-next.takers.rules in
    let more = c.beside_first.new.takers.rules in
    let small : f < 2112 = rw c.in-Some.is at c.loop-next.invariant.0 in
    let empty : c.beside_first.result ≡ None = search rules in (
      c.first_from-next-in-Some.ensures.there,
      λ begun.
          let seeking = rw c.in-Some.is at (c.loop-next.invariant.1 begun) in
          let inside = grown_within (has a.rules) (has start) (has seen) begun seeking.only in
          let none =
          nothing_unsolved (asked solves_first ask f a.seconds.now a.thirds.now) a.rules seen more
          c.beside_first.result empty (c.beside_first.ensures inside) in
          seeking_more (asked solves_in ask a.firsts.now a.seconds.now a.thirds.now) (λ b z w. b)
          (in_lessen ask.tables.now ask.rule ask.references a.firsts.now a.seconds.now a.thirds.now) a.firsts.now
          a.rules start seen more f _ (c.first_from-next-in-Some.ensures.first (omega arith)) none.more none.only
          (among_none ask.tables.now ask.rule ask.references a.firsts.now a.seconds.now a.thirds.now f (has a.rules)
          (has seen) (has more) none) seeking,
    )

pub returns : goal.returns
unfolding Searched
returns c begun =
    let a = c.args in
    let ended : c.loop-next.next ≡ None = search rules in
    seeking_end (asked solves_in a.ask.now a.firsts.now a.seconds.now a.thirds.now) (λ b z w. b)
    a.firsts.now a.rules a.takers.now.rules c.loop-next.takers.rules 2112 (search rules) (omega arith)
    (rw ended at (c.loop-next.invariant.1 begun))
