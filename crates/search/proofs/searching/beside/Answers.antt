-- One second place a turn (`Seeking`), out of those that no rule has settled. Assumes nothing.
use Rattle.std.proofs.Common.{◌≡◌, None, ◌<◌}
use native.Mathlib.Omega.{arith}
use Rattle.book.specs.Sets.{has}
use Rattle.search.specs.Inner.Closing.{remaining}
use Rattle.search.specs.Inner.Search.{asked, solves_beside, solves_pair, Searched}
use Rattle.search.proofs.Solutions.{seeking_start, seeking_end}
use Rattle.search.proofs.Solutions.{grown_within, found_solved, nothing_unsolved}
use Rattle.search.proofs.SearchSteps.{beside_inside, beside_empty, beside_found, beside_more}
use borrow.Author.Rules.{rules}
use Rattle.search.proofs.searching.beside.Goals as goal

pub returns-then-is_empty : goal.returns-then-is_empty
unfolding Searched
returns-then-is_empty c begun =
    let a = c.args in
    let ask = a.ask.now in
    beside_empty ask.tables.now ask.rule ask.references a.a a.seconds.now a.thirds.now a.rules a.takers.now.rules
    (c.is_empty.ensures c.if-is_empty.true)

pub loop-next-init : goal.loop-next-init
loop-next-init c =
    let a = c.args in
    let ask = a.ask.now in (
      c.first_from-next.ensures.there,
      search rules,
      λ p l h. h,
      λ begun.
          seeking_start (asked solves_beside ask a.a a.seconds.now a.thirds.now) (λ b z w. z)
          a.seconds.now a.rules a.takers.now.rules _
          (beside_inside ask.tables.now ask.rule ask.references a.a a.seconds.now a.thirds.now
          (has a.takers.now.rules)) (c.first_from-next.ensures.first (omega arith)),
    )

pub overflow_add-y : goal.overflow_add-y
overflow_add-y c =
    let small : c.in-Some.y < 2112 = rw c.in-Some.is at c.loop-next.invariant.0 in
    omega arith

pub returns-in-Some-beside_both : goal.returns-in-Some-beside_both
unfolding Searched
returns-in-Some-beside_both c begun =
    let a = c.args in
    let ask = a.ask.now in
    let loop = c.loop-next in
    let s = c.in-Some.y in
    let found = c.in-Some-beside_both.found in
    let start = a.takers.now.rules in
    let seen = loop.takers.rules in
    let seeking = rw c.in-Some.is at (loop.invariant.3 begun) in
    let small : s < 2112 = rw c.in-Some.is at loop.invariant.0 in
    let inside = grown_within (has a.rules) (has start) (has seen) begun seeking.only in
    beside_found ask.tables.now ask.rule ask.references a.a a.seconds.now a.thirds.now loop.seconds a.rules start seen
    s found.first found.second found.third begun small loop.invariant.2 seeking
    (found_solved (asked solves_pair ask a.a s a.thirds.now) a.rules seen c.beside_both.new.takers.rules
    c.beside_both.result found c.in-Some-beside_both.is (c.beside_both.ensures inside))

pub loop-next-smaller : goal.loop-next-smaller
loop-next-smaller c =
    let small : c.in-Some.y < 2112 = rw c.in-Some.is at c.loop-next.invariant.0 in
    rw c.in-Some.is (omega (arith, small, (c.first_from-next-in-Some.ensures.first (omega arith)).low))

pub loop-next-preserved : goal.loop-next-preserved
loop-next-preserved c =
    let a = c.args in
    let ask = a.ask.now in
    let loop = c.loop-next in
    let s = c.in-Some.y in
    let start = a.takers.now.rules in
    let seen = loop.takers.rules in
    let more = c.beside_both.new.takers.rules in
    let small : s < 2112 = rw c.in-Some.is at loop.invariant.0 in
    let empty : c.beside_both.result ≡ None = search rules in
    let rest = c.settle in (
      c.first_from-next-in-Some.ensures.there,
      search rules,
      λ p l h. loop.invariant.2 p l (rest.ensures.settled.within p l h),
      λ begun.
          let seeking = rw c.in-Some.is at (loop.invariant.3 begun) in
          let inside = grown_within (has a.rules) (has start) (has seen) begun seeking.only in
          let none =
          nothing_unsolved (asked solves_pair ask a.a s a.thirds.now) a.rules seen more c.beside_both.result
          empty (c.beside_both.ensures inside) in
          beside_more ask.tables.now ask.rule ask.references a.a a.seconds.now a.thirds.now loop.seconds a.rules start
          seen more s _ (remaining rest.new.seconds rest.new.takers) loop.invariant.1 (search rules)
          (c.first_from-next-in-Some.ensures.first (omega arith)) none rest.ensures seeking,
    )

pub returns : goal.returns
unfolding Searched
returns c begun =
    let a = c.args in
    let loop = c.loop-next in
    let ended : loop.next ≡ None = search rules in
    seeking_end (asked solves_beside a.ask.now a.a a.seconds.now a.thirds.now) (λ b z w. z) loop.seconds a.rules
    a.takers.now.rules loop.takers.rules 2112 loop.invariant.1 (omega arith) (rw ended at (loop.invariant.3 begun))
