-- Each turn takes one rule off those that wait (`Narrowing`), which makes that word smaller. Assumes nothing.
use Prim.Native.Nat.{◌-◌, ◌%◌, ◌^◌}
use mathlib.Core.List.{[]}
use lib.Bits.{bit_and}
use lib.ListN.{get_or}
use Rattle.search.proofs.Sieves.{without_smaller}
use Rattle.blocked.proofs.NarrowLaws.{cut_by, cut_size, narrowing_empty, narrowing_end, narrowing_more, narrowing_start, turn}
use borrow.Author.Rules.{rules}
use Rattle.blocked.proofs.pairs.narrow.Goals as goal

pub loop-waiting-init : goal.loop-waiting-init
loop-waiting-init c = narrowing_start c.args.slices.now c.args.rules c.args.pairs.now c.told-pairs

pub loop-waiting-smaller : goal.loop-waiting-smaller
loop-waiting-smaller c =
    let loop = c.loop-waiting in
    let low = c.lowest-q in
    let found = low.ensures.member c.loop-waiting-test.true in
    let one = c.single in
    without_smaller loop.waiting one.result low.result loop.invariant.fits (search rules) found.0
    one.ensures found.1

pub loop-waiting-preserved : goal.loop-waiting-preserved
loop-waiting-preserved c =
    let a = c.args in
    let loop = c.loop-waiting in
    let low = c.lowest-q in
    let found = low.ensures.member c.loop-waiting-test.true in
    let words = get_or a.slices.now (low.result % 32) [] in
    narrowing_more a.slices.now a.rules a.pairs.now loop.pairs (cut_by loop.pairs words) loop.waiting c.single.result
    low.result (search rules) c.single.ensures found.1 (cut_size loop.pairs words loop.invariant.size)
    (turn a.slices.now low.result loop.pairs loop.invariant.size) loop.invariant

pub returns-then-pairs-eq0 : goal.returns-then-pairs-eq0
returns-then-pairs-eq0 c =
    let a = c.args in
    let loop = c.loop-waiting in
    let low = c.lowest-q in
    let found = low.ensures.member c.loop-waiting-test.true in
    let words = get_or a.slices.now (low.result % 32) [] in
    let turned =
    narrowing_more a.slices.now a.rules a.pairs.now loop.pairs (cut_by loop.pairs words) loop.waiting c.single.result
    low.result (search rules) c.single.ensures found.1 (cut_size loop.pairs words loop.invariant.size)
    (turn a.slices.now low.result loop.pairs loop.invariant.size) loop.invariant in
    record {
      left =
          narrowing_empty a.slices.now a.rules a.pairs.now (cut_by loop.pairs words)
          (bit_and loop.waiting ((2 ^ 64 - 1) - c.single.result)) c.if-pairs-eq0.true turned;
      fewer = turned.fewer;
    }

pub returns : goal.returns
returns c =
    let a = c.args in
    let loop = c.loop-waiting in
    record {
      left =
          narrowing_end a.slices.now a.rules a.pairs.now loop.pairs loop.waiting (search rules) loop.invariant;
      fewer = loop.invariant.fewer;
    }
