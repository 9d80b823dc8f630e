-- One word of each action a turn (`HadWords`): four leaves with sixteen operations each. Assumes nothing.
use Prim.Native.Nat.{ℕ, ◌+◌, ◌*◌, ◌%◌, ◌<◌}
use native.Mathlib.Omega.{arith}
use mathlib.Core.Path.{◌≡◌, refl}
use mathlib.Core.Bool.{Bool, ◌&&◌}
use lib.ListN.{replicate}
use Rattle.std.proofs.Common.{rules}
use Rattle.search.specs.Inner.Table.{HadWith}
use Rattle.search.specs.Obtainable.{labelled, operated}
use Rattle.search.proofs.Fours.{four_tests}
use Rattle.search.proofs.Obtained.{had_holds, had_more, had_none}
use Rattle.search.proofs.obtaining.obtainable.Goals as goal

pub loop-w-init : goal.loop-w-init
loop-w-init c =
    had_none c.args.head.now (replicate 32 0) refl

pub loop-w-preserved : goal.loop-w-preserved
loop-w-preserved c =
    let head = c.args.head.now in
    let loop = c.loop-w in
    let w = loop.w in
    let d = w % 16 * 4 in
    let test : ℕ → ℕ → Bool = λ j k. labelled head j && operated head j k in
    let small : w < 16 = c.loop-w-test.true in
    let same : 4 * w ≡ d = omega arith in
    let labels = c.labels_of-labels in
    let operations = c.operations_of-operations in
    let one : HadWith head labels.result operations.result (4 * w) c.of.result = search rules in
    let two : HadWith head labels.result operations.result (4 * w + 1) c.of-in-loop-w.result = search rules in
    let three : HadWith head labels.result operations.result (4 * w + 2) c.of-in-loop-w-2.result = search rules in
    let last : HadWith head labels.result operations.result (4 * w + 3) c.of-in-loop-w-3.result = search rules in
    rw (c.from.ensures, c.from-in-loop-w.ensures)
    (had_more head loop.had w c.four-word.result small
    (λ i l.
    rw (← same)
    (four_tests test (4 * w) c.of.result c.of-in-loop-w.result c.of-in-loop-w-2.result c.of-in-loop-w-3.result c.four-word.result
    (one labels.ensures operations.ensures (omega arith))
    (two labels.ensures operations.ensures (omega arith))
    (three labels.ensures operations.ensures (omega arith))
    (last labels.ensures operations.ensures (omega arith)) i l
    (c.four-word.ensures i l)))
    loop.invariant)

pub returns : goal.returns
returns c =
    had_holds c.args.head.now c.loop-w.had c.loop-w.w
    c.loop-w.invariant (omega arith)
