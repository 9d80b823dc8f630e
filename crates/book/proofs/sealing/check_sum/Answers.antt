-- The sum so far is the weighted sum of the bytes passed: those of the whole rows, then at most 130,050 for each byte.
-- Assumes nothing.
use Prim.Native.Nat.{◌≤◌}
use native.Mathlib.Omega.{arith}
use lib.ListN.{length, get_or}
use borrow.Author.Rules.{rules}
use Rattle.book.proofs.Lists.{part_short}
use Rattle.book.proofs.Blocks.{weighted_next, weighted_step, weighted_whole}
use Rattle.book.proofs.sealing.check_sum.Goals as goal

pub loop-i-init : goal.loop-i-init
loop-i-init c =
    let rows = c.row_sum-sum in
    let body = c.part-body.result.now in
    let count = c.summed in
    let block = c.args.block.now in
    let short = part_short block 0 count.result body c.part-body.ensures in
    let few : length body ≤ 510 = omega (arith, short, count.ensures.within) in
    let told = rows.ensures (omega arith) in
    (omega arith, search rules, few, told.0, omega (arith, told.1))

pub overflow_mul-sum : goal.overflow_mul-sum
overflow_mul-sum c =
    let i = c.loop-i.i in
    let x = get_or c.part-body.result.now i 0 in
    let byte : x ≤ 255 = omega (arith, c.shared_slice_known-in-loop-i-1.given i) in
    rw c.from.ensures (omega (arith, weighted_step i x (omega arith) byte))

pub overflow_add-sum-in-loop-i : goal.overflow_add-sum-in-loop-i
overflow_add-sum-in-loop-i c =
    let i = c.loop-i.i in
    let x = get_or c.part-body.result.now i 0 in
    let byte : x ≤ 255 = omega (arith, c.shared_slice_known-in-loop-i-1.given i) in
    rw c.from.ensures (omega (arith, weighted_step i x (omega arith) byte))

pub loop-i-preserved : goal.loop-i-preserved
loop-i-preserved c =
    let body = c.part-body.result.now in
    let at = c.loop-i in
    let i = at.i in
    let x = get_or body i 0 in
    let byte : x ≤ 255 = omega (arith, c.shared_slice_known-in-loop-i-1.given i) in
    let more = weighted_next body i at.sum (omega arith) at.invariant.3 in
    (search rules, search rules, search rules, rw c.from.ensures more, rw c.from.ensures (omega (arith, weighted_step i x (omega arith) byte)))

pub returns : goal.returns
returns c =
    let block = c.args.block.now in
    let count = c.summed in
    let part = c.part-body in
    let at = c.loop-i in
    let whole =
    weighted_whole block part.result.now count.result at.i at.sum count.ensures part.ensures
    (omega arith) at.invariant.3 in
    (whole, omega arith)
