-- Each turn is one byte more of one column (`Summed`); the law `columns_all` joins the columns. Assumes nothing.
use Prim.Native.Nat.{◌+◌, ◌*◌, ◌/◌, ◌≤◌}
use native.Mathlib.Omega.{arith}
use mathlib.Core.Path.{◌≡◌, refl, ◌∙◌}
use lib.ListN.{length, get_or}
use borrow.Author.Rules.{rules}
use Rattle.book.proofs.Columns.{Column, column_most, columns_none, columns_more, columns_all}
use Rattle.book.proofs.Columns.{rows_none, summed_none, summed_more, summed_all}
use Rattle.book.proofs.sealing.row_sum.Goals as goal

pub returns-then-rows-gt32 : goal.returns-then-rows-gt32
returns-then-rows-gt32 c few = absurd (omega arith)

pub loop-r-init : goal.loop-r-init
loop-r-init c =
    let body = c.args.body.now in
    (search rules, search rules, search rules, search rules, search rules, rows_none body 16)

pub loop-j-init : goal.loop-j-init
loop-j-init c =
    let body = c.args.body.now in
    let l = c.loop-r in (
      search rules,
      search rules,
      search rules,
      search rules,
      search rules,
      search rules,
      summed_none body l.bytes l.sums l.r l.invariant.5,
    )

pub overflow_cast-total : goal.overflow_cast-total
overflow_cast-total c =
    let at = 16 * c.loop-r.r + c.loop-j.j in
    omega (arith, c.shared_slice_known-1.given at)

pub overflow_add-total-in-loop-j : goal.overflow_add-total-in-loop-j
overflow_add-total-in-loop-j c =
    let turned : Column c.args.body.now c.loop-j.j c.loop-r.r (get_or c.loop-j.bytes c.loop-j.j 0) (get_or c.loop-j.sums c.loop-j.j 0) =
    c.loop-j.invariant.6.ahead c.loop-j.j (omega arith) c.loop-j-test.true in
    let at = 16 * c.loop-r.r + c.loop-j.j in
    omega (arith, c.shared_slice_known-1.given at, turned.a_most)

pub overflow_add-sums : goal.overflow_add-sums
overflow_add-sums c =
    let turned : Column c.args.body.now c.loop-j.j c.loop-r.r (get_or c.loop-j.bytes c.loop-j.j 0) (get_or c.loop-j.sums c.loop-j.j 0) =
    c.loop-j.invariant.6.ahead c.loop-j.j (omega arith) c.loop-j-test.true in
    let at = 16 * c.loop-r.r + c.loop-j.j in
    omega (arith, c.shared_slice_known-1.given at, turned.a_most, turned.s_most)

pub loop-j-preserved : goal.loop-j-preserved
loop-j-preserved c =
    let body = c.args.body.now in
    let r = c.loop-r.r in
    let l = c.loop-j in
    let small = c.loop-j-test.true in
    let byte = c.shared_slice_known-1.given (16 * r + l.j) in (
      search rules,
      search rules,
      search rules,
      search rules,
      search rules,
      search rules,
      summed_more body l.bytes l.sums r l.j (get_or body (16 * r + l.j) 0) small (omega arith) l.invariant.4
          l.invariant.5 refl (omega (arith, byte)) l.invariant.6,
    )

pub loop-r-preserved : goal.loop-r-preserved
loop-r-preserved c =
    let body = c.args.body.now in
    let r = c.loop-r.r in
    let l = c.loop-j in (
      search rules,
      search rules,
      search rules,
      search rules,
      search rules,
      summed_all body l.bytes l.sums r l.j c.loop-j-test.false l.invariant.6,
    )

pub loop-j-2-init : goal.loop-j-2-init
loop-j-2-init c =
    let body = c.args.body.now in
    let l = c.loop-r in
    let e : l.r ≡ length body / 16 = omega arith in (
      search rules,
      search rules,
      search rules,
      rw e at l.invariant.5,
      columns_none body (length body / 16),
      search rules,
    )

pub overflow_mul-sum-in-loop-j-2 : goal.overflow_mul-sum-in-loop-j-2
overflow_mul-sum-in-loop-j-2 c =
    let joined : Column c.args.body.now c.loop-j-2.j (length c.args.body.now / 16) (get_or c.loop-r.bytes c.loop-j-2.j 0) (get_or c.loop-r.sums c.loop-j-2.j 0) =
    c.loop-j-2.invariant.3 c.loop-j-2.j c.loop-j-2-test.true in
    let most : (16 * (length c.args.body.now / 16) + 1 + c.loop-j-2.j) * get_or c.loop-r.bytes c.loop-j-2.j 0 ≤ 4308480 =
    let body = c.args.body.now in
    let made = c.loop-r in
    let j = c.loop-j-2.j in
    column_most body j (length body / 16) (get_or made.bytes j 0) (get_or made.sums j 0) c.loop-j-2-test.true
    c.loop-j-2.invariant.1 joined in
    omega (arith, most)

pub overflow_add-sum-in-loop-j-2-2 : goal.overflow_add-sum-in-loop-j-2-2
overflow_add-sum-in-loop-j-2-2 c =
    let joined : Column c.args.body.now c.loop-j-2.j (length c.args.body.now / 16) (get_or c.loop-r.bytes c.loop-j-2.j 0) (get_or c.loop-r.sums c.loop-j-2.j 0) =
    c.loop-j-2.invariant.3 c.loop-j-2.j c.loop-j-2-test.true in
    let most : (16 * (length c.args.body.now / 16) + 1 + c.loop-j-2.j) * get_or c.loop-r.bytes c.loop-j-2.j 0 ≤ 4308480 =
    let body = c.args.body.now in
    let made = c.loop-r in
    let j = c.loop-j-2.j in
    column_most body j (length body / 16) (get_or made.bytes j 0) (get_or made.sums j 0) c.loop-j-2-test.true
    c.loop-j-2.invariant.1 joined in
    omega (arith, most)

pub overflow_mul-sum-in-loop-j-2-2 : goal.overflow_mul-sum-in-loop-j-2-2
overflow_mul-sum-in-loop-j-2-2 c =
    let joined : Column c.args.body.now c.loop-j-2.j (length c.args.body.now / 16) (get_or c.loop-r.bytes c.loop-j-2.j 0) (get_or c.loop-r.sums c.loop-j-2.j 0) =
    c.loop-j-2.invariant.3 c.loop-j-2.j c.loop-j-2-test.true in
    omega (arith, joined.s_most)

pub overflow_sub-sum : goal.overflow_sub-sum
overflow_sub-sum c =
    let joined : Column c.args.body.now c.loop-j-2.j (length c.args.body.now / 16) (get_or c.loop-r.bytes c.loop-j-2.j 0) (get_or c.loop-r.sums c.loop-j-2.j 0) =
    c.loop-j-2.invariant.3 c.loop-j-2.j c.loop-j-2-test.true in
    omega (arith, joined.same)

pub loop-j-2-preserved : goal.loop-j-2-preserved
loop-j-2-preserved c =
    let joined : Column c.args.body.now c.loop-j-2.j (length c.args.body.now / 16) (get_or c.loop-r.bytes c.loop-j-2.j 0) (get_or c.loop-r.sums c.loop-j-2.j 0) =
    c.loop-j-2.invariant.3 c.loop-j-2.j c.loop-j-2-test.true in
    let most : (16 * (length c.args.body.now / 16) + 1 + c.loop-j-2.j) * get_or c.loop-r.bytes c.loop-j-2.j 0 ≤ 4308480 =
    let body = c.args.body.now in
    let made = c.loop-r in
    let j = c.loop-j-2.j in
    column_most body j (length body / 16) (get_or made.bytes j 0) (get_or made.sums j 0) c.loop-j-2-test.true
    c.loop-j-2.invariant.1 joined in
    let body = c.args.body.now in
    let made = c.loop-r in
    let l = c.loop-j-2 in
    let more =
    columns_more body (length body / 16) l.j (get_or made.bytes l.j 0) (get_or made.sums l.j 0) l.sum
    l.invariant.4 joined in (
      search rules,
      search rules,
      search rules,
      l.invariant.3,
      omega (arith, more),
      omega (arith, most),
    )

pub returns : goal.returns
returns c few =
    let body = c.args.body.now in
    let l = c.loop-j-2 in
    let e : l.j ≡ 16 = omega arith in
    ((rw e at l.invariant.4) ∙ columns_all body (length body / 16) (omega arith), omega arith)
