-- One second cell a turn (`RowsUpTo`). Assumes nothing.
use Prim.Native.Nat.{◌+◌, ◌*◌}
use native.Mathlib.Omega.{arith}
use mathlib.Core.Path.{◌≡◌, sym, ◌∙◌}
use borrow.Author.Tests.{not-true, not-false}
use Rattle.search.proofs.Sieves.{both}
use Rattle.blocked.proofs.UserLaws.{rows_absent, rows_skip}
use borrow.Author.Rules.{rules}
use Rattle.blocked.proofs.users.denied_beside.Goals as goal

pub returns-then-not-has_cell : goal.returns-then-not-has_cell
returns-then-not-has_cell c given small old =
    let a = c.args in
    let cell = c.has_cell in
    let t = a.tables.now in
    rows_skip t.rules t.all t.scope a.own.now a.l a.before
    (sym (cell.ensures small) ∙ not-true cell.result c.if-not-has_cell.true-raw) old

pub loop-m-init : goal.loop-m-init
loop-m-init c =
    let a = c.args in
    let e : 132 * a.l + 0 ≡ 132 * a.l = omega arith in
    (search rules, λ given small old. rw e old)

pub loop-m-preserved-then-not-has_cell-2 : goal.loop-m-preserved-then-not-has_cell-2
loop-m-preserved-then-not-has_cell-2 c =
    let a = c.args in
    let loop = c.loop-m in
    let below = c.loop-m-test.true in
    let cell = c.has_cell-in-loop-m in (
      omega arith,
      λ given small old.
          let t = a.tables.now in
          rows_absent t.rules t.all t.scope a.own.now a.l loop.m below loop.found
          (λ there.
          both there.second (sym (cell.ensures below) ∙ not-true cell.result c.if-not-has_cell-2.true-raw))
          small (loop.invariant.1 given small old),
    )

pub loop-m-preserved : goal.loop-m-preserved
loop-m-preserved c =
    let a = c.args in
    let loop = c.loop-m in
    let below = c.loop-m-test.true in
    let second = c.has_cell-in-loop-m in
    let first = c.has_cell in (
      omega arith,
      λ given small old.
          c.denied_by_row-found.ensures
          (record {
            prepared = given;
            there =
                record {
                  below = (small, below);
                  first =
                      sym (first.ensures small)
                      ∙ not-false first.result c.if-not-has_cell.false-raw;
                  second = sym (second.ensures below) ∙ not-false second.result c.if-not-has_cell-2.false-raw;
                };
          })
          (loop.invariant.1 given small old),
    )

pub returns : goal.returns
returns c given small old =
    let a = c.args in
    let loop = c.loop-m in
    let past = c.loop-m-test.false in
    let e : 132 * a.l + loop.m ≡ 132 * (a.l + 1) = omega arith in
    rw e at (loop.invariant.1 given small old)
