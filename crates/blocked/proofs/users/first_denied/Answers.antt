-- One first cell a turn (`RowsUpTo`). Assumes nothing.
use Prim.Native.Nat.{◌*◌}
use native.Mathlib.Omega.{arith}
use Rattle.blocked.proofs.UserLaws.{denied_first, rows_none}
use borrow.Author.Rules.{rules}
use Rattle.blocked.proofs.users.first_denied.Goals as goal

pub loop-l-init : goal.loop-l-init
loop-l-init c =
    let t = c.args.tables.now in
    (search rules, λ given. rows_none t.rules t.all t.scope c.own_rules-own.result)

pub loop-l-preserved : goal.loop-l-preserved
loop-l-preserved c =
    let loop = c.loop-l in
    let below = c.loop-l-test.true in
    (omega arith, λ given. c.denied_beside-found.ensures given below (loop.invariant.1 given))

pub returns : goal.returns
returns c ready =
    let a = c.args in
    let t = a.tables.now in
    let own = c.own_rules-own in
    let loop = c.loop-l in
    let past = c.loop-l-test.false in
    denied_first t.rules t.met a.r t.all t.scope t.covered own.result ready own.ensures
    (132 * loop.l) (omega arith) loop.found (loop.invariant.1 ready.prepared)
