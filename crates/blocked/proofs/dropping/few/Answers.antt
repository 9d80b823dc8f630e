-- One rule a turn, from the highest number down; what is left is what the trials leave. Assumes nothing.
use Prim.Native.Nat.{◌-◌}
use native.Mathlib.Omega.{arith}
use Rattle.blocked.proofs.DroppingLaws.{cut_told, few_left_law, one_given, turns_more, turns_none}
use borrow.Author.Rules.{rules}
use Rattle.blocked.proofs.dropping.few.Goals as goal

pub loop-q-init : goal.loop-q-init
loop-q-init c =
    let a = c.args in
    let t = a.tables.now in
    let d = a.denial in
    turns_none t.rules t.met _ d.first d.second d.third a.r a.rules

pub loop-q-preserved : goal.loop-q-preserved
loop-q-preserved c =
    let a = c.args in
    let t = a.tables.now in
    let d = a.denial in
    let loop = c.loop-q in
    let past = c.loop-q-test.true in
    let most = loop.auto.q in
    turns_more t.rules t.met _ d.first d.second d.third a.r a.rules (loop.q - 1) loop.q loop.left c.dropped-left.result
    (omega arith) (omega arith) loop.invariant c.dropped-left.ensures

pub returns : goal.returns
returns c passes given asking told q =
    let a = c.args in
    let t = a.tables.now in
    let d = a.denial in
    let one = c.single in
    let loop = c.loop-q in
    let past = c.loop-q-test.false in
    let thirds = c.only_cell-thirds in
    let alone = thirds.ensures given.cells.below.2 in
    let turned =
    loop.invariant passes
    (one_given t.rules t.met t.scope thirds.result d.first d.second d.third a.rules alone given) asking
    (cut_told t.rules t.met t.scope thirds.result d.first d.second d.third a.rules alone given a.r passes told) in
    few_left_law passes a.r a.rules loop.q loop.left one.result q (omega arith)
    (search rules) (search rules) (rw c.from.ensures at one.ensures) turned.1
