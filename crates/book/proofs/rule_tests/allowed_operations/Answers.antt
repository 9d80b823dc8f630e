-- A mask never names operation 0, so bit 0 goes from the support: the law `allowed_present`. Assumes nothing.
use Prim.Native.Nat.{◌<◌}
use native.Mathlib.Omega.{arith}
use Rattle.book.specs.Rule.{reference_count, data_category}
use Rattle.book.specs.Head.{data_count}
use Rattle.book.proofs.References.{allowed_present, allowed_absent, category_known}
use Rattle.book.proofs.rule_tests.allowed_operations.Goals as goal

pub returns-then-from-reference_count : goal.returns-then-from-reference_count
returns-then-from-reference_count c head w held =
    let a = c.args in
    let n = c.reference_count in
    let i : a.i < reference_count a.rule.now = rw (n.ensures.0, c.from.ensures) at c.if-from-reference_count.true in
    let known : data_category a.rule.now a.i < data_count head = category_known head a.rule.now a.i held i in
    allowed_present head a.rule.now a.i c.support.result i
    ((rw c.data_category.ensures.0 at (c.support.ensures head w.told))
    (omega (arith, w.counts.categories)) known)
    c.support.type_inv

pub returns : goal.returns
returns c head w held =
    let a = c.args in
    allowed_absent head a.rule.now a.i (rw (c.reference_count.ensures.0, c.from.ensures) at c.if-from-reference_count.false)
