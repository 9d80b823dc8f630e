-- One pass collects the parents; the leaves are the other numbers below the count. Assumes nothing.
use Prim.Native.Nat.{◌-◌, ◌^◌}
use lib.Bits.{bit_and}
use Rattle.book.specs.Inner.Reading.{parent_in}
use Rattle.book.proofs.Members.{has_minus, has_zero}
use Rattle.book.proofs.Hierarchies.{named_none, named_more, named_end}
use Rattle.book.proofs.categories.leaves.Goals as goal

pub loop-i-init : goal.loop-i-init
loop-i-init c =
    let a = c.args in
    (c.count-n.ensures.1, named_none (parent_in a.which a.head.now) c.count-n.result has_zero)

pub loop-i-preserved : goal.loop-i-preserved
loop-i-preserved c =
    let a = c.args in
    let n = c.count-n in
    let l = c.loop-i in
    let p = c.parent-p in
    let next = c.with_parent-parents in (
      l.invariant.0,
      named_more (parent_in a.which a.head.now) n.result l.i p.result l.parents next.result
          l.invariant.1 c.loop-i-test.true next.type_inv p.ensures.0 next.ensures,
    )

pub returns : goal.returns
returns c =
    let a = c.args in
    let l = c.loop-i in
    let n = c.count-n in
    rw (← n.ensures.0)
    (named_end (parent_in a.which a.head.now) n.result l.i l.parents c.below.result
    (bit_and c.below.result ((2 ^ 64 - 1) - l.parents)) l.invariant.1 c.loop-i-test.false c.below.ensures
    (λ i. has_minus 64 c.below.result l.parents i c.below.type_inv l.invariant.1.fits))
