-- A mask lies within a set when nothing is left of it outside: the law `subset_test`. Assumes nothing.
use native.Mathlib.Omega.{arith}
use Rattle.book.proofs.Members.{subset_test}
use Rattle.book.proofs.rule_tests.mask_holds.Goals as goal

pub returns : goal.returns
returns c =
    let a = c.args in
    rw (← c.restriction_mask.ensures.0)
    (subset_test 16 64 c.restriction_mask.result a.allowed (omega arith) c.restriction_mask.ensures.1
    c.ranges.allowed.fits)
