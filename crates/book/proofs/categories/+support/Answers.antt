-- The category falls at each call; the laws `support_lower` and `support_top` are the two cases. Assumes nothing.
use native.Mathlib.Nat.{lt_of_le_of_lt}
use native.Mathlib.Omega.{arith}
use lib.Bits.{or_lt, and_le_l}
use Rattle.book.proofs.Support.{support_lower, support_top}
use Rattle.book.proofs.categories.+support.Goals as goal

pub returns-then-p-from : goal.returns-then-p-from
returns-then-p-from t c =
    let a = c.args in
    let own = c.own_operations-own in
    let p = c.parent-p in
    let withdrawn = c.withdrawn_operations-withdrawn in
    let above = c.support in (
      support_lower a.head.now a.d own.result p.result own.ensures.0 p.ensures.0
          withdrawn.result above.result (rw c.from.ensures at c.if-p-from.true) withdrawn.ensures.0 (omega arith)
          above.ensures.0 (omega arith),
      or_lt 16 _ own.result (lt_of_le_of_lt (and_le_l _ _) above.ensures.1) own.ensures.1,
    )

pub returns : goal.returns
returns t c =
    let a = c.args in
    let own = c.own_operations-own in
    let p = c.parent-p in (
      support_top a.head.now a.d own.result p.result own.ensures.0 p.ensures.0 (rw c.from.ensures at c.if-p-from.false),
      own.ensures.1,
    )
