-- What is left of the row, and its first place: `third_none`, `third_made`. Assumes nothing.
use native.Mathlib.Omega.{arith}
use Rattle.blocked.specs.Inner.Tables.{with_thirds}
use Rattle.blocked.proofs.TripleLaws.{third_made, third_none}
use Rattle.blocked.proofs.searching.closed_third.Goals as goal

pub returns-in_err-x : goal.returns-in_err-x
returns-in_err-x c given there =
    let a = c.args in
    let t = a.tables.now in
    let rest = c.closed_row-rest in
    let first = rw c.in_err-x.was at (c.first_from.ensures.first (omega arith)) in
    rw c.from_residual.ensures
    (third_none t.rules (with_thirds t.scope a.thirds.now) a.rules a.row.first a.row.second rest.result
    (rest.ensures there.below.0 there.below.1 given) 2112 first (omega arith))

pub returns : goal.returns
returns c given there =
    let a = c.args in
    let t = a.tables.now in
    let rest = c.closed_row-rest in
    let first = rw c.in_ok-x.was at (c.first_from.ensures.first (omega arith)) in
    let small = rw c.in_ok-x.was at c.first_from.ensures.there in
    third_made t.rules (with_thirds t.scope a.thirds.now) a.rules a.row.first a.row.second rest.result
    (rest.ensures there.below.0 there.below.1 given) c.in_ok-x.x first small
    (record { below = there.below; first = there.first; second = there.second })
