-- One user a turn: the row is open to those before it. Assumes nothing.
use native.Mathlib.Omega.{arith}
use mathlib.Core.Path.{refl, sym, ◌∙◌}
use lib.ListN.{get_or-replicate, replicate}
use borrow.Author.Count.{below_more}
use Rattle.blocked.specs.Inner.Rows.{RowOpen, own_of}
use Rattle.blocked.proofs.UserLaws.{all_open, opened_or, sets_none, sets_set}
use borrow.Author.Rules.{rules}
use Rattle.blocked.proofs.users.denied_in.Goals as goal

pub returns-then-all_settled : goal.returns-then-all_settled
returns-then-all_settled c given small v k =
    let a = c.args in
    let t = a.tables.now in
    let l = a.row.first in
    let m = a.row.second in
    all_open t.rules t.scope l m t.all a.own.now c.unwrap_or-every.result v (sym c.all_settled.ensures ∙ c.if-all_settled.true)
    (omega (arith, c.told-own))
    (rw c.unwrap_or-every.ensures (opened_or t.rules t.scope l m c.open_under-open.result (c.open_under-open.ensures given)))

pub loop-u-init : goal.loop-u-init
loop-u-init c =
    let a = c.args in
    let t = a.tables.now in
    let l = a.row.first in
    let m = a.row.second in (
      omega arith,
      λ given. (
        sets_set t.rules t.scope l m (replicate 33 0) 32 c.unwrap_or-every.result
            (sets_none t.rules t.scope l m (replicate 33 0) (λ i. get_or-replicate 33 i 0 0))
            (rw c.unwrap_or-every.ensures (opened_or t.rules t.scope l m c.open_under-open.result (c.open_under-open.ensures given))),
        λ v k. absurd (omega arith),
      ),
    )

pub returns-in-Some : goal.returns-in-Some
returns-in-Some c given small =
    let test = c.loop-u-test.true in
    let bound = c.min-u-end.ensures in
    let old = c.loop-u.invariant.1 given in
    let told = rw c.from.ensures at (c.closed_to.ensures given old.0).first in
    record {
      below = search rules;
      first = refl;
      second = refl;
      open_before = old.1;
      shut = rw c.in-Some.is at told;
    }

pub loop-u-preserved : goal.loop-u-preserved
loop-u-preserved c = (
  search rules,
  λ given.
      let a = c.args in
      let t = a.tables.now in
      let old = c.loop-u.invariant.1 given in
      let told = c.closed_to.ensures given old.0 in
      let mine = rw c.from.ensures at told.first in (
        told.free,
        below_more (λ v. RowOpen t.rules (own_of t.all a.own.now v) t.scope a.row.first a.row.second) c.loop-u.u old.1
            (rw c.in_default.is at mine),
      ),
)

pub returns : goal.returns
returns c given small v k = (c.loop-u.invariant.1 given).1 v (search rules)
