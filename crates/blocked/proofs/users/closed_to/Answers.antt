-- The user's rules are in a set that leaves the row open, or the row is searched. Assumes nothing.
use mathlib.Core.Path.{sym, ◌∙◌}
use lib.Bits.{bit_and}
use lib.ListN.{set}
use borrow.Author.Rules.{rules}
use Rattle.blocked.proofs.UserLaws.{opened_or, part_prepared, sets_set, settled_open}
use Rattle.blocked.proofs.users.closed_to.Goals as goal

pub returns-then-settled : goal.returns-then-settled
returns-then-settled c given free =
    let a = c.args in
    let t = a.tables.now in
    record {
      free = free;
      first =
          settled_open t.rules t.scope a.row.first a.row.second a.trials.now.opened (bit_and t.all a.rules) (search rules)
          (sym c.settled.ensures ∙ c.if-settled.true) free;
    }

pub returns-then-settled-2 : goal.returns-then-settled-2
returns-then-settled-2 c given free =
    let a = c.args in
    let t = a.tables.now in
    let l = a.row.first in
    let m = a.row.second in
    let opened = opened_or t.rules t.scope l m c.open_under-open.result (c.open_under-open.ensures given) in
    let sets =
    sets_set t.rules t.scope l m a.trials.now.opened c.from-at.result c.unwrap_or.result free (rw c.unwrap_or.ensures opened) in
    record {
      free = sets;
      first =
          settled_open t.rules t.scope l m (set a.trials.now.opened c.from-at.result c.unwrap_or.result)
          (bit_and t.all a.rules) (search rules)
          (sym c.settled-2.ensures ∙ c.if-settled-2.true) sets;
    }

pub returns-in-Some : goal.returns-in-Some
returns-in-Some c given free =
    let a = c.args in
    let t = a.tables.now in
    let l = a.row.first in
    let m = a.row.second in
    let opened = opened_or t.rules t.scope l m c.open_under-open.result (c.open_under-open.ensures given) in
    record {
      free =
          sets_set t.rules t.scope l m a.trials.now.opened c.from-at.result c.unwrap_or.result free
          (rw c.unwrap_or.ensures opened);
      first =
          rw c.in-Some.is at
          (c.closed_third.ensures (part_prepared t.rules t.met t.scope t.all a.rules given.prepared) given.there);
    }

pub returns-in-None : goal.returns-in-None
returns-in-None c given free =
    let a = c.args in
    let t = a.tables.now in
    let l = a.row.first in
    let m = a.row.second in
    let opened = opened_or t.rules t.scope l m c.open_under-open.result (c.open_under-open.ensures given) in
    let none =
    rw c.in-None.is at
    (c.closed_third.ensures (part_prepared t.rules t.met t.scope t.all a.rules given.prepared) given.there) in
    record {
      free =
          c.add_rules.ensures given none
          (sets_set t.rules t.scope l m a.trials.now.opened c.from-at.result c.unwrap_or.result free
          (rw c.unwrap_or.ensures opened));
      first = none;
    }
