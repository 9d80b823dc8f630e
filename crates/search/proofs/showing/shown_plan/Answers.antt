-- The rows for three places, one after the other: the law `plan_shown`. Assumes nothing.
use Rattle.search.proofs.PlanWriting.{plan_shown}
use Rattle.search.proofs.showing.shown_plan.Goals as goal

pub returns : goal.returns
returns c =
    let a = c.args in
    let p = a.places in
    let one = c.rows_at-one in
    let more = c.rows_at in
    let first = c.write_access in
    let second = c.write_access-2 in
    let third = c.write_access-3 in
    plan_shown a.head.now first.new.plan second.new.plan third.new.plan p.first p.second p.third one.result
    more.result one.ensures.0 more.ensures.0 first.ensures second.ensures third.ensures
