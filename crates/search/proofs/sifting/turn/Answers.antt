-- Nothing of the set breaks the rule, or some place is taken. Assumes nothing.
use Rattle.search.specs.Inner.Closing.{remaining}
use Rattle.search.proofs.Sieves.{kept_closes, turn_none, turn_some}
use Rattle.search.proofs.sifting.turn.Goals as goal

pub returns-then-take_closing : goal.returns-then-take_closing
returns-then-take_closing c b d small made =
    let a = c.args in
    let taken = c.take_closing in
    turn_some a.t.now a.q b d c.single.result a.q (remaining a.set.now a.takers.now) taken.new.set small
    (rw c.from.ensures at c.single.ensures) (kept_closes a.t.now a.q b d a.masks.now made a.set.now taken.new.set taken.ensures.rest)

pub returns-else-take_closing : goal.returns-else-take_closing
returns-else-take_closing c b d small made =
    let a = c.args in
    let taken = c.take_closing in
    turn_none a.t.now a.q b d (remaining a.set.now a.takers.now) taken.new.set (taken.ensures.same c.if-take_closing.false)
    (kept_closes a.t.now a.q b d a.masks.now made a.set.now taken.new.set taken.ensures.rest)
