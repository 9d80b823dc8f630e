-- A member of the later rules is one of the rules. Assumes nothing.
use Rattle.search.proofs.Sieves.{later_member}
use Rattle.search.proofs.sifting.next_after.Goals as goal

pub returns-then-later-ne0 : goal.returns-then-later-ne0
returns-then-later-ne0 c =
    let a = c.args in
    let low = c.lowest.ensures.member c.if-later-ne0.true in (
      c.lowest.ensures.bound,
      λ some. (low.0, later_member a.rules c.below.result c.lowest.result low.1),
    )
