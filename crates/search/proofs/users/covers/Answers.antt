-- Past the words no rule covers. Assumes nothing.
use borrow.Author.Rules.{rules}
use borrow.Author.Tests.{le-ltb}
use Rattle.search.proofs.UserLaws.{covers_past}
use Rattle.search.proofs.users.covers.Goals as goal

pub returns-else-q-lt32 : goal.returns-else-q-lt32
returns-else-q-lt32 c =
    let a = c.args in
    rw (le-ltb a.q 32 c.if-q-lt32.false) (covers_past a.covered.now a.q a.u (search rules) c.if-q-lt32.false)
