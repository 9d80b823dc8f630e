-- The rules that cover the user, or none. Assumes nothing.
use Rattle.book.proofs.Members.{has_zero}
use Rattle.blocked.proofs.users.rules_for.Goals as goal

pub returns : goal.returns
returns c q = rw (← c.covers.ensures, c.if-covers.false) (has_zero q)
