-- By cases on the block's number. Assumes nothing.
use native.Mathlib.Omega.{arith}
use Rattle.book.specs.Refusals.{kind_holds}
use Rattle.book.proofs.Tests.{kind_rule}
use Rattle.book.proofs.checking.kind_holds.Goals as goal

pub returns-in-0 : goal.returns-in-0
unfolding kind_holds
returns-in-0 c = rw c.in-0.is

pub returns-in-1 : goal.returns-in-1
unfolding kind_holds
returns-in-1 c = rw c.in-1.is

pub returns-in-2 : goal.returns-in-2
unfolding kind_holds
returns-in-2 c = rw c.in-2.is

pub returns-in-3 : goal.returns-in-3
unfolding kind_holds
returns-in-3 c = rw c.in-3.is

pub returns-in_default : goal.returns-in_default
returns-in_default c = kind_rule c.args.i c.args.kind (omega arith)
