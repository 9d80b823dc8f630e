-- One user a turn (`Users`). Assumes nothing.
use Prim.Native.Nat.{◌-◌}
use Rattle.search.proofs.UserLaws.{Users}
use Rattle.search.proofs.users.first_user.Given as goal

abbrev pub invariant-loop-user : goal.invariant-loop-user
invariant-loop-user l = Users l.ask.tables.now l.ask.rule l.ask.references l.had l.covered l.masks l.user

abbrev pub decreases-loop-user : goal.decreases-loop-user
decreases-loop-user l = 32 - l.user
