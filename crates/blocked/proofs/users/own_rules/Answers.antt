-- One user a turn (`Filled`). Assumes nothing.
use native.Mathlib.Omega.{arith}
use Rattle.lineage.proofs.Tables.{fill_none, fill_more}
use borrow.Author.Rules.{rules}
use Rattle.blocked.proofs.users.own_rules.Goals as goal

pub loop-u-init : goal.loop-u-init
loop-u-init c = fill_none (search rules)

pub loop-u-preserved : goal.loop-u-preserved
loop-u-preserved c = rw c.from.ensures (fill_more c.loop-u.invariant c.loop-u-test.true c.rules_for.ensures)

pub returns : goal.returns
returns c u q l = c.loop-u.invariant.at u (omega arith) q
