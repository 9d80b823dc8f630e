-- The sets stay as they are until one is written. Assumes nothing.
use mathlib.Core.Path.{◌≡◌}
use Rattle.blocked.proofs.users.add_rules.Given as goal

abbrev pub invariant-loop-d : goal.invariant-loop-d
invariant-loop-d l = l.trials.opened ≡ l.initial.trials.opened
