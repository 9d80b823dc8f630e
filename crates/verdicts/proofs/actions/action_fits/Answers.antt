-- One arm for each case of the definition. Assumes nothing.
use Rattle.verdicts.specs.Actions.{action_fits}
use Rattle.verdicts.proofs.actions.action_fits.Goals as goal

pub returns-in-Projection-names : goal.returns-in-Projection-names
unfolding action_fits
returns-in-Projection-names c = rw (c.in-Projection.is, c.in-Projection-names.is)

pub returns-in-Condition-names : goal.returns-in-Condition-names
unfolding action_fits
returns-in-Condition-names c = rw (c.in-Projection.is, c.in-Condition-names.is)

pub returns-in-Access : goal.returns-in-Access
unfolding action_fits
returns-in-Access c = rw (c.in-Projection.is, c.in-Access.is)

pub returns-in-Projection-names-2 : goal.returns-in-Projection-names-2
unfolding action_fits
returns-in-Projection-names-2 c = rw (c.in-Condition.is, c.in-Projection-names-2.is)

pub returns-in-Condition-names-2 : goal.returns-in-Condition-names-2
unfolding action_fits
returns-in-Condition-names-2 c = rw (c.in-Condition.is, c.in-Condition-names-2.is)

pub returns-in-Access-names : goal.returns-in-Access-names
unfolding action_fits
returns-in-Access-names c = rw (c.in-Condition.is, c.in-Access-names.is)
