-- Four bits, each sixteen times (`spread_leaves`). Assumes nothing.
use Rattle.search.proofs.RuleWords.{spread_leaves}
use Rattle.search.proofs.tables.spread.Goals as goal

pub returns : goal.returns
returns c i l = spread_leaves c.args.leaves i l
