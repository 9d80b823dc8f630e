use Rattle.book.proofs.Members.{with_other}
use Rattle.book.proofs.sets.with.Goals as goal

pub returns-clause-others : goal.returns-clause-others
returns-clause-others c k d = with_other c.args.set c.single.result c.args.i c.single.ensures k d
