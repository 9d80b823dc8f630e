-- The words of the record do not matter.
use Rattle.ledger.proofs.Holds.is_held_by.Goals as goal

pub returns : goal.returns
returns c = c.held_at.ensures c.args.self.now.words
