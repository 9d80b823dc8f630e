-- The parts' lengths (`line_length`). Assumes nothing.
use Rattle.trees.proofs.LineLaws.{line_length}
use Rattle.trees.proofs.lines.line_length.Goals as goal

pub returns-clause-length : goal.returns-clause-length
returns-clause-length c =
    let e = c.from.ensures in
    line_length c.args.plan.now c.args.node _ _ _ (rw e) c.digits.ensures.0 c.word.ensures.bytes
