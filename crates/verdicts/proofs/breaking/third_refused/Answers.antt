-- What the third offers beyond what is taken (`third_test`). Assumes nothing.
use Rattle.std.proofs.Common.{rules}
use Rattle.verdicts.proofs.ChoiceWords.{third_test}
use Rattle.verdicts.proofs.breaking.third_refused.Goals as goal

pub returns : goal.returns
returns c =
    let a = c.args in
    let took = c.taken_beside in
    third_test a.masks.now a.a a.b a.third took.result (search rules) took.type_inv took.ensures
