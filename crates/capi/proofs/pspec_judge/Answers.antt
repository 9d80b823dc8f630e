-- The number says what demand 2 asks (`judge_says`). Assumes nothing.
use Rattle.capi.specs.Packing.{judge_packed, judge_value}
use Rattle.capi.proofs.PackedLaws.{packs}
use Rattle.capi.proofs.Headline.{judge_says}
use Rattle.capi.proofs.pspec_judge.Goals as goal

pub returns-clause-says : goal.returns-clause-says
unfolding judge_packed
returns-clause-says c =
    let a = c.args in
    judge_says a.book.now a.user a.plan.now _ (packs judge_value c.judge.result _ c.pack.result c.pack.ensures c.judge.ensures.answer)
