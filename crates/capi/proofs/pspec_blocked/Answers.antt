-- The number says what N1 asks (`blocked_says`). Assumes nothing.
use Rattle.capi.specs.Packing.{blocked_packed, blocked_value}
use Rattle.capi.proofs.PackedLaws.{packs}
use Rattle.capi.proofs.Headline.{blocked_says}
use Rattle.capi.proofs.pspec_blocked.Goals as goal

pub returns-clause-says : goal.returns-clause-says
unfolding blocked_packed
returns-clause-says c =
    let a = c.args in
    blocked_says a.book.now a.rule _ (packs blocked_value c.blocked.result _ c.pack.result c.pack.ensures c.blocked.ensures.answer)
