-- The number says what demand 3 asks (`idle_promised`). Assumes nothing.
use Rattle.capi.specs.Packing.{idle_packed, idle_value}
use Rattle.capi.proofs.PackedLaws.{packs}
use Rattle.capi.proofs.Headline.{idle_promised}
use Rattle.capi.proofs.pspec_idle.Goals as goal

pub returns-clause-says : goal.returns-clause-says
unfolding idle_packed
returns-clause-says c =
    let a = c.args in
    idle_promised a.book.now a.rule a.buffer.now _ _ (packs idle_value c.idle.result _ c.pack.result c.pack.ensures c.idle.ensures.answer) c.idle.ensures.buffer
