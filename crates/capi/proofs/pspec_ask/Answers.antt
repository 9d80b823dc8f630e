-- The number says what N3, N8 and N10 ask (`ask_promised`). Assumes nothing.
use Rattle.capi.specs.Packing.{reply_packed, asked_value}
use Rattle.capi.proofs.PackedLaws.{packs}
use Rattle.capi.proofs.Headline.{ask_promised}
use Rattle.capi.proofs.pspec_ask.Goals as goal

pub returns-clause-says : goal.returns-clause-says
unfolding reply_packed
returns-clause-says c =
    let a = c.args in
    ask_promised a.book.now a.user a.plan.now a.ledger.now a.tally.now a.holds.now _ _ _
    (packs asked_value c.ask.result _ c.pack.result c.pack.ensures c.ask.ensures.answer) c.ask.ensures.tally c.ask.ensures.holds c.ask.ensures.continues
