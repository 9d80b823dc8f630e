-- The number says what N10 asks (`drop_promised`). Assumes nothing.
use Rattle.capi.specs.Packing.{settle_packed, number_value}
use Rattle.capi.proofs.PackedLaws.{packs}
use Rattle.capi.proofs.Headline.{drop_promised}
use Rattle.capi.proofs.pspec_drop.Goals as goal

pub returns-clause-says : goal.returns-clause-says
unfolding settle_packed
returns-clause-says c =
    let a = c.args in
    drop_promised a.book.now a.user a.number a.ledger.now a.tally.now _ a.holds.now _ _ c.ranges.number.fits
    (packs number_value c.drop_hold.result _ c.pack.result c.pack.ensures c.drop_hold.ensures.answer) c.drop_hold.ensures.tally c.drop_hold.ensures.holds c.drop_hold.ensures.continues
