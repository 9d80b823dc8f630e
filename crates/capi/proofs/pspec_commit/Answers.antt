-- The number says what N10 asks (`commit_promised`). Assumes nothing.
use Rattle.capi.specs.Packing.{settle_packed, number_value}
use Rattle.capi.proofs.PackedLaws.{packs}
use Rattle.capi.proofs.Headline.{commit_promised}
use Rattle.capi.proofs.pspec_commit.Goals as goal

pub returns-clause-says : goal.returns-clause-says
unfolding settle_packed
returns-clause-says c =
    let a = c.args in
    commit_promised a.book.now a.user a.number a.ledger.now _ a.tally.now _ a.holds.now _ _ c.ranges.number.fits
    (packs number_value c.commit.result _ c.pack.result c.pack.ensures c.commit.ensures.answer) c.commit.ensures.tally c.commit.ensures.holds c.commit.ensures.ledger c.commit.ensures.continues
