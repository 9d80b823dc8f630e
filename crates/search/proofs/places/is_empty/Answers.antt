-- Words that equal zeros are zeros. Assumes nothing.
use Rattle.std.proofs.Common.{rules, ◌≡◌}
use lib.ListN.{replicate}
use Rattle.search.proofs.PlaceLaws.{zero_words}
use Rattle.search.proofs.places.is_empty.Goals as goal

pub returns : goal.returns
returns c e w =
    let zeros : c.args.set.now ≡ replicate 33 0 = search rules in
    rw (zeros, zero_words 33 w)
