-- The trailing zeros of a word are its lowest member: the laws of PlaceLaws. Assumes nothing.
use native.Mathlib.Omega.{arith}
use lib.Count.{trailing_le}
use Rattle.search.proofs.PlaceLaws.{trailing_member, trailing_skips}
use Rattle.search.proofs.places.lowest.Goals as goal

pub overflow_cast-result : goal.overflow_cast-result
overflow_cast-result c = omega (arith, trailing_le 64 c.args.word)

pub returns : goal.returns
returns c =
    let w = c.args.word in
    record {
      bound = trailing_le 64 w;
      member = trailing_member 64 w c.ranges.word.fits;
      skipped = trailing_skips 64 w;
    }
