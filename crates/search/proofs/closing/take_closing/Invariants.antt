-- One word a turn (`Mapped`); the law `without_places` reads the words as places. Assumes nothing.
use Rattle.std.proofs.Common.{◌≡◌, ℕ, ◌<◌, false, get_or}
use Rattle.search.proofs.PlaceLaws.{Mapped}
use Rattle.search.proofs.ClosingLaws.{without_closing}
use Rattle.search.proofs.closing.take_closing.Given as goal

abbrev pub invariant-loop-w : goal.invariant-loop-w
invariant-loop-w l =
    Mapped (without_closing l.t l.q l.masks) l.fn.set l.set l.w
    × (l.some ≡ false → (k : ℕ) → k < l.w → get_or l.set k 0 ≡ get_or l.fn.set k 0)
