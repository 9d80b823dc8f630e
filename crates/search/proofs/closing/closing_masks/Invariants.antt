-- One order a turn (`Masking`). Assumes nothing.
use Rattle.std.proofs.Common.{◌≡◌}
use Rattle.search.specs.Inner.Closing.{orders}
use Rattle.search.proofs.ClosingLaws.{Masking}
use Rattle.search.proofs.closing.closing_masks.Given as goal

abbrev pub invariant-loop-i : goal.invariant-loop-i
invariant-loop-i l = (l.i-items ≡ orders) × Masking l.t l.q l.b l.c l.masks l.i-index
