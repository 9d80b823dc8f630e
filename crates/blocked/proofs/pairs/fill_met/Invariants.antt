-- One cell a turn (`CellsFilled`). Assumes nothing.
use Prim.Native.Nat.{◌≤◌}
use mathlib.Core.Path.{◌≡◌}
use lib.ListN.{length}
use Rattle.blocked.proofs.MetLaws.{CellsFilled}
use Rattle.blocked.proofs.pairs.fill_met.Given as goal

abbrev pub invariant-loop-c : goal.invariant-loop-c
invariant-loop-c l = (l.c ≤ 132) × (length l.met ≡ 132) × CellsFilled l.t l.c l.met
