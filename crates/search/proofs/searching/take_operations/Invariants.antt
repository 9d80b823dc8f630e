-- One word a turn (`Mapped`). Assumes nothing.
use Rattle.std.proofs.Common.{◌-◌, ◌^◌, bit_and}
use Rattle.search.proofs.PlaceLaws.{Mapped}
use Rattle.search.proofs.searching.take_operations.Given as goal

abbrev pub invariant-loop-word : goal.invariant-loop-word
invariant-loop-word l = Mapped (λ k x. bit_and x ((2 ^ 64 - 1) - l.operations)) l.fn.set l.set l.word-index
