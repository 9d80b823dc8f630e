-- What is left of the buffer falls. Assumes nothing.
use Rattle.std.proofs.Common.{length, ◌-◌}
use Rattle.policyreport.proofs.fill.Given as goal

abbrev pub decreases-loop-filled : goal.decreases-loop-filled
decreases-loop-filled g l = length l.initial.buffer - l.filled
