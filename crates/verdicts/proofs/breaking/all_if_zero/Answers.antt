-- The two laws of a mask. Assumes nothing.
use Rattle.verdicts.proofs.Masks.{mask_zero, mask_other}
use Rattle.verdicts.proofs.breaking.all_if_zero.Goals as goal

pub returns-then-mask-eq0 : goal.returns-then-mask-eq0
returns-then-mask-eq0 c small k = mask_zero c.args.mask k c.if-mask-eq0.true

pub returns : goal.returns
returns c small k = mask_other c.args.mask k c.if-mask-eq0.false small
