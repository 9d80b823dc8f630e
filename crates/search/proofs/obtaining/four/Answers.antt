-- Four masks, one above the other: the law `four_masks`. Assumes nothing.
use Rattle.search.proofs.Fours.{four_masks}
use Rattle.search.proofs.obtaining.four.Goals as goal

pub returns : goal.returns
returns c i l = four_masks c.args.a c.args.b c.args.c c.args.d i l
