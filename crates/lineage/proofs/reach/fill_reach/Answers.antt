-- Each turn stores the words of one row more: the law `reached_more`. Assumes nothing.
use Rattle.lineage.proofs.Steps.{reached_none}
use Rattle.lineage.proofs.reach.fill_reach.Goals as goal

pub loop-i-init : goal.loop-i-init
loop-i-init c = record {
  size = c.told-reach;
  below = λ held sound empty. rw empty (reached_none c.args.head.now c.args.plan.now);
}
