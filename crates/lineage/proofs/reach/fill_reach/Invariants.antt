-- Each turn stores the words of one row more: the law `reached_more`. Assumes nothing.
use Rattle.std.proofs.Common.{◌≡◌, length, replicate}
use Rattle.book.specs.Inner.Words.{HeadWords}
use Rattle.lineage.specs.Inner.Table.{PlanSound, Reached}
use Rattle.lineage.proofs.reach.fill_reach.Given as goal

abbrev pub invariant-loop-i : goal.invariant-loop-i
invariant-loop-i l =
    record {
      size : length l.reach ≡ 64;
      below :
          HeadWords l.head l.words → PlanSound l.head l.plan → l.initial.reach ≡ replicate 64 (replicate 17 0) → Reached l.head l.plan l.i l.reach;
    }
