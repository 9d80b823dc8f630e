-- Row by row, the bytes of the masks (`taken_row`). Assumes nothing.
use native.Mathlib.Omega.{arith}
use mathlib.Core.List.{[]}
use Rattle.std.proofs.Common.{rules}
use Rattle.verdicts.proofs.Masks.{taken_row}
use Rattle.verdicts.proofs.breaking.taken.Goals as goal

pub returns-then-rule-lt112 : goal.returns-then-rule-lt112
returns-then-rule-lt112 c long few = absurd (omega arith)

pub returns : goal.returns
returns c long few =
    record {
      eight = c.from_fn.ensures.items.long;
      masks_of =
          λ j i k lj li.
          let call = c.from_fn.ensures.items.at j [] lj in
          taken_row c.args.rule.now c.as_chunks.result.0.now c.from_fn.result c.restriction_count-n.result
          c.restriction_count-n.ensures.0 j i k long c.as_chunks.ensures.front lj li (λ h. search rules) (λ h. search rules);
    }
