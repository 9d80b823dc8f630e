-- An absent restriction takes nothing; the mask of one that is there stands four times. Assumes nothing.
use Prim.Native.Nat.{◌%◌}
use native.Mathlib.Omega.{arith}
use Rattle.search.proofs.Fours.{four_same}
use Rattle.search.proofs.RuleWords.{takes_absent, takes_word}
use Rattle.search.proofs.tables.restriction_word.Goals as goal

pub returns-then-restriction_count-from : goal.returns-then-restriction_count-from
returns-then-restriction_count-from c p =
    takes_absent c.args.rule.now c.args.i
    c.args.j p (omega arith)

pub returns : goal.returns
returns c p =
    takes_word c.args.rule.now c.args.i c.args.j p c.four.result c.all_if_zero-mask.result
    c.restriction_mask.result (omega arith) c.restriction_mask.ensures.0
    (c.all_if_zero-mask.ensures c.restriction_mask.ensures.1)
    (four_same (λ m. c.all_if_zero-mask.result) c.four.result (p % 64) (omega arith)
    (c.four.ensures (p % 64) (omega arith)))
