-- The operations that are left out (`raw_only`, `raw_out`). Assumes nothing.
use Prim.Native.Nat.{◌-◌, ◌%◌, ◌^◌}
use native.Mathlib.Omega.{arith}
use mathlib.Core.Path.{◌≡◌}
use Rattle.search.proofs.WeightLaws.{parted_by, raw_only, raw_out}
use borrow.Author.Rules.{rules}
use Rattle.search.proofs.weighing.part.Goals.{then-pattern-eq0, else-pattern-eq0}
use Rattle.search.proofs.weighing.part.Goals as goal

pub returns : goal.returns
returns c =
    let set = c.args.set.now in
    let taken = c.take_operations in
    elim c.if-pattern-eq0.branch [
      | then-pattern-eq0 w ↦ rw w.if-pattern-eq0.true
          (parted_by set taken.new.set ((2 ^ 64 - 1) - 281479271743489) 0 (search rules) (search rules) raw_only
          (rw w.take_operations-is at taken.ensures))
      | else-pattern-eq0 w ↦
          let e : c.args.pattern % 2 ≡ 1 = omega (arith, w.if-pattern-eq0.false) in
          rw e
          (parted_by set taken.new.set 281479271743489 1 (search rules) (search rules) raw_out
          (rw w.take_operations-is at taken.ensures))
    ]
