-- Three parts one after another (`line_laid`). Assumes nothing.
use Prim.Native.Nat.{◌*◌}
use native.Mathlib.Omega.{arith}
use mathlib.Core.Path.{◌∙◌, ap}
use lib.ListN.{replicate}
use Rattle.std.proofs.Common.{length-take-le}
use Rattle.trees.proofs.LineLaws.{decimal_last, line_laid, line_length}
use Rattle.trees.proofs.lines.write_line.Goals as goal

pub returns-then-text-end-clause-line : goal.returns-then-text-end-clause-line
returns-then-text-end-clause-line c room =
    let e = c.from-spaces.ensures in
    let l =
    line_length c.args.plan.now c.args.node (2 * c.from-spaces.result) _ _ (rw e) c.digits-digits.ensures.0 c.word-word.ensures.bytes in
    absurd (omega arith)

pub returns-clause-line : goal.returns-clause-line
returns-clause-line c room =
    let e = c.from-spaces.ensures in
    let d = c.digits-digits.ensures.0 in
    let w = c.word-word.ensures.bytes in
    let spaces = 2 * c.from-spaces.result in
    let n = length-take-le spaces c.args.text.now (omega arith) in
    let l = line_length c.args.plan.now c.args.node spaces _ _ (rw e) d w in (
      rw c.copy_from_slice-2.ensures.after
          (line_laid c.args.plan.now c.args.node spaces _ _ (rw e) d w c.args.text.now _ _ _ _
          (c.fill.ensures.after (λ y h. h) ∙ ap (λ k. replicate k 32) n)
          (c.copy_from_slice.ensures.after ∙ decimal_last _ _ d)
          (omega arith) (omega arith)),
      omega arith,
    )
