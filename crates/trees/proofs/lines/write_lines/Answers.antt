-- After k turns the first k lines are written (`lines_written`). Assumes nothing.
use native.Mathlib.Omega.{arith}
use mathlib.Core.Path.{refl, ◌∙◌, ap}
use lib.ListN.{length, drop, length-drop}
use Prim.Native.Nat.{◌-◌}
use lib.Seq.{take_all}
use borrow.Rule.Slice.PartMut.{same_len_mid}
use Rattle.trees.specs.Text.{text_of}
use Rattle.trees.specs.Answers.{written}
use Rattle.trees.proofs.TextLaws.{lines_written, text_none}
use Rattle.trees.proofs.lines.write_lines.Goals as goal

pub loop-node-init : goal.loop-node-init
unfolding written
loop-node-init c = (omega arith, λ room. rw (text_none c.args.plan.now) (refl, refl))

pub loop-node-preserved : goal.loop-node-preserved
loop-node-preserved c =
    let l = c.loop-node in
    let w = c.write_line-at in
    let whole = same_len_mid l.at (length l.buffer - l.at) l.buffer w.new.text w.auto.text in
    let past = length-drop l.at l.buffer in
    let rest = ap length (take_all (length l.buffer - l.at) (drop l.at l.buffer) (omega (arith, past))) in (
      omega arith,
      λ room. lines_written c.args.plan.now _ l.node-index _ (omega arith) c.args.buffer.now l.buffer _ l.at _ _
          l.auto.buffer l.invariant.0 refl room (l.invariant.1 room) w.ensures.line,
    )

pub returns : goal.returns
returns c room =
    let l = c.loop-node in
    let all = take_all l.node-index _ c.loop-node-test.false in
    (l.invariant.1 room).0 ∙ ap (λ ns. written (text_of c.args.plan.now ns) c.args.buffer.now) all
