-- After k turns the sum is the length of the first k lines (`lines_length`). Assumes nothing.
use native.Mathlib.Omega.{arith}
use mathlib.Core.Path.{sym, ap, ◌∙◌}
use lib.ListN.{length}
use lib.Seq.{take_all}
use Rattle.std.proofs.Common.{length-take-le}
use Rattle.trees.specs.Text.{text_of}
use Rattle.trees.proofs.TextLaws.{lines_length, text_none}
use Rattle.trees.proofs.lines.text_length.Goals as goal

pub loop-node-init : goal.loop-node-init
loop-node-init c = (omega arith, sym (ap length (text_none _)))

pub overflow_add-sum : goal.overflow_add-sum
overflow_add-sum c =
    let most = c.min.ensures in
    let few = length-take-le c.min.result c.args.nodes.now (omega arith) in
    let sum = c.loop-node.invariant.0 in
    let line = c.line_length-sum.ensures.few in
    omega arith

pub loop-node-preserved : goal.loop-node-preserved
loop-node-preserved c =
    let l = c.loop-node in
    let line = c.line_length-sum.ensures.few in
    (omega arith, lines_length _ _ l.node-index _ (omega arith) _ _ l.invariant.1 c.line_length-sum.ensures.length)

pub returns-clause-length : goal.returns-clause-length
returns-clause-length c few =
    let l = c.loop-node in
    let most = c.min.ensures in
    l.invariant.1
    ∙ ap (λ ns. length (text_of c.args.plan.now ns))
    (take_all l.node-index _ c.loop-node-test.false ∙ take_all c.min.result c.args.nodes.now (omega arith))

pub returns-clause-few : goal.returns-clause-few
returns-clause-few c =
    let most = c.min.ensures in
    let few = length-take-le c.min.result c.args.nodes.now (omega arith) in
    omega (arith, c.loop-node.auto.node-index-end, c.loop-node.invariant.0)
