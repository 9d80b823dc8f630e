-- The number says what N11 asks (`arrive_promised`). Assumes nothing.
use mathlib.Core.Path.{ap, ◌∙◌}
use Rattle.capi.specs.Packing.{edit_packed}
use Rattle.capi.proofs.Edits.{arrive_promised}
use Rattle.capi.proofs.pspec_arrive.Goals as goal

pub returns-clause-says : goal.returns-clause-says
returns-clause-says c =
    let a = c.args in
    let said = c.arrive.ensures in
    arrive_promised a.blocks.now a.rules.now a.marks.now a.block.now _ _ _ _
    (c.pack_edit.ensures ∙ ap edit_packed said.answer) said.blocks said.rules said.marks said.says said.continues
