-- The number says what N11 asks (`depart_promised`). Assumes nothing.
use mathlib.Core.Path.{ap, ◌∙◌}
use Rattle.capi.specs.Packing.{edit_packed}
use Rattle.capi.proofs.Edits.{depart_promised}
use Rattle.capi.proofs.pspec_depart.Goals as goal

pub returns-clause-says : goal.returns-clause-says
returns-clause-says c =
    let a = c.args in
    let said = c.depart.ensures in
    depart_promised a.blocks.now a.rules.now a.marks.now a.rule _ _ _ _
    (c.pack_edit.ensures ∙ ap edit_packed said.answer) said.blocks said.rules said.marks said.says said.continues
