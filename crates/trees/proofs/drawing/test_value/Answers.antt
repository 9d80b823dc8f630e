-- The row is there, and of kind 1 to 3. Assumes nothing.
use mathlib.Core.Path.{refl, ◌∙◌}
use Rattle.trees.proofs.TreeAnswers.{value_joined}
use Rattle.trees.proofs.drawing.test_value.Goals as goal

pub returns : goal.returns
returns c =
    value_joined _ _ c.from-kind.result _ _ _ (c.from-kind.ensures ∙ c.byte_at.ensures) refl c.is_value.ensures
    c.ensure.ensures
