-- The members of the word are those of the mask (`departure_word`). Assumes nothing.
use native.Mathlib.Omega.{arith}
use mathlib.Core.Path.{ap, ◌∙◌}
use Rattle.editing.specs.Marks.{departure_marks}
use Rattle.editing.proofs.MarkingLaws.{departure_word}
use Rattle.editing.proofs.marking.departure_marks.Goals as goal

pub returns : goal.returns
returns c held accepted =
    let a = c.args in
    let before = c.below-before in
    departure_word a.book.now accepted c.from-word.result a.r before.result c.idle_among.result
    (omega arith) before.ensures (c.idle_among.ensures held accepted)
    ∙ ap (departure_marks a.book.now a.r) c.from-word.ensures
