-- The members of the word are those of the mask (`arrival_word`). Assumes nothing.
use native.Mathlib.Omega.{arith}
use mathlib.Core.Path.{ap, ◌∙◌}
use Rattle.editing.specs.Marks.{arrival_marks}
use Rattle.editing.proofs.MarkingLaws.{arrival_word}
use Rattle.editing.proofs.marking.arrival_marks.Goals as goal

pub returns : goal.returns
returns c held accepted count =
    let a = c.args in
    let low = c.below in
    let high = c.below-2 in
    arrival_word a.book.now accepted c.from.result a.n low.result high.result c.idle_among.result
    count (omega arith) low.ensures high.ensures (c.idle_among.ensures held accepted)
    ∙ ap (arrival_marks a.book.now a.n) c.from.ensures
