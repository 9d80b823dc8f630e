-- A label that some column has, and one that none has. Assumes nothing.
use mathlib.Core.Path.{sym, ◌∙◌, ap}
use mathlib.Core.Bool.{true, false}
use Rattle.book.specs.Sets.{has}
use Rattle.book.proofs.Members.{has_zero}
use Rattle.search.specs.Obtainable.{labelled}
use Rattle.search.proofs.PlaceLaws.{word_member}
use Rattle.search.proofs.Obtained.{had_operations}
use Rattle.search.proofs.obtaining.operations_for.Goals as goal

pub returns-then-contains : goal.returns-then-contains
returns-then-contains c labels operations l k small =
    let a = c.args in
    rw
    (word_member (labelled a.head.now) a.labels a.d true labels
    (sym c.if-contains.true ∙ c.contains.ensures ∙ ap (has a.labels) c.from.ensures) l)
    (had_operations a.head.now a.d c.support.result a.operations c.support.ensures.0 operations k small)

pub returns-else-contains : goal.returns-else-contains
returns-else-contains c labels operations l k small =
    let a = c.args in
    rw (
      word_member (labelled a.head.now) a.labels a.d false labels
          (sym c.if-contains.false ∙ c.contains.ensures ∙ ap (has a.labels) c.from.ensures) l,
      has_zero k,
    )
