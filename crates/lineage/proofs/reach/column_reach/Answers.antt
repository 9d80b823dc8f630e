-- The label stands in word 0 alone: the law `column_words`. Assumes nothing.
use lib.Dec.{eqb}
use Rattle.book.specs.Lists.{any}
use Rattle.lineage.specs.Paths.{labels}
use Rattle.lineage.proofs.Steps.{column_words}
use Rattle.lineage.proofs.reach.column_reach.Goals as goal

pub returns : goal.returns
returns c =
    let a = c.args in
    column_words (λ d. any (eqb d) (labels a.head.now a.column)) c.label_set.result c.label_set.ensures
