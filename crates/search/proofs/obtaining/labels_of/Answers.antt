-- A label is that of a column below the count. Assumes nothing.
use Rattle.std.proofs.Common.{rules}
use lib.Dec.{eqb}
use Rattle.book.specs.Lists.{any}
use Rattle.lineage.specs.Paths.{labels}
use Rattle.search.specs.Obtainable.{labelled}
use Rattle.search.proofs.obtaining.labels_of.Goals as goal

pub returns : goal.returns
unfolding labelled
returns c =
    rw (← c.column_count.ensures.0)
    (c.union_below.ensures (λ k d. any (eqb d) (labels c.args.head.now k)) (λ q w l h. search rules))
