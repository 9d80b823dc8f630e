-- An operation is that of a function below the count. Assumes nothing.
use Rattle.std.proofs.Common.{rules}
use lib.Dec.{eqb}
use Rattle.book.specs.Head.{operation}
use Rattle.book.proofs.Lists.{eqb_sym}
use Rattle.search.proofs.obtaining.operations_of.Goals as goal

pub returns : goal.returns
returns c =
    rw (← c.function_count.ensures.0)
    (c.union_below.ensures (λ j k. eqb (operation c.args.head.now j) k) (λ q w l h i. rw (eqb_sym (operation c.args.head.now q) i) (search rules)))
