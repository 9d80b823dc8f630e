-- Accesses that can be had. Document 01, "Idle rules", its first sentence. Assumes nothing.
use Rattle.std.specs.Prelude.{ℕ, Bool, ◌&&◌, ◌||◌, eqb}
use Rattle.book.specs.Lists.{any, up_to}
use Rattle.book.specs.Blocks.{Head}
use Rattle.book.specs.Head.{column_count, function_count, operation, supports}
use Rattle.lineage.specs.Paths.{labels}
use Rattle.verdicts.specs.Accesses.{Accesses}

-- "some column has its label"
unfoldable pub labelled : (head : Head) (label : ℕ) → Bool
labelled head d = any (λ c. any (eqb d) (labels head c)) (up_to (column_count head))

-- "its operation is 0 or is supported by the label and belongs to some function"
unfoldable pub operated : (head : Head) (label operation : ℕ) → Bool
operated head d k =
    eqb k 0 || (supports head d k && any (λ f. eqb (operation head f) k) (up_to (function_count head)))

-- "An access can be had if some column has its label and its operation [..]"
unfoldable pub can_be_had : Head → Accesses
can_be_had head x = labelled head x.leaf && operated head x.leaf x.operation
