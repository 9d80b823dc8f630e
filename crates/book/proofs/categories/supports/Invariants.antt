-- One category a turn (`Filled`). Assumes nothing.
use Rattle.std.proofs.Common.{◌≡◌, ◌≤◌}
use Rattle.book.specs.Head.{support_of}
use Rattle.book.proofs.Loops.{Filled}
use Rattle.book.proofs.categories.supports.Given as goal

abbrev pub invariant-loop-d : goal.invariant-loop-d
invariant-loop-d l = (l.n ≤ 64) × Filled 64 (λ j word. word ≡ support_of l.head j) l.words l.d
