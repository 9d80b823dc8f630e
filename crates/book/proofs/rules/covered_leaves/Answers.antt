-- A word less another, and the leaves of it: the law `covered_at`. Assumes nothing.
use Rattle.book.specs.Hierarchies.{leaf}
use Rattle.book.proofs.HeadWords.{covered_at, leaf_known}
use Rattle.book.proofs.rules.covered_leaves.Goals as goal

pub returns : goal.returns
returns c count parent held =
    let a = c.args in
    let inside = c.under in
    let outside = c.under_some in
    covered_at (leaf count parent) count parent a.c a.excluded.now
    a.words.now.leaves inside.result outside.result (leaf_known count parent) inside.type_inv outside.type_inv
    held.leaves (inside.ensures count parent held) (outside.ensures count parent held)
