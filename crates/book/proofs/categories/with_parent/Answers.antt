-- Where the parent is another category, it is the one that is added. Assumes nothing.
use Rattle.book.proofs.Lists.{and_false, or_end}
use Rattle.book.proofs.Members.{has_or}
use Rattle.book.proofs.Hierarchies.{root_apart, parent_apart}
use Rattle.book.proofs.categories.with_parent.Goals as goal

pub returns-then-p-i : goal.returns-then-p-i
returns-then-p-i c j = simp (c.if-p-i.true, root_apart, and_false, or_end)

pub returns : goal.returns
returns c j =
    let a = c.args in
    rw (has_or, c.single.ensures j, parent_apart a.p a.i j c.if-p-i.false)
