-- The root, then every other category (`root_holds`, `child_holds`). Assumes nothing.
use borrow.Author.Rules.{rules}
use Rattle.book.specs.Inner.Reading.{parent_in}
use Rattle.book.proofs.Hierarchies.{root_holds, child_holds}
use Rattle.book.proofs.head_tests.parent_holds.Goals as goal

pub returns-then-i-eq0 : goal.returns-then-i-eq0
returns-then-i-eq0 c =
    let a = c.args in
    root_holds (parent_in a.which a.head.now) a.i c.parent-p.result (search rules)
    c.parent-p.ensures.0

pub returns : goal.returns
returns c =
    let a = c.args in
    rw (c.from.ensures) (child_holds (parent_in a.which a.head.now) a.i c.parent-p.result (search rules)
    c.parent-p.ensures.0)
