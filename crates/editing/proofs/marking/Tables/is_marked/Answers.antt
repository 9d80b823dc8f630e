-- The conjunction, by its first part. Assumes nothing.
use mathlib.Core.Path.{◌≡◌, sym, ◌∙◌}
use mathlib.Core.Bool.{true, false}
use Rattle.book.specs.Sets.{has}
use Rattle.editing.proofs.marking.Tables.is_marked.Goals as goal

pub returns-then-contains : goal.returns-then-contains
returns-then-contains c words l =
    let there : has c.args.asked c.args.q ≡ true = rw c.from.ensures at (sym c.contains.ensures ∙ c.if-contains.true) in
    rw there (c.is_idle.ensures words l)

pub returns-else-contains : goal.returns-else-contains
returns-else-contains c words l =
    let there : has c.args.asked c.args.q ≡ false = rw c.from.ensures at (sym c.contains.ensures ∙ c.if-contains.false) in
    rw there c.if-contains.false
