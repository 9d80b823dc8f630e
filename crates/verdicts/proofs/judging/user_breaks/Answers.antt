-- The law `covered_test` is the test of the user; the definition's conjunction, both ways. Assumes nothing.
use mathlib.Core.Path.{◌≡◌, sym, ◌∙◌}
use mathlib.Core.Bool.{true, false}
use Rattle.book.specs.Rule.{covers_user}
use Rattle.verdicts.specs.Breaking.{breaks}
use Rattle.verdicts.proofs.Users.{covered_test}
use Rattle.verdicts.proofs.judging.user_breaks.Goals as goal

pub returns-then-contains : goal.returns-then-contains
unfolding breaks
returns-then-contains c head told sound =
    let test = c.contains in
    let users = c.covered_users-covered in
    let a = c.args in
    let covered : covers_user head a.rule.now a.user ≡ true =
    sym
    (covered_test head a.user users.result test.result sound.users test.ensures a.rule.now (users.ensures head told))
    ∙ c.if-contains.true in
    rw covered (c.breaks.ensures head told sound)

pub returns-else-contains : goal.returns-else-contains
unfolding breaks
returns-else-contains c head told sound =
    let test = c.contains in
    let users = c.covered_users-covered in
    let a = c.args in
    let covered : covers_user head a.rule.now a.user ≡ false =
    sym
    (covered_test head a.user users.result test.result sound.users test.ensures a.rule.now (users.ensures head told))
    ∙ c.if-contains.false in
    rw covered c.if-contains.false
