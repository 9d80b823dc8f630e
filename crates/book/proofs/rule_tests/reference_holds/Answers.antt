-- Each number's test is that of its definition (`proper_all`). Assumes nothing.
use Rattle.std.proofs.Common.{◌∙◌}
use Rattle.book.proofs.Actions.{names_is_some}
use Rattle.book.proofs.References.{proper_all}
use Rattle.book.proofs.rule_tests.reference_holds.Goals as goal

pub returns : goal.returns
returns c count parent held small =
    let a = c.args in
    let all =
    c.all_proper-proper.ensures
    ∙ proper_all count parent a.c c.under.result a.list.now small (c.under.ensures count parent held) in
    rw (← all, ← held.number, ← c.from.ensures, c.is_some.ensures, names_is_some a.named)
