-- Nobody found is an idle rule, and somebody a needed one (`found_idle`). Assumes nothing.
use Rattle.editing.proofs.MarkingLaws.{found_idle}
use Rattle.editing.proofs.marking.Tables.is_idle.Goals as goal

pub returns : goal.returns
returns c words l =
    let self = c.args.self.now in
    let references = rw c.rule_at.ensures at c.reference_count.ensures.0 in
    found_idle self.book.now words.accepted c.args.r l self.rules.now self.had.now self.covered.now (self.of words)
    c.reference_count.result references c.first_user.result c.first_user.ensures c.is_none.result c.is_none.ensures
