-- What refuses ends the tests, and what passes leaves the rest to decide. Assumes nothing.
use Rattle.std.proofs.Common.{rules, arith, ◌≡◌, ◌∙◌, sym, length}
use lib.Seq.{length-take-le}
use Rattle.editing.specs.Answers.{number_tests}
use Rattle.editing.proofs.TestingLaws.{all_passed, book_refused, book_told, number_few, number_refused, rule_refused}
use Rattle.editing.proofs.edits.Lent.test_departure.Goals as goal

pub returns-in_err-ensure-clause-refused : goal.returns-in_err-ensure-clause-refused
unfolding number_tests
returns-in_err-ensure-clause-refused c =
    let a = c.args.self.now in
    let told = number_refused a.blocks.now a.rules.now c.args.rule _ (sym c.ensure.ensures ∙ c.in_err-ensure.was) in
    search rules

pub slice_bounds-new-end : goal.slice_bounds-new-end
unfolding number_tests
slice_bounds-new-end c =
    let few = number_few c.args.self.now.rules.now (sym c.ensure.ensures ∙ c.in_ok-ensure.was) in
    let size : length c.args.self.now.blocks.now ≡ 18432 = search rules in
    sym (length-take-le _ c.args.self.now.blocks.now (omega arith))

pub returns-in_err-book-clause-refused : goal.returns-in_err-book-clause-refused
unfolding number_tests
returns-in_err-book-clause-refused c =
    let a = c.args.self.now in
    let told =
    book_refused a.blocks.now a.rules.now c.args.rule (sym c.ensure.ensures ∙ c.in_ok-ensure.was) _
    c.in_err-book.ensures.refused in
    search rules

pub returns-in_err-test_rule-clause-refused : goal.returns-in_err-test_rule-clause-refused
unfolding number_tests
returns-in_err-test_rule-clause-refused c =
    let a = c.args.self.now in
    let book = c.in_ok-book in
    let told =
    rule_refused a.blocks.now a.rules.now c.args.rule (sym c.ensure.ensures ∙ c.in_ok-ensure.was)
    (rw book.ensures.bytes at book.book.accepted) _
    (rw book.ensures.bytes at (sym c.test_rule.ensures ∙ c.in_err-test_rule.was)) in
    search rules

pub returns-clause-words : goal.returns-clause-words
returns-clause-words c =
    let a = c.args.self.now in
    let book = c.in_ok-book in
    book_told a.blocks.now a.rules.now _ (rw book.ensures.bytes at book.book.told)

pub returns-clause-passed : goal.returns-clause-passed
unfolding number_tests
returns-clause-passed c =
    let a = c.args.self.now in
    let book = c.in_ok-book in
    all_passed a.blocks.now a.rules.now c.args.rule (sym c.ensure.ensures ∙ c.in_ok-ensure.was)
    (rw book.ensures.bytes at book.book.accepted)
    (rw book.ensures.bytes at (sym c.test_rule.ensures ∙ c.in_ok-test_rule.was))
