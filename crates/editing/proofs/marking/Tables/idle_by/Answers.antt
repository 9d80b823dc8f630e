-- The rules of the book that are marked, and none past the last (`among_those`). Assumes nothing.
use native.Mathlib.Omega.{arith}
use mathlib.Core.Bool.{◌&&◌}
use borrow.Author.Rules.{rules}
use Rattle.book.specs.Blocks.{rule_count}
use Rattle.book.specs.Sets.{has}
use Rattle.verdicts.proofs.Sound.{few_rules_law}
use Rattle.editing.specs.Marks.{idle_at}
use Rattle.editing.proofs.MarkingLaws.{among_those}
use Rattle.editing.proofs.marking.Tables.idle_by.Goals as goal

pub returns : goal.returns
returns c words =
    let a = c.args in
    let book = a.self.now.book.now in
    let few = few_rules_law book words.accepted in
    let count = c.rule_count.ensures.0 few in
    among_those (λ j. has a.asked j && idle_at book j) (rule_count book) c.those_below.result
    (λ q l.
    let told = c.those_below.ensures.below q (rw (← count) at l) (omega arith) in
    search (rules, words, l))
    (λ q l. c.those_below.ensures.above q (rw (← count) at l))
