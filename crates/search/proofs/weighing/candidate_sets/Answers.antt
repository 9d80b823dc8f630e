-- What is left solves as all candidates do (`sets_for`). Assumes nothing.
use mathlib.Core.Path.{refl}
use Rattle.search.specs.Inner.Closing.{remaining}
use Rattle.search.proofs.WeightLaws.{sets_for}
use borrow.Author.Rules.{rules}
use Rattle.search.proofs.weighing.candidate_sets.Goals as goal

pub returns : goal.returns
returns c =
    let a = c.args in
    let ask = a.ask.now in
    let first = c.alone-firsts in
    let second = c.alone-seconds in
    let third = c.alone-thirds in
    sets_for ask.tables.now ask.rule ask.references a.had a.rules (remaining first.result first.new.takers)
    (remaining second.result second.new.takers) (remaining third.result third.new.takers)
    (record { firsts = first.result; seconds = second.result; thirds = third.result; last = third.new.takers.last })
    first.ensures second.ensures third.ensures (search rules) (search rules) (search rules) refl refl refl
