-- The candidates less what breaks a rule by itself, and the search among them. Assumes nothing.
use Rattle.book.proofs.Members.{has_zero}
use Rattle.search.specs.Inner.Closing.{Remaining, remaining}
use Rattle.search.specs.Inner.Search.{asked, solves, solves_in}
use Rattle.search.proofs.Sieves.{both}
use Rattle.search.proofs.Solutions.{searched_through}
use Rattle.search.proofs.Candidates.{solves_back, solves_there, solves_within}
use borrow.Author.Rules.{rules}
use Rattle.search.proofs.searching.search.Goals as goal

pub returns : goal.returns
returns c =
    let a = c.args in
    let ask = a.ask.now in
    let t = ask.tables.now in
    let r = ask.rule in
    let n = ask.references in
    let one = c.alone-firsts in
    let two = c.alone-seconds in
    let three = c.alone-thirds in
    let first : Remaining = remaining one.result one.new.takers in
    let second : Remaining = remaining two.result two.new.takers in
    let third : Remaining = remaining three.result three.new.takers in
    let grown =
    solves_within t r n a.had a.rules 0 first second third one.ensures two.ensures three.ensures
    (λ q h. both h (has_zero q)) in
    searched_through (asked solves_in ask first.places second.places third.places) (asked solves ask a.had) a.rules 0
    third.rules
    (solves_there t r n a.had a.rules 0 first second third one.ensures two.ensures three.ensures)
    (solves_back t r n a.had a.rules 0 first second third one.ensures two.ensures three.ensures (search rules)
    (search rules) (search rules)) grown.0 grown.1 grown.2 c.among.new.takers.rules c.among.result
    (c.among.ensures grown.2)
