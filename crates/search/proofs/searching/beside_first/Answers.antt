-- Both sets are sifted beside the first place. Assumes nothing.
use Rattle.book.specs.Sets.{has}
use Rattle.search.specs.Inner.Closing.{Remaining, remaining}
use Rattle.search.specs.Inner.Search.{asked, solves_first, solves_beside}
use Rattle.search.proofs.Solutions.{grown_join, grown_within, searched_through}
use Rattle.search.proofs.SearchSteps.{first_back, first_there}
use borrow.Author.Rules.{rules}
use Rattle.search.proofs.searching.beside_first.Goals as goal

pub returns : goal.returns
returns c begun =
    let a = c.args in
    let ask = a.ask.now in
    let one = c.sift in
    let two = c.sift-2 in
    let from : Remaining = remaining a.seconds.now a.takers.now in
    let second : Remaining = remaining one.new.set one.new.takers in
    let next : Remaining = remaining a.thirds.now one.new.takers in
    let third : Remaining = remaining two.new.set two.new.takers in
    let grown =
    grown_join (has a.rules) (has a.takers.now.rules) (has second.rules) (has third.rules) one.ensures.only
    two.ensures.only in
    let inside = grown_within (has a.rules) (has a.takers.now.rules) (has third.rules) begun grown in
    searched_through (asked solves_beside ask a.a second.places third.places)
    (asked solves_first ask a.a a.seconds.now a.thirds.now) a.rules a.takers.now.rules third.rules
    (first_there ask.tables.now ask.rule ask.references a.rules a.a from second next third one.ensures two.ensures
    (search rules) (search rules) two.ensures.more)
    (first_back ask.tables.now ask.rule ask.references a.rules a.a from second next third one.ensures two.ensures
    (search rules) (search rules))
    (λ q h. two.ensures.more q (one.ensures.more q h)) grown inside c.beside.new.takers.rules c.beside.result
    (c.beside.ensures inside)
