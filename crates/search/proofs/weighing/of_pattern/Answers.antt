-- The search in three parts of the sets (`pattern_answers`). Assumes nothing.
use Rattle.book.proofs.Members.{has_zero}
use Rattle.search.proofs.Sieves.{both}
use Rattle.search.proofs.WeightLaws.{pattern_answers}
use Rattle.search.proofs.weighing.of_pattern.Goals as goal

pub returns : goal.returns
returns c few =
    let a = c.args in
    let ask = a.ask.now in
    let among = c.among in
    let firsts = c.part in
    let seconds = c.part-2 in
    let thirds = c.part-3 in
    pattern_answers ask.tables.now ask.rule ask.references a.pattern few a.sets.now firsts.result seconds.result
    thirds.result firsts.ensures seconds.ensures thirds.ensures a.rules among.new.takers.rules among.result
    (among.ensures (λ q h. both h (has_zero q)))
