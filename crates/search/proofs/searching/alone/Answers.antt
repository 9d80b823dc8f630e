-- The candidates, sifted. Assumes nothing.
use Rattle.search.specs.Inner.Closing.{remaining}
use Rattle.search.proofs.Candidates.{possible_made}
use Rattle.search.proofs.searching.alone.Goals as goal

pub returns : goal.returns
returns c =
    let a = c.args in
    let ask = a.ask.now in
    possible_made ask.tables.now ask.rule ask.references a.had a.rules a.i
    (remaining c.candidates-places.result a.takers.now) (remaining c.sift.new.set c.sift.new.takers)
    c.candidates-places.ensures c.sift.ensures
