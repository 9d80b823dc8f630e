-- Less what is accepted, and sifted. Assumes nothing.
use mathlib.Core.Path.{refl}
use Rattle.search.specs.Inner.Closing.{remaining}
use Rattle.search.proofs.Candidates.{thirds_made}
use Rattle.search.proofs.searching.take_thirds.Goals as goal

pub returns : goal.returns
returns c =
    let a = c.args in
    let ask = a.ask.now in
    thirds_made ask.tables.now ask.rule ask.references a.rules a.a a.y (remaining a.places.now a.takers.now)
    (remaining c.take_operations.new.set a.takers.now) (remaining c.sift.new.set c.sift.new.takers)
    c.accepted_third.result c.accepted_third.ensures c.take_operations.ensures refl c.sift.ensures
