-- What the library finds is the lowest (`lowest_empty`), and it finds one where not all are taken (`empty_some`).
use Rattle.std.proofs.Common.{rules, ◌≡◌, not}
use Rattle.std.proofs.iter.runs.Sources.{ranges}
use Rattle.ledger.specs.Places.{taken}
use Rattle.ledger.specs.Inner.Steps.{lowest}
use Rattle.ledger.proofs.PlaceLaws.{lowest_empty, empty_some}
use Rattle.ledger.proofs.Holds.empty_place.Goals as goal

pub returns-clause-found : goal.returns-clause-found
unfolding taken
returns-clause-found c =
    let low : c.find.result ≡ lowest (λ p. not (taken c.args.self.now p)) = search (rules, ranges) in
    empty_some c.args.self.now _ low

pub returns-clause-place : goal.returns-clause-place
unfolding taken
returns-clause-place c =
    let low : c.find.result ≡ lowest (λ p. not (taken c.args.self.now p)) = search (rules, ranges) in
    lowest_empty c.args.self.now _ low
