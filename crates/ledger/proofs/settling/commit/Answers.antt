-- Refused: nothing changes. Otherwise the number has its lowest place, which is freed.
use Rattle.std.proofs.Common.{rules, arith, refl, ◌∙◌}
use Rattle.std.specs.Prelude.{Ok}
use Rattle.ledger.proofs.CallLaws.{was_refused, was_passed, settle_accepted}
use Rattle.ledger.proofs.Promises.{CommitPromised, commit_refused, commit_settled}
use Rattle.ledger.proofs.settling.commit.Goals as goal

refused : (c : goal.After-from_residual) → CommitPromised c.args.book.now c.args.user c.args.number c.args.ledger.now c.args.tally.now c.args.holds.now c.from_residual.result c.args.tally.now c.args.holds.now c.args.ledger.now
refused c =
    let a = c.args in
    commit_refused a.book.now a.user a.number a.ledger.now a.tally.now a.holds.now c.in_err-place.field-0.0 _ (search rules)
    (was_refused _ _ _ c.in_err-place.ensures.place)

settled : (c : goal.After-free) → CommitPromised c.args.book.now c.args.user c.args.number c.args.ledger.now c.args.tally.now c.args.holds.now (Ok c.args.number) c.count_admitted.new.self c.free.new.self c.join_words.new.ledger
settled c =
    let a = c.args in
    let found = was_passed _ _ _ c.in_ok-place.ensures.place in
    let k = settle_accepted a.book.now a.user a.number a.ledger.now a.holds.now found.0 in
    commit_settled a.book.now a.user a.number a.ledger.now a.tally.now a.holds.now k _ _ _ _ refl c.count_admitted.ensures
    (rw (c.from-2.ensures, found.1) at (c.free.ensures (omega (arith, c.from-2.ensures, c.in_ok-place.ensures.within)))) (c.join_words.ensures ∙ rw (c.words_of.ensures, c.from.ensures, found.1))

pub returns-in_err-place-clause-answer : goal.returns-in_err-place-clause-answer
returns-in_err-place-clause-answer c = (refused c).0

pub returns-in_err-place-clause-tally : goal.returns-in_err-place-clause-tally
returns-in_err-place-clause-tally c = (refused c).1

pub returns-in_err-place-clause-holds : goal.returns-in_err-place-clause-holds
returns-in_err-place-clause-holds c = (refused c).2

pub returns-in_err-place-clause-ledger : goal.returns-in_err-place-clause-ledger
returns-in_err-place-clause-ledger c = (refused c).3

pub returns-in_err-place-clause-settled : goal.returns-in_err-place-clause-settled
returns-in_err-place-clause-settled c = (refused c).4

pub returns-in_err-place-clause-continues : goal.returns-in_err-place-clause-continues
returns-in_err-place-clause-continues c = (refused c).5

pub returns-clause-answer : goal.returns-clause-answer
returns-clause-answer c = (settled c).0

pub returns-clause-tally : goal.returns-clause-tally
returns-clause-tally c = (settled c).1

pub returns-clause-holds : goal.returns-clause-holds
returns-clause-holds c = (settled c).2

pub returns-clause-ledger : goal.returns-clause-ledger
returns-clause-ledger c = (settled c).3

pub returns-clause-settled : goal.returns-clause-settled
returns-clause-settled c = (settled c).4

pub returns-clause-continues : goal.returns-clause-continues
returns-clause-continues c = (settled c).5
