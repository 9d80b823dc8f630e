-- Refused: nothing changes. Otherwise the number has its lowest place, which is freed.
use Rattle.std.proofs.Common.{rules, arith, refl}
use Rattle.std.specs.Prelude.{Ok}
use Rattle.ledger.proofs.CallLaws.{was_refused, was_passed, settle_accepted}
use Rattle.ledger.proofs.Promises.{DropPromised, drop_refused, drop_settled}
use Rattle.ledger.proofs.settling.drop_hold.Goals as goal

refused : (c : goal.After-from_residual) → DropPromised c.args.book.now c.args.user c.args.number c.args.ledger.now c.args.tally.now c.args.holds.now c.from_residual.result c.args.tally.now c.args.holds.now
refused c =
    let a = c.args in
    drop_refused a.book.now a.user a.number a.ledger.now a.tally.now a.holds.now c.in_err-place.field-0.0 _ (search rules)
    (was_refused _ _ _ c.in_err-place.ensures.place)

settled : (c : goal.After-free) → DropPromised c.args.book.now c.args.user c.args.number c.args.ledger.now c.args.tally.now c.args.holds.now (Ok c.args.number) c.count_dropped.new.self c.free.new.self
settled c =
    let a = c.args in
    let found = was_passed _ _ _ c.in_ok-place.ensures.place in
    let k = settle_accepted a.book.now a.user a.number a.ledger.now a.holds.now found.0 in
    drop_settled a.book.now a.user a.number a.ledger.now a.tally.now a.holds.now k _ _ _ refl c.count_dropped.ensures
    (rw (c.from.ensures, found.1) at (c.free.ensures (omega (arith, c.from.ensures, c.in_ok-place.ensures.within))))

pub returns-in_err-place-clause-answer : goal.returns-in_err-place-clause-answer
returns-in_err-place-clause-answer c = (refused c).0

pub returns-in_err-place-clause-tally : goal.returns-in_err-place-clause-tally
returns-in_err-place-clause-tally c = (refused c).1

pub returns-in_err-place-clause-holds : goal.returns-in_err-place-clause-holds
returns-in_err-place-clause-holds c = (refused c).2

pub returns-in_err-place-clause-settled : goal.returns-in_err-place-clause-settled
returns-in_err-place-clause-settled c = (refused c).3

pub returns-in_err-place-clause-continues : goal.returns-in_err-place-clause-continues
returns-in_err-place-clause-continues c = (refused c).4

pub returns-clause-answer : goal.returns-clause-answer
returns-clause-answer c = (settled c).0

pub returns-clause-tally : goal.returns-clause-tally
returns-clause-tally c = (settled c).1

pub returns-clause-holds : goal.returns-clause-holds
returns-clause-holds c = (settled c).2

pub returns-clause-settled : goal.returns-clause-settled
returns-clause-settled c = (settled c).3

pub returns-clause-continues : goal.returns-clause-continues
returns-clause-continues c = (settled c).4
