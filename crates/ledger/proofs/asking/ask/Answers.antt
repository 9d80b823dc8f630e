-- Refused: nothing changes. Otherwise the tests give what each callee asks, and the mask tells which of both outcomes
-- it is (`ask_held`, `ask_declined`).
use Rattle.std.proofs.Common.{rules, arith, ap, refl, ◌∙◌}
use Rattle.std.specs.Prelude.{Ok}
use Rattle.ledger.specs.declared.Asked.TheVariants.{Held, Declined}
use Rattle.ledger.proofs.PlaceLaws.{empty_place_law}
use Rattle.ledger.proofs.CallLaws.{was_refused, ask_unjudged, ask_judged, ask_ready}
use Rattle.ledger.proofs.Promises.{AskPromised, ask_refused, ask_held, ask_declined}
use Rattle.ledger.proofs.asking.ask.Goals as goal
use Rattle.ledger.proofs.asking.ask.Goals.{After-put}

unjudged : (c : goal.After-from_residual) → AskPromised c.args.book.now c.args.user c.args.plan.now c.args.ledger.now c.args.tally.now c.args.holds.now c.from_residual.result c.args.tally.now c.args.holds.now
unjudged c =
    let a = c.args in
    ask_refused a.book.now a.user a.plan.now a.ledger.now a.tally.now a.holds.now c.in_err-book.field-0.0 _ (search rules)
    (ask_unjudged a.book.now a.user a.plan.now a.ledger.now a.tally.now a.holds.now _ c.in_err-book.ensures.refused)

without_room : (c : goal.After-from_residual-in_err-number) → AskPromised c.args.book.now c.args.user c.args.plan.now c.args.ledger.now c.args.tally.now c.args.holds.now c.from_residual-in_err-number.result c.args.tally.now c.args.holds.now
without_room c =
    let a = c.args in
    ask_refused a.book.now a.user a.plan.now a.ledger.now a.tally.now a.holds.now c.in_err-number.field-0.0 _ (search rules)
    (ask_judged a.book.now a.user a.plan.now a.ledger.now a.tally.now a.holds.now c.in_ok-book.ensures.passed
    ∙ was_refused _ _ _ c.in_err-number.ensures.room)

held : (c : After-put) → AskPromised c.args.book.now c.args.user c.args.plan.now c.args.ledger.now c.args.tally.now c.args.holds.now (Ok (Held c.in_ok-number.number)) c.args.tally.now c.put.new.self
held c =
    let a = c.args in
    let same = c.in_ok-book.ensures.bytes in
    let told = rw same at c.in_ok-book.book.told in
    let found = c.in_ok-number in
    let ready = ask_ready a.book.now a.user a.plan.now a.ledger.now a.tally.now a.holds.now (found.number, found.place) c.in_ok-book.ensures.passed found.ensures.room in
    let k = ready.0 in
    let number = ready.1 in
    let place = ready.2 in
    let within = (empty_place_law a.holds.now k.place_empty).1 in
    ask_held a.book.now a.user a.plan.now a.ledger.now a.tally.now a.holds.now k c.accesses-words.result c.mask_with-mask.result
    ((rw same at c.accesses-words.ensures) told (k.judge_accepted.book_accepted, k.judge_accepted.plan_accepted)) (rw same at c.mask_with-mask.ensures) _ _ _
    c.if-mask-ne0.false (ap (λ n. Ok (Held n)) number) refl
    (rw (c.from.ensures, place, number) at (c.put.ensures (omega (arith, c.from.ensures, place, within))))

declined : (c : goal.After-count_declined) → AskPromised c.args.book.now c.args.user c.args.plan.now c.args.ledger.now c.args.tally.now c.args.holds.now (Ok (Declined c.mask_with-mask.result)) c.count_declined.new.self c.args.holds.now
declined c =
    let a = c.args in
    let same = c.in_ok-book.ensures.bytes in
    let told = rw same at c.in_ok-book.book.told in
    let found = c.in_ok-number in
    let k = (ask_ready a.book.now a.user a.plan.now a.ledger.now a.tally.now a.holds.now (found.number, found.place) c.in_ok-book.ensures.passed found.ensures.room).0 in
    ask_declined a.book.now a.user a.plan.now a.ledger.now a.tally.now a.holds.now k c.accesses-words.result c.mask_with-mask.result
    ((rw same at c.accesses-words.ensures) told (k.judge_accepted.book_accepted, k.judge_accepted.plan_accepted)) (rw same at c.mask_with-mask.ensures) _ _ _
    c.if-mask-ne0.true refl c.count_declined.ensures refl

pub returns-in_err-book-clause-answer : goal.returns-in_err-book-clause-answer
returns-in_err-book-clause-answer c = (unjudged c).0

pub returns-in_err-book-clause-tally : goal.returns-in_err-book-clause-tally
returns-in_err-book-clause-tally c = (unjudged c).1

pub returns-in_err-book-clause-holds : goal.returns-in_err-book-clause-holds
returns-in_err-book-clause-holds c = (unjudged c).2

pub returns-in_err-book-clause-asks : goal.returns-in_err-book-clause-asks
returns-in_err-book-clause-asks c = (unjudged c).3

pub returns-in_err-book-clause-continues : goal.returns-in_err-book-clause-continues
returns-in_err-book-clause-continues c = (unjudged c).4

pub returns-in_err-number-clause-answer : goal.returns-in_err-number-clause-answer
returns-in_err-number-clause-answer c = (without_room c).0

pub returns-in_err-number-clause-tally : goal.returns-in_err-number-clause-tally
returns-in_err-number-clause-tally c = (without_room c).1

pub returns-in_err-number-clause-holds : goal.returns-in_err-number-clause-holds
returns-in_err-number-clause-holds c = (without_room c).2

pub returns-in_err-number-clause-asks : goal.returns-in_err-number-clause-asks
returns-in_err-number-clause-asks c = (without_room c).3

pub returns-in_err-number-clause-continues : goal.returns-in_err-number-clause-continues
returns-in_err-number-clause-continues c = (without_room c).4

pub returns-then-mask-ne0-clause-answer : goal.returns-then-mask-ne0-clause-answer
returns-then-mask-ne0-clause-answer c = (declined c).0

pub returns-then-mask-ne0-clause-tally : goal.returns-then-mask-ne0-clause-tally
returns-then-mask-ne0-clause-tally c = (declined c).1

pub returns-then-mask-ne0-clause-holds : goal.returns-then-mask-ne0-clause-holds
returns-then-mask-ne0-clause-holds c = (declined c).2

pub returns-then-mask-ne0-clause-asks : goal.returns-then-mask-ne0-clause-asks
returns-then-mask-ne0-clause-asks c = (declined c).3

pub returns-then-mask-ne0-clause-continues : goal.returns-then-mask-ne0-clause-continues
returns-then-mask-ne0-clause-continues c = (declined c).4

pub returns-clause-answer : goal.returns-clause-answer
returns-clause-answer c = (held c).0

pub returns-clause-tally : goal.returns-clause-tally
returns-clause-tally c = (held c).1

pub returns-clause-holds : goal.returns-clause-holds
returns-clause-holds c = (held c).2

pub returns-clause-asks : goal.returns-clause-asks
returns-clause-asks c = (held c).3

pub returns-clause-continues : goal.returns-clause-continues
returns-clause-continues c = (held c).4
