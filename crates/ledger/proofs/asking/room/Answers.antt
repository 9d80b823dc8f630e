-- The first list of tests that refuses gives the refusal, or each gives its part.
use Rattle.std.proofs.Common.{rules, ◌∙◌, sym}
use Rattle.ledger.proofs.CallLaws.{number_answers, place_answers, counts_pass, room_no_ledger, room_no_number, room_no_place, room_found}
use Rattle.ledger.proofs.asking.room.Goals as goal

pub returns-in_err-test_ledger-clause-room : goal.returns-in_err-test_ledger-clause-room
returns-in_err-test_ledger-clause-room c =
    let a = c.args in
    room_no_ledger a.user a.ledger.now a.tally.now a.holds.now c.in_err-test_ledger.field-0.0 _ (search rules)
    (sym c.test_ledger.ensures ∙ c.in_err-test_ledger.was)

pub returns-in_err-number-clause-room : goal.returns-in_err-number-clause-room
returns-in_err-number-clause-room c =
    let a = c.args in
    let n = c.next_number in
    room_no_number a.user a.ledger.now a.tally.now a.holds.now c.in_err-number.field-0.0 _ (search rules)
    (sym c.test_ledger.ensures ∙ c.in_ok-test_ledger.was)
    (c.in_err-number.ensures.value ∙ number_answers a.user a.ledger.now a.tally.now a.holds.now n.result n.ensures.found n.ensures.number)

-- that the counts have passed hangs on the order of the tests: it is searched for, and not cited
pub returns-in_err-place-clause-room : goal.returns-in_err-place-clause-room
returns-in_err-place-clause-room c =
    let a = c.args in
    let p = c.empty_place in
    room_no_place a.user a.ledger.now a.tally.now a.holds.now c.in_err-place.field-0.0 _ (search rules)
    (sym c.test_ledger.ensures ∙ c.in_ok-test_ledger.was) (search (rules, counts_pass))
    (c.in_err-place.ensures.value ∙ place_answers a.user a.ledger.now a.tally.now a.holds.now p.result p.ensures.found p.ensures.place)

pub returns-clause-room : goal.returns-clause-room
returns-clause-room c =
    let a = c.args in
    let n = c.next_number in
    let p = c.empty_place in
    room_found a.user a.ledger.now a.tally.now a.holds.now c.in_ok-number.number c.in_ok-place.place
    (sym c.test_ledger.ensures ∙ c.in_ok-test_ledger.was)
    (c.in_ok-number.ensures.value ∙ number_answers a.user a.ledger.now a.tally.now a.holds.now n.result n.ensures.found n.ensures.number)
    (c.in_ok-place.ensures.value ∙ place_answers a.user a.ledger.now a.tally.now a.holds.now p.result p.ensures.found p.ensures.place)
