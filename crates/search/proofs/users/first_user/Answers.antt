-- One user a turn (`Users`). Assumes nothing.
use mathlib.Core.Path.{refl}
use lib.ListN.{replicate, get_or-replicate}
use Rattle.search.proofs.UserLaws.{users_none, users_more, users_found, users_end}
use Rattle.search.proofs.users.first_user.Goals as goal

pub loop-user-init : goal.loop-user-init
loop-user-init c =
    let a = c.args in
    let ask = a.ask.now in
    users_none ask.tables.now ask.rule ask.references a.had a.covered.now (replicate 32 18446744073709551615) refl
    (λ i. get_or-replicate 32 i 18446744073709551615 0)

pub returns-in-Some : goal.returns-in-Some
returns-in-Some c =
    let a = c.args in
    let ask = a.ask.now in
    let loop = c.loop-user in
    let found = c.search_for-found in
    users_found ask.tables.now ask.rule ask.references a.had a.covered.now loop.masks loop.user
    found.new.takers.rules found.result c.loop-user-test.true loop.invariant (found.ensures loop.invariant.settle)
    c.in-Some.places c.in-Some.is

pub loop-user-preserved : goal.loop-user-preserved
loop-user-preserved c =
    let a = c.args in
    let ask = a.ask.now in
    let loop = c.loop-user in
    let found = c.search_for-found in
    rw c.from.ensures
    (users_more ask.tables.now ask.rule ask.references a.had a.covered.now loop.masks loop.user
    found.new.takers.rules found.result c.loop-user-test.true loop.invariant (found.ensures loop.invariant.settle)
    c.in_default.is)

pub returns : goal.returns
returns c =
    let a = c.args in
    let ask = a.ask.now in
    let loop = c.loop-user in
    users_end ask.tables.now ask.rule ask.references a.had a.covered.now loop.masks loop.user c.loop-user-test.false
    loop.invariant
