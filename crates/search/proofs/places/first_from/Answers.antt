-- No place from p on is in the words passed (`NoneFrom`). Assumes nothing.
use Rattle.std.proofs.Common.{rules, ◌/◌, Fits, w64, get_or}
use native.Mathlib.Omega.{arith}
use Rattle.search.proofs.PlaceLaws.{first_past, first_inside, first_here, none_here, none_more, first_later, first_none}
use Rattle.search.proofs.places.first_from.Goals as goal

pub returns-then-p-ge-PAST_PLACES-clause-first : goal.returns-then-p-ge-PAST_PLACES-clause-first
returns-then-p-ge-PAST_PLACES-clause-first c h = first_past c.args.set.now c.args.p (omega arith) h

pub returns-then-word-ne0-clause-first : goal.returns-then-word-ne0-clause-first
returns-then-word-ne0-clause-first c h =
    let a = c.args in
    let f : Fits w64 (get_or a.set.now (a.p / 64) 0) = search rules in
    first_here a.set.now a.p c.lowest.result (omega arith) f.fits
    (c.lowest.ensures.member c.if-word-ne0.true).1 c.lowest.ensures.skipped

pub returns-then-word-ne0-clause-there : goal.returns-then-word-ne0-clause-there
returns-then-word-ne0-clause-there c =
    let a = c.args in
    let f : Fits w64 (get_or a.set.now (a.p / 64) 0) = search rules in
    omega (arith, first_inside a.set.now a.p c.lowest.result f.fits (c.lowest.ensures.member c.if-word-ne0.true).1)

pub loop-w-init : goal.loop-w-init
loop-w-init c =
    let a = c.args in
    (omega arith, omega arith, none_here a.set.now a.p (search rules))

pub returns-then-set-w-ne0-clause-first : goal.returns-then-set-w-ne0-clause-first
returns-then-set-w-ne0-clause-first c h =
    let a = c.args in
    let found = c.lowest-then-set-w-ne0.ensures.member c.if-set-w-ne0.true in
    first_later a.set.now a.p c.loop-w.w c.lowest-then-set-w-ne0.result (omega arith) (omega arith)
    c.loop-w.invariant.2 found.0 found.1 c.lowest-then-set-w-ne0.ensures.skipped

pub loop-w-preserved : goal.loop-w-preserved
loop-w-preserved c =
    let a = c.args in
    let l = c.loop-w in
    (omega arith, omega arith, none_more a.set.now a.p l.w l.invariant.2 (search rules))

pub returns-clause-first : goal.returns-clause-first
returns-clause-first c h =
    let a = c.args in
    first_none a.set.now a.p c.loop-w.w h (omega arith) c.loop-w.invariant.2
