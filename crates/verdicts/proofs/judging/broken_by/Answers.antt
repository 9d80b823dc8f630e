-- The rules are sound (`rules_sound`) and few enough for a mask (`mask_whole`). Assumes nothing.
use native.Mathlib.Omega.{arith}
use Rattle.std.proofs.Common.{◌≡◌, Fits, w8}
use borrow.Author.Rules.{rules}
use lib.ListN.{get_or}
use Rattle.book.specs.Blocks.{head_of, rule_at, rule_count}
use Rattle.verdicts.specs.Accesses.{held_by}
use Rattle.verdicts.proofs.Sound.{few_rules_law, mask_whole, rules_sound}
use Rattle.verdicts.proofs.judging.broken_by.Goals as goal

pub returns : goal.returns
returns c held accepted =
    let a = c.args in
    let word = c.those_below-broken in
    let total = c.rule_count in
    let few = few_rules_law a.book.now accepted in
    let e : total.result ≡ rule_count a.book.now = total.ensures.0 few in
    mask_whole a.book.now accepted a.user (held_by a.accesses.now) total.result word.result e
    (λ r l.
    let told = word.ensures.below r l (omega (arith, e, few)) in
    let sound = rules_sound a.book.now accepted (λ j. let f : Fits w8 (get_or a.book.now j 0) = search rules in f.fits) r (rw e at l) in
    search rules)
    word.ensures.above
