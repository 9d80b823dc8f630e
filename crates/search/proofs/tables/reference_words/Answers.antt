-- An absent reference, or the words of its action and leaves. Assumes nothing.
use Prim.Native.Nat.{ℕ}
use native.Mathlib.Omega.{arith}
use lib.ListN.{get_or, get_or-replicate}
use Rattle.search.proofs.RuleWords.{meets_absent, meets_word}
use Rattle.search.proofs.tables.reference_words.Goals as goal

pub returns-then-reference_count-from : goal.returns-then-reference_count-from
returns-then-reference_count-from c w l p h e =
    let a = c.args in
    rw (get_or-replicate {A = ℕ} 33 w 18446744073709551615 0 l)
    (meets_absent a.rule.now a.leaves a.i p (omega arith))

pub returns : goal.returns
returns c w l p h e =
    let a = c.args in
    let tested = c.channel_fits-tested in
    let projected = c.channel_fits-projected in
    let named = c.action-named in
    meets_word a.rule.now a.leaves a.i p (get_or c.channel_words.result w 0) w named.result
    projected.result tested.result (omega arith) named.ensures projected.ensures tested.ensures h e
    (c.channel_words.ensures w l)
