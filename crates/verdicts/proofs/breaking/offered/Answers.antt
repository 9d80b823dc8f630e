-- The law `offers_met` is the test. Assumes nothing.
use native.Mathlib.Omega.{arith}
use mathlib.Core.Path.{◌≡◌, refl, ◌∙◌}
use mathlib.Core.Bool.{not, cond}
use lib.ListN.{get_or}
use lib.Dec.{eqb}
use lib.Bits.{bit_and, bit_or}
use Prim.Native.Nat.{◌+◌}
use Rattle.std.proofs.Common.{rules}
use Rattle.book.specs.Rule.{action}
use Rattle.book.specs.Sets.{has}
use Rattle.verdicts.specs.Actions.{channel_fits}
use Rattle.verdicts.specs.Accesses.{held_by}
use Rattle.verdicts.proofs.Offers.{offers_met, offered_present, offered_absent}
use Rattle.verdicts.proofs.breaking.offered.Goals as goal

pub returns-then-reference_count-from : goal.returns-then-reference_count-from
returns-then-reference_count-from c head held sound =
    let a = c.args in
    let counted = c.reference_count.ensures.0 in
    offered_absent head a.rule.now (held_by a.accesses.now) a.i (omega (arith, counted))

pub returns : goal.returns
returns c head held sound =
    let a = c.args in
    let counted = c.reference_count.ensures.0 in
    let p = c.fitted-projected in
    let t = c.fitted-tested in
    let leaves = c.leaf_set-leaves in
    let pe : p.result ≡ cond (channel_fits 0 (action a.rule.now a.i)) leaves.result 0 = search rules in
    let te : t.result ≡ cond (channel_fits 1 (action a.rule.now a.i)) leaves.result 0 = search rules in
    offered_present head a.rule.now (held_by a.accesses.now) a.i c.those_below.result
    (omega (arith, counted))
    (λ q l. let e = c.those_below.ensures.below q l (omega arith) in
    let met : has c.those_below.result q ≡ not (eqb (bit_or (bit_and (get_or a.accesses.now q 0) p.result) (bit_and (get_or a.accesses.now (16 + q) 0) t.result)) 0) = search rules in
    met ∙ offers_met head a.rule.now a.accesses.now a.i q l leaves.result p.result t.result _ _ sound.leaves leaves.type_inv (leaves.ensures head held)
    refl refl pe te)
    c.those_below.ensures.above
