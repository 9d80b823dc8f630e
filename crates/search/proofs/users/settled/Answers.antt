-- Some mask has nothing outside the set (`some_mask_within`). Assumes nothing.
use Rattle.std.proofs.Common.{rules, tests, ◌-◌, ◌^◌, bit_and, ◌∙◌, sym}
use lib.Dec.{eqb}
use Rattle.std.proofs.lemmas.Iterator.{YieldsList-from_slice}
use Rattle.std.proofs.lemmas.Iterator.Search.{any_from_yields_List}
use Rattle.search.proofs.UserLaws.{some_mask_within}
use Rattle.search.proofs.users.settled.Goals as goal

pub returns : goal.returns
returns c e =
    let a = c.args in
    some_mask_within a.masks.now a.rules c.told-masks c.fits-masks c.ranges.rules.fits
    (sym
    (any_from_yields_List (λ m. eqb (bit_and m ((2 ^ 64 - 1) - a.rules)) 0) _ _ c.any.result c.any.ensures.ran
    (YieldsList-from_slice a.masks.now cc) (λ x b q k. search (rules, tests)))
    ∙ e)
