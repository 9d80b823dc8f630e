use Rattle.std.proofs.Common.{rules, arith, ◌∙◌}
use Rattle.std.proofs.lemmas.Iterator.{YieldsList-from_range}
use Rattle.std.proofs.lemmas.Iterator.Search.{all_from_yields_List}
use Rattle.book.proofs.Chains.{all_below}
use Rattle.book.specs.Refusals.{own_holds}
use Rattle.book.proofs.head_tests.owns_hold.Goals as goal

pub returns : goal.returns
returns c =
    let held = all_from_yields_List (own_holds c.args.head.now) _ _ c.all.result c.all.ensures.ran
    (YieldsList-from_range 0 c.count.result c.count.result (cc) (omega arith)) (λ x b q k. search rules) in
    rw (← c.count.ensures.0) (held ∙ all_below _ _)
