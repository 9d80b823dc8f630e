use Rattle.std.proofs.Common.{rules, arith, ◌∙◌}
use Rattle.std.proofs.lemmas.Iterator.{YieldsList-from_range}
use Rattle.std.proofs.lemmas.Iterator.Search.{all_from_yields_List}
use Rattle.book.proofs.Chains.{all_below}
use Rattle.book.specs.Hierarchies.{parent_holds}
use Rattle.book.specs.Inner.Reading.{parent_in}
use Rattle.book.proofs.head_tests.parents_hold.Goals as goal

pub returns : goal.returns
returns c =
    let a = c.args in
    let held = all_from_yields_List (parent_holds (parent_in a.which a.head.now)) _ _ c.all.result c.all.ensures.ran
    (YieldsList-from_range 0 c.count.result c.count.result (cc) (omega arith)) (λ x b q k. search rules) in
    rw (← c.count.ensures.0) (held ∙ all_below _ _)
