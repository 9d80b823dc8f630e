use Rattle.std.proofs.Common.{rules, arith, ◌∙◌}
use Rattle.std.proofs.lemmas.Iterator.{YieldsList-from_range}
use Rattle.std.proofs.lemmas.Iterator.Search.{all_from_yields_List}
use lib.Dec.{leb}
use Rattle.book.specs.Head.{operation}
use Rattle.book.specs.Refusals.{functions_hold}
use Rattle.book.proofs.Chains.{all_below}
use Rattle.book.proofs.head_tests.operations_hold.Goals as goal

pub returns : goal.returns
unfolding functions_hold
returns c =
    let held = all_from_yields_List (λ i. leb (operation c.args.head.now i) 15) _ _ c.all.result c.all.ensures.ran
    (YieldsList-from_range 0 c.function_count.result c.function_count.result (cc) (omega arith)) (λ x b q k. search rules) in
    rw (← c.function_count.ensures.0) (held ∙ all_below _ _)
