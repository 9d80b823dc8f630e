use Rattle.std.proofs.Common.{rules, arith, ◌∙◌}
use Rattle.std.proofs.lemmas.Iterator.{YieldsList-from_range}
use Rattle.std.proofs.lemmas.Iterator.Search.{all_from_yields_List}
use Rattle.book.proofs.Chains.{all_below}
use Rattle.book.specs.Rule.{exclusion_count}
use Rattle.book.specs.Refusals.{between}
use Rattle.book.proofs.rule_tests.exclusion_counts_hold.Goals as goal

pub returns : goal.returns
returns c =
    let n = c.reference_count in
    let held = all_from_yields_List (λ i. between 0 8 (exclusion_count c.args.rule.now i)) _ _ c.all.result c.all.ensures.ran
    (YieldsList-from_range 0 n.result n.result (cc) (omega arith)) (λ x b q k. search rules) in
    rw (← n.ensures.0) (held ∙ all_below _ _)
