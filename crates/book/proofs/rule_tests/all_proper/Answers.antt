use Rattle.std.proofs.Common.{rules, ◌∙◌}
use Rattle.std.proofs.lemmas.Iterator.{YieldsList-from_slice}
use Rattle.std.proofs.lemmas.Iterator.Search.{all_from_yields_List}
use mathlib.Core.Bool.{◌&&◌, not}
use lib.Dec.{eqb}
use Rattle.book.specs.Sets.{has}
use Rattle.book.proofs.Chains.{all_law}
use Rattle.book.proofs.rule_tests.all_proper.Goals as goal

pub returns : goal.returns
returns c =
    let a = c.args in
    all_from_yields_List (λ x. not (eqb x a.c) && has a.inside x) _ _ c.all.result c.all.ensures.ran
    (YieldsList-from_slice a.list.now (cc)) (λ x b q k. search rules)
    ∙ all_law _ _
