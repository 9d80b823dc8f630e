use Rattle.std.proofs.Common.{rules, arith, ◌∙◌}
use Rattle.std.proofs.lemmas.Iterator.{YieldsList-from_range}
use Rattle.std.proofs.lemmas.Iterator.Search.{all_from_yields_List}
use Rattle.book.proofs.Chains.{all_below}
use mathlib.Core.Bool.{◌&&◌}
use Rattle.book.proofs.References.{mask_within, masks_all}
use Rattle.book.proofs.rule_tests.masks_hold.Goals as goal

pub returns : goal.returns
returns c head w kept =
    let n = c.restriction_count in
    let rule = c.args.rule.now in
    let a = c.allowed_operations-a in
    let b = c.allowed_operations-b in
    let d = c.allowed_operations-c in
    let held = all_from_yields_List
    (λ j. mask_within rule j 0 a.result && (mask_within rule j 1 b.result && mask_within rule j 2 d.result))
    _ _ c.all.result c.all.ensures.ran
    (YieldsList-from_range 0 n.result n.result (cc) (omega arith)) (λ x b q k. search rules) in
    (rw (← n.ensures.0) (held ∙ all_below _ _))
    ∙ masks_all head rule _ _ _ (a.ensures head w kept) (b.ensures head w kept) (d.ensures head w kept)
