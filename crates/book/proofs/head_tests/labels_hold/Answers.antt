use Rattle.std.proofs.Common.{rules, arith, ◌∙◌}
use Rattle.std.proofs.lemmas.Iterator.{YieldsList-from_range}
use Rattle.std.proofs.lemmas.Iterator.Search.{all_from_yields_List}
use Rattle.book.proofs.Chains.{all_below}
use mathlib.Core.Bool.{◌||◌}
use lib.Dec.{eqb}
use Rattle.book.specs.Lists.{up_to}
use Rattle.book.specs.Sets.{has}
use Rattle.book.specs.Head.{label, column_count, is_data_leaf}
use Rattle.book.specs.Refusals.{label_holds, labels_hold}
use Rattle.book.proofs.Lists.{all_same}
use Rattle.book.proofs.Tests.{label_same}
use Rattle.book.proofs.head_tests.labels_hold.Goals as goal

pub returns : goal.returns
unfolding labels_hold is_data_leaf
returns c w =
    let n = c.column_count in
    let head = c.args.head.now in
    let leaves = c.args.words.now.categories.leaves in
    let held = all_from_yields_List (λ i. eqb (label head i) 255 || has leaves (label head i))
    _ _ c.all.result c.all.ensures.ran
    (YieldsList-from_range 0 n.result n.result (cc) (omega arith)) (λ x b q k. search rules) in
    (rw (← n.ensures.0) (held ∙ all_below _ _))
    ∙ all_same (λ i. eqb (label head i) 255 || has leaves (label head i)) (λ i. label_holds head (label head i))
    (λ i. label_same head leaves (label head i) w.counts.categories w.told.categories.leaves) (up_to (column_count head))
