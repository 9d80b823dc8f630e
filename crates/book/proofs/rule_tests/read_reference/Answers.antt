-- An absent reference has no leaf; the leaves of another are its leaf set. Assumes nothing.
use borrow.Author.Tests.{lt-ltb, le-ltb, le-leb, lt-leb, not-true, not-false}
use Rattle.book.specs.Head.{data_count, data_parent, is_data_leaf}
use Rattle.book.specs.Rule.{in_leaf_set}
use Rattle.book.specs.Refusals.{reference_holds}
use Rattle.book.proofs.Members.{has_zero}
use Rattle.book.proofs.rule_tests.read_reference.Goals as goal

pub returns-then-reference_count-from : goal.returns-then-reference_count-from
returns-then-reference_count-from c head w =
    let l = rw (c.reference_count.ensures.0, c.from.ensures) at c.if-reference_count-from.true in (
      rw (le-leb _ _ l),
      λ d. rw (le-ltb _ _ l) (has_zero d),
    )

pub returns-then-not-reference_holds : goal.returns-then-not-reference_holds
unfolding reference_holds
returns-then-not-reference_holds c head w =
    let l = rw (c.reference_count.ensures.0, c.from.ensures) at c.if-reference_count-from.false in
    let told =
    rw (c.data_category-c.ensures.0, c.exclusions-list.ensures, c.action.ensures)
    at (c.reference_holds.ensures (data_count head) (data_parent head) w.told.categories w.counts.categories) in
    rw (lt-leb _ _ l, ← told) (not-true _ c.if-not-reference_holds.true-raw)

pub returns : goal.returns
unfolding reference_holds in_leaf_set is_data_leaf
returns c head w =
    let l = rw (c.reference_count.ensures.0, c.from.ensures) at c.if-reference_count-from.false in
    let told =
    rw (c.data_category-c.ensures.0, c.exclusions-list.ensures, c.action.ensures)
    at (c.reference_holds.ensures (data_count head) (data_parent head) w.told.categories w.counts.categories) in (
      rw (lt-leb _ _ l, ← told) (not-false _ c.if-not-reference_holds.false-raw),
      λ d.
          rw (lt-ltb _ _ l)
          ((rw (c.data_category-c.ensures.0, c.exclusions-list.ensures)
          at (c.covered_leaves.ensures (data_count head) (data_parent head) w.told.categories)) d),
    )
