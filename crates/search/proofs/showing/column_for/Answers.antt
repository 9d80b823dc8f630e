-- What `find` answers is the lowest (`lowest_of`). Assumes nothing.
use Rattle.std.proofs.Common.{rules, tests, ◌≡◌, Bool, ℕ, true, false}
use lib.Dec.{eqb}
use Rattle.std.proofs.lemmas.Iterator.{first_from_Range}
use Rattle.book.specs.Lists.{any}
use Rattle.book.specs.Head.{column_count}
use Rattle.lineage.specs.Paths.{labels}
use Rattle.search.specs.Shown.{column_for}
use Rattle.search.proofs.PlaceLaws.{word_member}
use Rattle.search.proofs.LowestLaws.{lowest_of}
use Rattle.search.proofs.showing.column_for.Goals as goal

pub returns : goal.returns
unfolding column_for
returns c small =
    let a = c.args in
    let f : ℕ → Bool = λ j. any (eqb a.d) (labels a.head.now j) in
    rw c.unwrap_or.ensures
    (lowest_of f c.column_count.result (column_count a.head.now) c.find.result c.column_count.ensures.0
    (first_from_Range _ _ _ c.find.result (λ j. f j ≡ true) (λ j. f j ≡ false) c.find.ensures.ran
    (λ x q k. search (rules, tests, word_member)) (λ x q k. search (rules, tests, word_member))))
