-- What `find` answers is the lowest (`lowest_of`). Assumes nothing.
use Rattle.std.proofs.Common.{rules, tests, ◌≡◌, Bool, ℕ, true, false}
use lib.Dec.{eqb}
use Rattle.std.proofs.lemmas.Iterator.{first_from_Range}
use Rattle.book.specs.Head.{function_count, operation}
use Rattle.search.specs.Shown.{function_for}
use Rattle.search.proofs.LowestLaws.{lowest_of}
use Rattle.search.proofs.showing.function_for.Goals as goal

pub returns : goal.returns
unfolding function_for
returns c =
    let a = c.args in
    let f : ℕ → Bool = λ j. eqb (operation a.head.now j) a.k in
    rw c.unwrap_or.ensures
    (lowest_of f c.function_count.result (function_count a.head.now) c.find.result c.function_count.ensures.0
    (first_from_Range _ _ _ c.find.result (λ j. f j ≡ true) (λ j. f j ≡ false) c.find.ensures.ran
    (λ x q k. search (rules, tests)) (λ x q k. search (rules, tests))))
