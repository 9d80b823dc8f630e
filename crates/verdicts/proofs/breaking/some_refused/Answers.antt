-- The chain over a range is the definition's quantifier (`any_ranged`). Assumes nothing.
use mathlib.Core.Path.{refl, ◌∙◌}
use mathlib.Core.Bool.{◌&&◌}
use Rattle.std.proofs.Common.{rules}
use Rattle.std.proofs.lemmas.Iterator.{YieldsList-from_range}
use Rattle.std.proofs.lemmas.Iterator.Search.{any_from_yields_List}
use Rattle.book.specs.Lists.{up_to}
use Rattle.book.specs.Sets.{has}
use Rattle.verdicts.specs.Inner.Words.{refused_beside, some_refused}
use Rattle.verdicts.proofs.Quantifiers.{any_ranged}
use Rattle.verdicts.proofs.breaking.some_refused.Goals as goal

pub returns : goal.returns
unfolding some_refused up_to
returns c =
    let a = c.args in
    any_from_yields_List (λ k. has a.first k && refused_beside a.masks.now a.second a.third k) _ _ _
    c.any.ensures.ran (YieldsList-from_range 0 16 16 refl refl) (λ x b q h. search rules)
    ∙ any_ranged _ 0 16
