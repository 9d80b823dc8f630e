-- The number is the mask with the asking rule (`few_said`), and says what N6 asks. Assumes nothing.
use Rattle.std.proofs.Common.{rules, ◌∙◌}
use Rattle.capi.proofs.PackedLaws.{few_said}
use Rattle.capi.proofs.Headline.{culprits_says}
use Rattle.capi.proofs.pspec_culprits.Goals as goal

pub returns-clause-answer : goal.returns-clause-answer
returns-clause-answer c =
    c.pack.ensures
    ∙ few_said c.args.book.now c.args.rule c.culprits.result c.map.result _ c.culprits.ensures.answer c.map.ensures.cases
    (λ x n p. search (rules, p))

pub returns-clause-says : goal.returns-clause-says
returns-clause-says c = culprits_says c.args.book.now c.args.rule _ (returns-clause-answer c)
