-- At the end all 32 words of the user are below the index.
use Rattle.std.proofs.Common.{rules, arith}
use Rattle.ledger.proofs.WordLaws.{joined_in_place}
use Rattle.ledger.proofs.words.join_words.Goals as goal

pub returns : goal.returns
returns c =
    let done = c.loop-w.invariant in
    joined_in_place _ _ _ _ (search rules) (λ w l m. done.own w (omega arith) (search rules)) (λ j o. done.others j (grind arith))
