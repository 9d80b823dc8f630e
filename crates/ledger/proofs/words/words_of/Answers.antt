-- As many words of the user as there are, and zeros for the others.
use Rattle.std.proofs.Common.{rules, sym, ◌∙◌}
use Rattle.std.proofs.lemmas.Slice.{between_to_end}
use lib.ListN.{get_or-eq_default}
use Rattle.lineage.proofs.Steps.{get_d_zeros}
use Rattle.ledger.proofs.WordLaws.{words_are, words_front}
use Rattle.ledger.proofs.words.words_of.Goals as goal

pub returns-in-Some : goal.returns-in-Some
returns-in-Some c =
    words_front _ _ _ _ _ (search (rules, between_to_end)) (search (rules)) c.min-n.ensures

pub returns-in_default : goal.returns-in_default
returns-in_default c =
    words_are _ _ _ (search rules) (λ w l. get_d_zeros 32 w ∙ sym (get_or-eq_default c.args.ledger.now 0 (search rules)))
