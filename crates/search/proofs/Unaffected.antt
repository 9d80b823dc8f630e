-- Document 02, N2: "Which rules are idle is unaffected". Assumes nothing.
use Prim.Native.Nat.{ℕ, ◌<◌}
use mathlib.Core.Path.{◌≡◌}
use mathlib.Core.List.{List}
use Rattle.book.specs.Blocks.{head_of, rule_at, rule_count}
use Rattle.book.specs.Refusals.{BookAccepted}
use Rattle.book.proofs.Accepted.{accepted_head}
use Rattle.search.specs.Choices.{Candidate, choices_of, for_users}
use Rattle.search.specs.Alone.{First, none, candidate_alone, first_alone, first_in}
use Rattle.search.proofs.Rising.{first_nothing, none_first}
use Rattle.search.proofs.Orders.{chosen_in, chosen_pass, first_none, none_alone, users_in, users_pass}

-- what document 01's order shows: by user, then reference by reference
unfoldable pub first_in_turn : (book : List ℕ) (r : ℕ) → First Candidate
first_in_turn book r =
    first_in (candidate_alone book r) (for_users (head_of book) (choices_of (head_of book) (rule_at book r)))

-- nothing is shown in the one order exactly when nothing is in the other
pub idle_unaffected :
    (book : List ℕ)
    → BookAccepted book
    → (r : ℕ)
    → r < rule_count book
    → (first_in_turn book r ≡ none → first_alone book r ≡ none) × (first_alone book r ≡ none → first_in_turn book r ≡ none)
unfolding first_in_turn
idle_unaffected book accepted r l =
    let head = head_of book in
    let rule = rule_at book r in
    let choices = choices_of head rule in (
      λ e.
          first_none book accepted r l
          (λ c user choice.
          first_nothing (candidate_alone book r) (for_users head choices) e c
          (users_in head choices c user (chosen_in head rule (accepted_head book accepted) c.choice choice))),
      λ e.
          none_first (candidate_alone book r) (for_users head choices)
          (λ c m.
          let p = users_pass head rule choices (chosen_pass head rule) c m in
          none_alone book accepted r l e c p.0 p.1),
    )
