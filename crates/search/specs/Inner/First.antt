-- What the search says of a book: the first user and choice, as places; and how the answer is made of them. No call's
-- promise leans on this file. Assumes nothing.
use Rattle.std.specs.Prelude.{ℕ, ◌+◌, ◌*◌, ◌≤◌, ◌≡◌, List, Option, Some, None, ◌++◌, length, take, drop}
use Rattle.search.specs.Choices.{Candidate}
use Rattle.search.specs.Shown.{shown_from}
use Rattle.search.specs.Alone.{First, none, shown, first_alone}
use Rattle.search.specs.Answers.{Idleness, idleness_of, written}
use Rattle.search.specs.Inner.Places.{chosen_at, choice_at, rows_at}
use Rattle.search.specs.declared.users.Witness.{Witness}

-- what was found, as a user and a choice
unfoldable pub found_of : Option Witness → First Candidate
found_of None = none
found_of (Some w) =
    shown (record { user = w.user; choice = choice_at w.places.first w.places.second w.places.third })

unfoldable pub FirstNeeds : List ℕ → ℕ → Option Witness → Type 0
FirstNeeds book r found = first_alone book r ≡ found_of found

unfoldable pub answer_of : List ℕ → Option Witness → Idleness
answer_of head found = idleness_of head (found_of found)

unfoldable pub buffer_of : List ℕ → Option Witness → List ℕ → List ℕ
buffer_of head found buffer = written head (found_of found) buffer

-- the rows for the access at place p follow the first n rows of a plan
abbrev pub WithAccess : List ℕ → ℕ → ℕ → List ℕ → List ℕ → Type 0
WithAccess head n p before after =
    n + rows_at p ≤ 9 → take (4 * (n + rows_at p)) after ≡ take (4 * n) before ++ shown_from head n (chosen_at p)

-- the first bytes of a plan stand at the front of a buffer that has room for a whole plan
abbrev pub PlanCopied : List ℕ → ℕ → List ℕ → List ℕ → Type 0
PlanCopied plan count before after =
    36 ≤ length before → count ≤ 36 → after ≡ take count plan ++ drop count before
