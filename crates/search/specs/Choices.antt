-- The choices of a rule, and their order. Document 01, "Idle rules"; document 02, N2. Assumes nothing.
use Rattle.std.specs.Prelude.{ℕ, zero, suc, ◌+◌, Bool, true, false, ◌&&◌, ◌||◌, cond, List, [], ◌∷◌, map, eqb, ltb}
use Rattle.book.specs.Lists.{flat, up_to, keep}
use Rattle.book.specs.Blocks.{Head, Rule}
use Rattle.book.specs.Head.{is_user, user_count}
use Rattle.book.specs.Rule.{reference_count}
use Rattle.verdicts.specs.Accesses.{Access, fits, fitting, same}
use Rattle.verdicts.specs.Breaking.{choices_from}
use Rattle.search.specs.Obtainable.{can_be_had}

-- one access that can be had and fits for each of n references, reference i first
unfoldable pub is_choice_from : Head → Rule → (n i : ℕ) → List Access → Bool
is_choice_from head rule zero i [] = true
is_choice_from head rule zero i (x ∷ choice) = false
is_choice_from head rule (suc n) i [] = false
is_choice_from head rule (suc n) i (x ∷ choice) =
    (can_be_had head x && fits head rule i x) && is_choice_from head rule n (suc i) choice

-- "a choice holds, for each reference of r, one access that can be had, of fitting action and covered leaf"
unfoldable pub is_choice : Head → Rule → List Access → Bool
is_choice head rule choice = is_choice_from head rule (reference_count rule) 0 choice

-- all of them, in document 01's order
unfoldable pub choices_of : Head → Rule → List (List Access)
choices_of head rule = choices_from (reference_count rule) 0 (fitting head rule (can_be_had head))

-- "by action (projection first), leaf, operation, lower numbers first"
unfoldable pub access_before : Access → Access → Bool
access_before x y =
    ltb x.channel y.channel
    || (eqb x.channel y.channel
    && (ltb x.leaf y.leaf || (eqb x.leaf y.leaf && ltb x.operation y.operation)))

-- "reference by reference"
unfoldable pub choice_before : List Access → List Access → Bool
choice_before [] d = false
choice_before (x ∷ c) [] = false
choice_before (x ∷ c) (y ∷ d) = access_before x y || (same x y && choice_before c d)

-- how many "non-zero operations" a choice has
unfoldable pub weight : List Access → ℕ
weight [] = 0
weight (x ∷ choice) = cond (eqb x.operation 0) 0 1 + weight choice

-- document 02, N2: "the one with the fewest non-zero operations now comes first. Equal ones fall back to document 01's
-- order."
unfoldable pub lighter : List Access → List Access → Bool
lighter c d = ltb (weight c) (weight d) || (eqb (weight c) (weight d) && choice_before c d)

-- all choices in this order: those of weight 0, of weight 1, .. up to one function for each reference
unfoldable pub choices_by_weight : Head → Rule → List (List Access)
choices_by_weight head rule =
    flat (λ w. keep (λ c. eqb (weight c) w) (choices_of head rule)) (up_to (suc (reference_count rule)))

-- a user and a choice
pub record Candidate : Type 0 where
  pub user : ℕ
  pub choice : List Access

-- "Choices, and with them their users and shown plans, are ordered by user number, then [..]", and N2: "Among choices
-- for the same user"
unfoldable pub candidate_before : Candidate → Candidate → Bool
candidate_before c d = ltb c.user d.user || (eqb c.user d.user && lighter c.choice d.choice)

-- each user with each of some choices
unfoldable pub for_users : Head → List (List Access) → List Candidate
for_users head choices =
    flat (λ u. map (λ c. record { user = u; choice = c }) choices) (keep (is_user head) (up_to (user_count head)))

-- all of them in this order
unfoldable pub candidates : Head → Rule → List Candidate
candidates head rule = for_users head (choices_by_weight head rule)
