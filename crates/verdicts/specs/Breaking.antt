-- When a rule is broken. Document 01, "Breaking a rule". Assumes nothing.
use Rattle.std.specs.Prelude.{ℕ, zero, suc, Bool, ◌&&◌, ◌||◌, not, List, [], ◌∷◌, map, get_or, eqb}
use Rattle.book.specs.Lists.{all, any, flat, up_to}
use Rattle.book.specs.Sets.{has}
use Rattle.book.specs.Blocks.{Book, Head, Rule, head_of, rule_at, rule_count}
use Rattle.book.specs.Rule.{covers_user, reference_count, restriction_count, restriction_mask}
use Rattle.lineage.specs.Accesses.{word_of}
use Rattle.verdicts.specs.Accesses.{Access, Accesses, fitting}

-- the choices of one element from each of n lists, list i first: in order, reference by reference
unfoldable pub choices_from : {A : Type 0} → ℕ → ℕ → (ℕ → List A) → List (List A)
choices_from zero i lists = [] ∷ []
choices_from (suc n) i lists = flat (λ x. map (λ c. x ∷ c) (choices_from n (suc i) lists)) (lists i)

-- the operations of a choice, reference by reference
unfoldable pub operations : List Access → List ℕ
operations choice = map (λ x. x.operation) choice

-- "A restriction accepts when each mask is zero or holds the chosen operation."
unfoldable pub accepts : (rule : Rule) (chosen : List ℕ) (j : ℕ) → Bool
accepts rule chosen j =
    all (λ i. eqb (restriction_mask rule j i) 0 || has (restriction_mask rule j i) (get_or chosen i 0))
    (up_to (reference_count rule))

-- "no restriction accepts the choice"
unfoldable pub refuses_all : (rule : Rule) (chosen : List ℕ) → Bool
refuses_all rule chosen = not (any (accepts rule chosen) (up_to (restriction_count rule)))

-- "one access can be chosen for each reference [..] so that no restriction accepts the choice"
unfoldable pub some_choice_refused : Head → Rule → Accesses → Bool
some_choice_refused head rule accesses =
    any (λ c. refuses_all rule (operations c)) (choices_from (reference_count rule) 0 (fitting head rule accesses))

-- "A rule is broken by a user and a set of accesses when it covers the user and [..]"
unfoldable pub breaks : (head : Head) (rule : Rule) (user : ℕ) → Accesses → Bool
breaks head rule user accesses = covers_user head rule user && some_choice_refused head rule accesses

-- "a 32-bit mask, bit r for rule r"
unfoldable pub broken_mask : (book : Book) (user : ℕ) → Accesses → ℕ
broken_mask book user accesses =
    word_of (λ r. breaks (head_of book) (rule_at book r) user accesses) (up_to (rule_count book))
