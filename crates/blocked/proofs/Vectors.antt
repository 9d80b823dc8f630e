-- Theorems about the definitions, by computation: what Blocked and Culprits answer for each rule of the small shop, and
-- of books near it. Assumes nothing.
use Prim.Native.Nat.{ℕ}
use mathlib.Core.Path.{◌≡◌, refl, ◌∙◌}
use mathlib.Core.List.{List, [], ◌∷◌, ◌++◌, map}
use Rattle.std.specs.Prelude.{Some, Ok, Err}
use Rattle.book.specs.Lists.{all, any, flat, up_to, from, keep}
use Rattle.book.specs.Sets.{has, less}
use Rattle.book.specs.Hierarchies.{upward_in, upward, under, leaf, covers, proper_descendant, support_along, support}
use Rattle.book.specs.Hierarchies.{parent_holds}
use Rattle.book.specs.Head.{category_start, withdrawn_operations, is_user, is_data_leaf, support_of, supports}
use Rattle.book.specs.Rule.{action_of, covers_user, in_leaf_set}
use Rattle.book.specs.Blocks.{Book, rule_at, weighted, check_sum, check_holds}
use Rattle.book.specs.Refusals.{between, zeros, length_holds, kind_holds, users_counted, data_counted, columns_counted}
use Rattle.book.specs.Refusals.{functions_counted, rule_counts, reference_end, rule_zeros, rule_counted, users_ordered}
use Rattle.book.specs.Refusals.{own_holds, data_ordered, label_holds, labels_hold, functions_hold, user_numbers_hold}
use Rattle.book.specs.Refusals.{names_action, reference_holds, numbers_hold, leaf_sets_apart, references_apart}
use Rattle.book.specs.Refusals.{mask_allows, mask_holds, masks_hold, length_tests, check_tests, kind_tests}
use Rattle.book.specs.Refusals.{users_block_tests, data_block_tests, columns_block_tests, functions_block_tests}
use Rattle.book.specs.Refusals.{rule_block_tests, block_tests, content_tests, block_by_block, book_tests, seal_tests}
use Rattle.book.specs.Refusals.{BookAccepted}
use Rattle.book.specs.Tests.{Outcome, first_failing, refused_or, answered}
use Rattle.book.specs.Answers.{with_check, seal_bytes}
use Rattle.book.specs.Shop.{padded, block, users, categories, columns, functions, rule, rule0, rule1, rule2, shop}
use Rattle.book.specs.declared.refusal.Refusal.{Refusal}
use Rattle.book.specs.declared.refusal.Refusal.TheVariants.{NoRule, RuleForbids}
use Rattle.book.proofs.Answers.{first_append}
use Rattle.lineage.specs.Accesses.{word_of}
use Rattle.lineage.specs.Paths.{labels}
use Rattle.verdicts.specs.Actions.{action_fits, channel_fits}
use Rattle.verdicts.specs.Accesses.{same, every_access, fits, fitting}
use Rattle.verdicts.specs.Breaking.{choices_from, operations, accepts, refuses_all, some_choice_refused, breaks}
use Rattle.search.specs.Obtainable.{labelled, operated, can_be_had}
use Rattle.search.specs.Alone.{first_in}
use Rattle.search.specs.Answers.{rule_tests}
use Rattle.blocked.specs.Associations.{access_to, in_scope_at, every_datum, associations, scope}
use Rattle.blocked.specs.Open.{operation_choices, some_broken, is_closed_under, first_closed}
use Rattle.blocked.specs.Few.{with_asking, others, without, after_trials, leaves_closed, few_left, few_rules}
use Rattle.blocked.specs.Answers.{forbid_tests, blocked_tests, datum_byte, closed_answer, blocking_of, blocked_answer}
use Rattle.blocked.specs.Answers.{Blocking, Causes, causes_of, culprits_answer, few_answer, open_answer, unblocked}

-- The rules

-- "Report, access Price, [{sum}]"
unfoldable pub sums : List ℕ
sums = rule 1 1 (4 ∷ 3 ∷ []) [] [] (0 ∷ 4 ∷ [])

-- Analyst, access Price, with one mask
unfoldable pub prices : ℕ → List ℕ
prices mask = rule 1 0 (4 ∷ 3 ∷ []) [] [] (0 ∷ mask ∷ [])

-- Analyst, projection State, projection City, access Price, [none, none, {avg}]
unfoldable pub three : List ℕ
three = rule 3 0 (2 ∷ 1 ∷ []) (3 ∷ 1 ∷ []) (4 ∷ 3 ∷ []) (0 ∷ 0 ∷ 0 ∷ 0 ∷ 0 ∷ 2 ∷ [])

-- a rule that forbids: references, user category, two references
unfoldable pub forbids : ℕ → ℕ → List ℕ → List ℕ → List ℕ
forbids n user first second = block (padded 16 (5 ∷ n ∷ user ∷ []) ++ (padded 16 first ++ second))

-- The books

-- a book with the shop's users and data, and other columns, functions and rules
unfoldable pub near : List ℕ → List ℕ → List ℕ → List ℕ
near labels operations rules = users ++ (categories ++ (block labels ++ (block operations ++ rules)))

-- Marketing is forbidden conditions on Price
unfoldable pub conditions : List ℕ
conditions =
    near (3 ∷ 4 ∷ 2 ∷ 3 ∷ 4 ∷ 255 ∷ []) (4 ∷ 3 ∷ 0 ∷ 1 ∷ 2 ∷ []) (three ++ forbids 1 2 (4 ∷ 2 ∷ []) [])

-- Report is forbidden City and Price together
unfoldable pub together : List ℕ
together =
    near (3 ∷ 4 ∷ 2 ∷ 3 ∷ 4 ∷ 255 ∷ []) (4 ∷ 3 ∷ 0 ∷ 1 ∷ 2 ∷ [])
    (rule0 ++ (rule1 ++ forbids 2 1 (3 ∷ 1 ∷ []) (4 ∷ 1 ∷ [])))

-- Analyst is forbidden State, which a column carries or not
unfoldable pub states : List ℕ → List ℕ
states labels = near labels (4 ∷ 3 ∷ 0 ∷ 1 ∷ 2 ∷ []) (rule0 ++ forbids 1 0 (2 ∷ 1 ∷ []) [])

-- no function has avg
unfoldable pub no_avg : List ℕ
no_avg = near (3 ∷ 4 ∷ 2 ∷ 3 ∷ 4 ∷ 255 ∷ []) (4 ∷ 2 ∷ 0 ∷ 2 ∷ []) rule1

-- Price has three operations, of which each of three rules accepts two
unfoldable pub threes : List ℕ
threes =
    users
    ++ (block (2 ∷ 5 ∷ 0 ∷ 0 ∷ 0 ∷ 0 ∷ 0 ∷ 0 ∷ 1 ∷ 0 ∷ 0 ∷ 1 ∷ 0 ∷ 0 ∷ 0 ∷ 0 ∷ 14 ∷ [])
    ++ (columns ++ (block (4 ∷ 3 ∷ 1 ∷ 2 ∷ 3 ∷ []) ++ (prices 6 ++ (prices 12 ++ prices 10)))))

-- what both answer for a rule
abbrev Both : Type 0
Both = Blocking × Causes

abbrev open_to_all : Both
open_to_all = (open_answer, unblocked)

abbrev refused : Refusal → Both
refused refusal = (Err refusal, Err refusal)

-- user, the bytes of the references, and the other rules
abbrev closed : ℕ → ℕ → ℕ → ℕ → ℕ → Both
closed user first second third others =
    (Ok (Some (record { user = user; first = first; second = second; third = third })), few_answer others)

-- a book, rules of it, and what is answered
unfoldable pub cases : List (Book × List ℕ × List Both)
cases =
    (shop, 0 ∷ 1 ∷ 2 ∷ 3 ∷ [], open_to_all ∷ open_to_all ∷ open_to_all ∷ refused NoRule ∷ [])
    -- avg for one rule, sum for another: no operation on Price is left for Report. Rule 0 takes both, so rules 1 and 3
    -- are needed; rule 2 demands avg as rule 1 does, and is dropped
    ∷ (
      shop ++ sums,
      0 ∷ 1 ∷ 2 ∷ 3 ∷ 4 ∷ [],
      closed 1 130 132 0 10 ∷ closed 1 132 0 0 8 ∷ closed 1 130 132 0 8 ∷ closed 1 132 0 0 2 ∷ refused NoRule ∷ [],
    )
    -- two rules that demand sum: the lower number stays
    ∷ (
      shop ++ (sums ++ sums),
      0 ∷ 1 ∷ 3 ∷ 4 ∷ [],
      closed 1 130 132 0 10 ∷ closed 1 132 0 0 8 ∷ closed 1 132 0 0 2 ∷ closed 1 132 0 0 2 ∷ [],
    )
    -- three needed together
    ∷ (threes, 0 ∷ 1 ∷ 2 ∷ [], closed 1 132 0 0 6 ∷ closed 1 132 0 0 5 ∷ closed 1 132 0 0 3 ∷ [])
    -- a rule that forbids closes too; 26 for that rule; 24 comes first
    ∷ (conditions, 0 ∷ 1 ∷ 2 ∷ [], closed 2 130 131 196 2 ∷ refused RuleForbids ∷ refused NoRule ∷ [])
    -- Price alone stays open
    ∷ (together, 0 ∷ 1 ∷ 2 ∷ [], closed 1 131 132 0 4 ∷ open_to_all ∷ refused RuleForbids ∷ [])
    -- "one covered leaf that some column carries"
    ∷ (states (3 ∷ 2 ∷ 3 ∷ 4 ∷ []), 0 ∷ [], open_to_all ∷ [])
    ∷ (states (3 ∷ 3 ∷ 4 ∷ 3 ∷ 2 ∷ []), 0 ∷ [], closed 1 130 132 0 2 ∷ [])
    -- "Operations are those that can be had": the rule closes what it asks for itself. "The mask may be empty."
    ∷ (no_avg, 0 ∷ [], closed 1 132 0 0 0 ∷ [])
    ∷ []

-- By computation

-- what is answered for a book that is accepted
unfoldable told : {A : Type 0} (book : Book) (r : ℕ) (refuse : Refusal → A) (value : A) → A
told book r refuse value = answered (rule_tests book r ++ forbid_tests (rule_at book r)) refuse value

unfoldable outcome : Book → ℕ → Both
outcome book r =
    let first = first_closed book r in
    (told book r Err (blocking_of first), told book r Err (causes_of book r first))

cases_outcomes :
    ◌≡◌ {A = List (List Both)} (map (λ c. map (outcome c.0) c.1) cases) (map (λ c. c.2) cases)
unfolding all any up_to from has upward_in upward under leaf covers support_along support less category_start
    withdrawn_operations is_user is_data_leaf support_of supports covers_user in_leaf_set weighted check_sum with_check
    seal_bytes answered refused_or seal_tests first_failing padded block users categories columns functions rule rule0
    rule1 rule2 shop labels same flat keep every_access action_of action_fits channel_fits fits fitting choices_from
    operations accepts refuses_all some_choice_refused breaks labelled operated can_be_had first_in access_to in_scope_at
    every_datum associations scope operation_choices some_broken is_closed_under first_closed word_of with_asking others
    without after_trials leaves_closed few_left few_rules rule_tests forbid_tests datum_byte closed_answer blocking_of causes_of
    told outcome sums three forbids prices near conditions together states no_avg threes cases
cases_outcomes = refl

cases_pass : ◌≡◌ {A = List Outcome} (map (λ c. first_failing (book_tests c.0)) cases) (map (λ c. Ok tt) cases)
unfolding all any up_to from has upward_in upward under leaf covers proper_descendant support_along support less
    category_start withdrawn_operations parent_holds is_user is_data_leaf support_of supports in_leaf_set weighted check_sum
    check_holds between zeros length_holds kind_holds users_counted data_counted columns_counted functions_counted rule_counts
    reference_end rule_zeros rule_counted users_ordered own_holds data_ordered label_holds labels_hold functions_hold
    user_numbers_hold action_of names_action reference_holds numbers_hold leaf_sets_apart references_apart mask_allows mask_holds
    masks_hold users_block_tests data_block_tests columns_block_tests functions_block_tests rule_block_tests block_tests
    check_tests kind_tests content_tests length_tests block_by_block book_tests seal_tests flat first_failing refused_or
    answered with_check seal_bytes padded block users categories columns functions rule rule0 rule1 rule2 shop sums
    three forbids near conditions together states no_avg prices threes cases
cases_pass = refl

-- The answers

after_check :
    {A : Type 0} (book : Book) (r : ℕ) (refuse : Refusal → A) (value : A)
    → BookAccepted book
    → answered (blocked_tests book r) refuse value ≡ told book r refuse value
unfolding blocked_tests answered told
after_check book r refuse value accepted =
    rw (
      first_append (book_tests book ++ rule_tests book r) (forbid_tests (rule_at book r)),
      first_append (book_tests book) (rule_tests book r),
      first_append (rule_tests book r) (forbid_tests (rule_at book r)),
      accepted,
    )

answers : Book → ℕ → Both
answers book r = (blocked_answer book r, culprits_answer book r)

rules_answers : (book : Book) → BookAccepted book → (rules : List ℕ) → map (answers book) rules ≡ map (outcome book) rules
unfolding blocked_answer culprits_answer answers outcome
rules_answers book accepted [] = refl
rules_answers book accepted (r ∷ rules) =
    rw (
      after_check book r Err (blocking_of (first_closed book r)) accepted,
      after_check book r Err (causes_of book r (first_closed book r)) accepted,
      rules_answers book accepted rules,
    )

each_answers :
    (l : List (Book × List ℕ × List Both))
    → ◌≡◌ {A = List Outcome} (map (λ c. first_failing (book_tests c.0)) l) (map (λ c. Ok tt) l)
    → map (λ c. map (answers c.0) c.1) l ≡ map (λ c. map (outcome c.0) c.1) l
each_answers [] h = refl
each_answers (c ∷ l) h =
    let accepted : first_failing (book_tests c.0) ≡ Ok tt = cc in
    let rest : ◌≡◌ {A = List Outcome} (map (λ d. first_failing (book_tests d.0)) l) (map (λ d. Ok tt) l) = cc in
    rw (rules_answers c.0 accepted c.1, each_answers l rest)

-- what Blocked and Culprits answer
pub cases_answers :
    ◌≡◌ {A = List (List Both)} (map (λ c. map (λ r. (blocked_answer c.0 r, culprits_answer c.0 r)) c.1) cases)
    (map (λ c. c.2) cases)
unfolding answers
cases_answers = each_answers cases cases_pass ∙ cases_outcomes
