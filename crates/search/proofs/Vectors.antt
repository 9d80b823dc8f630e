-- Theorems about the definitions, by computation: what is shown for rules of the small shop and of two books near it,
-- and what Idle answers for each rule of the small shop. Assumes nothing.
use Prim.Native.Nat.{ℕ, ◌-◌}
use mathlib.Core.Path.{◌≡◌, refl, ◌∙◌}
use mathlib.Core.List.{List, [], ◌∷◌, ◌++◌, map}
use lib.ListN.{length, replicate}
use Rattle.std.specs.Prelude.{Err}
use Rattle.book.specs.Lists.{flat, all, any, up_to, from, keep}
use Rattle.book.specs.Sets.{has, less}
use Rattle.book.specs.Hierarchies.{upward_in, upward, under, leaf, covers, support_along, support}
use Rattle.book.specs.Head.{category_start, withdrawn_operations, is_user, is_data_leaf, support_of, supports}
use Rattle.book.specs.Rule.{action_of, covers_user, in_leaf_set}
use Rattle.book.specs.Blocks.{head_of, weighted, check_sum}
use Rattle.book.specs.Tests.{first_failing, refused_or, answered}
use Rattle.book.specs.Refusals.{BookAccepted, book_tests, seal_tests}
use Rattle.book.specs.Answers.{with_check, seal_bytes}
use Rattle.book.specs.Shop.{padded, block, users, categories, columns, functions, rule, rule0, rule1, rule2, shop}
use Rattle.book.proofs.Answers.{first_append}
use Rattle.book.proofs.Vectors.{shop_passes}
use Rattle.lineage.specs.Rows.{kind_of, kind_at}
use Rattle.lineage.specs.Paths.{applied_as, through, paths_by, paths_in, paths, labels, takes, counting}
use Rattle.lineage.specs.Paths.{first_operation, operation_of, carries}
use Rattle.lineage.specs.Accesses.{reaches, gives, is_access}
use Rattle.verdicts.specs.Actions.{action_fits, channel_fits}
use Rattle.verdicts.specs.Accesses.{Access, accesses_of, every_access, fits, fitting}
use Rattle.verdicts.specs.Breaking.{choices_from, operations, accepts, refuses_all, some_choice_refused, breaks}
use Rattle.search.specs.Obtainable.{labelled, operated, can_be_had}
use Rattle.search.specs.Choices.{Candidate, choices_of, weight, choices_by_weight, for_users, candidates}
use Rattle.search.specs.Shown.{lowest, column_for, function_for, column_row, apply_row, last_row, rows_of, access_rows}
use Rattle.search.specs.Shown.{shown_from, shown_plan}
use Rattle.search.specs.Alone.{First, none, shown, breaks_alone, plan_breaks_alone, candidate_alone, first_in, first_alone}
use Rattle.search.specs.Answers.{rule_tests, buffer_tests, idle_tests, Idleness, idle, needed, idleness_of, idle_answer}
use Rattle.search.specs.Answers.{written, idle_buffer}
use Rattle.search.proofs.Unaffected.{first_in_turn}
use Rattle.book.specs.declared.refusal.Refusal.TheVariants.{NoRule, BufferLength}

-- Books near the small shop, with two other rules

unfoldable pub two : List ℕ → List ℕ → List ℕ
two first second = users ++ (categories ++ (columns ++ (functions ++ (first ++ second))))

-- Analyst, projection Address, projection Price, [none, {avg}]; Analyst, projection State, projection Price,
-- [none, {sum}]
unfoldable pub averages : List ℕ
averages =
    two (rule 2 0 (1 ∷ 1 ∷ []) (4 ∷ 1 ∷ []) [] (0 ∷ 0 ∷ 0 ∷ 2 ∷ []))
    (rule 2 0 (2 ∷ 1 ∷ []) (4 ∷ 1 ∷ []) [] (0 ∷ 0 ∷ 0 ∷ 4 ∷ []))

-- Analyst, access Price, [{avg}]; Report, access Price, [{sum}]
unfoldable pub prices : List ℕ
prices = two rule1 (rule 1 1 (4 ∷ 3 ∷ []) [] [] (0 ∷ 4 ∷ []))

abbrev projected : ℕ → ℕ → Access
projected d k = record { channel = 0; leaf = d; operation = k }

abbrev user1 : List Access → First Candidate
user1 choice = shown (record { user = 1; choice = choice })

-- a book, a rule of it, the user and the choice that are shown, and those that document 01's order has first
unfoldable pub firsts : List (List ℕ × ℕ × First Candidate × First Candidate)
firsts =
    -- "rule 0 idle", "rule 1 user 1 plan 01020000 04000000", "rule 2 idle"
    (shop, 0, none, none)
    ∷ (shop, 1, user1 (projected 4 0 ∷ []), user1 (projected 4 0 ∷ []))
    ∷ (shop, 2, none, none)
    -- City and Price, no longer State and sum(Price)
    ∷ (averages, 0, user1 (projected 3 0 ∷ projected 4 0 ∷ []), user1 (projected 2 0 ∷ projected 4 2 ∷ []))
    -- State and avg(Price): nothing lighter breaks it alone
    ∷ (averages, 1, user1 (projected 2 0 ∷ projected 4 1 ∷ []), user1 (projected 2 0 ∷ projected 4 1 ∷ []))
    -- sum(Price) of user 1 and not Price of user 2: "Among choices for the same user"
    ∷ (prices, 0, user1 (projected 4 2 ∷ []), user1 (projected 4 2 ∷ []))
    ∷ []

pub firsts_shown :
    ◌≡◌ {A = List (First Candidate × First Candidate)}
    (map (λ c. (first_alone c.0 c.1, first_in_turn c.0 c.1)) firsts)
    (map (λ c. (c.2, c.3)) firsts)
unfolding firsts two averages prices all any up_to from has upward_in upward under leaf covers support_along support
    less category_start withdrawn_operations is_user is_data_leaf support_of supports covers_user in_leaf_set weighted
    check_sum with_check seal_bytes answered refused_or seal_tests first_failing padded block users categories columns
    functions rule rule0 rule1 rule2 shop kind_of kind_at applied_as through paths_by paths_in paths labels takes counting
    first_operation operation_of carries reaches gives is_access accesses_of flat keep every_access action_of action_fits
    channel_fits fits fitting choices_from operations accepts refuses_all some_choice_refused breaks labelled operated
    can_be_had choices_of weight choices_by_weight for_users candidates lowest column_for function_for column_row apply_row
    last_row rows_of access_rows shown_from shown_plan breaks_alone plan_breaks_alone candidate_alone first_in first_alone
    first_in_turn
firsts_shown = refl

-- n bytes to be written over
abbrev ones : ℕ → List ℕ
ones n = replicate n 1

-- Idle's answer and the buffer on leaving, for a book that is accepted
unfoldable outcome : List ℕ → ℕ → List ℕ → Idleness × List ℕ
outcome book r buffer =
    let tests = rule_tests book r ++ buffer_tests buffer in (
      answered tests Err (idleness_of (head_of book) (first_alone book r)),
      answered tests (λ refusal. buffer) (written (head_of book) (first_alone book r) buffer),
    )

after_check :
    (book : List ℕ) (r : ℕ) (buffer : List ℕ)
    → BookAccepted book
    → ◌≡◌ {A = Idleness × List ℕ} (idle_answer book r buffer, idle_buffer book r buffer) (outcome book r buffer)
unfolding idle_answer idle_buffer idle_tests answered outcome
after_check book r buffer accepted =
    rw (
      first_append (book_tests book ++ rule_tests book r) (buffer_tests buffer),
      first_append (book_tests book) (rule_tests book r),
      first_append (rule_tests book r) (buffer_tests buffer),
      accepted,
    )

map_same : {A B : Type 0} (f g : A → B) (l : List A) → ((x : A) → f x ≡ g x) → map f l ≡ map g l
map_same f g [] h = refl
map_same f g (x ∷ l) h = rw (h x, map_same f g l h)

-- the rule, the buffer's length, what is answered, and the bytes that are written
unfoldable pub cases : List (ℕ × ℕ × Idleness × List ℕ)
cases =
    (0, 40, idle, [])
    ∷ (1, 40, needed 1 2, 1 ∷ 2 ∷ 0 ∷ 0 ∷ 4 ∷ 0 ∷ 0 ∷ 0 ∷ [])
    ∷ (2, 40, idle, [])
    -- 24: "no such rule"
    ∷ (3, 40, Err NoRule, [])
    -- 25: "buffer under 36 bytes"
    ∷ (1, 36, needed 1 2, 1 ∷ 2 ∷ 0 ∷ 0 ∷ 4 ∷ 0 ∷ 0 ∷ 0 ∷ [])
    ∷ (1, 35, Err BufferLength, [])
    -- 24 comes first
    ∷ (3, 35, Err NoRule, [])
    ∷ []

shop_outcomes :
    ◌≡◌ {A = List (Idleness × List ℕ)}
    (map (λ c. outcome shop c.0 (ones c.1)) cases)
    (map (λ c. (c.2, c.3 ++ ones (c.1 - length c.3))) cases)
unfolding cases all any up_to from has upward_in upward under leaf covers support_along support less category_start
    withdrawn_operations is_user is_data_leaf support_of supports covers_user in_leaf_set weighted check_sum with_check
    seal_bytes answered refused_or seal_tests first_failing padded block users categories columns functions rule rule0
    rule1 rule2 shop kind_of kind_at applied_as through paths_by paths_in paths labels takes counting first_operation
    operation_of carries reaches gives is_access accesses_of flat keep every_access action_of action_fits channel_fits fits
    fitting choices_from operations accepts refuses_all some_choice_refused breaks labelled operated can_be_had choices_of
    weight choices_by_weight for_users candidates lowest column_for function_for column_row apply_row last_row rows_of
    access_rows shown_from shown_plan breaks_alone plan_breaks_alone candidate_alone first_in first_alone rule_tests buffer_tests
    idleness_of written outcome
shop_outcomes = refl

-- what Idle answers, and the buffer on leaving: the written bytes, then the rest unchanged
pub shop_answers :
    ◌≡◌ {A = List (Idleness × List ℕ)}
    (map (λ c. (idle_answer shop c.0 (ones c.1), idle_buffer shop c.0 (ones c.1))) cases)
    (map (λ c. (c.2, c.3 ++ ones (c.1 - length c.3))) cases)
shop_answers =
    map_same (λ c. (idle_answer shop c.0 (ones c.1), idle_buffer shop c.0 (ones c.1)))
    (λ c. outcome shop c.0 (ones c.1))
    cases (λ c. after_check shop c.0 (ones c.1) shop_passes)
    ∙ shop_outcomes
