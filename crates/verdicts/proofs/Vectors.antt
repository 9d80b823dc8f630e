-- Theorems about the definitions, by computation: all starred lines of document 01, as one list, with document 02's
-- mask for one of them; two plans beside that one; and N9's own case, truncation of a street. Assumes nothing.
use Prim.Native.Nat.{ℕ}
use mathlib.Core.Path.{◌≡◌, refl}
use mathlib.Core.List.{List, [], ◌∷◌, map}
use Rattle.book.specs.Lists.{flat, all, any, up_to, from, keep}
use Rattle.book.specs.Sets.{has, less}
use Rattle.book.specs.Hierarchies.{upward_in, upward, under, leaf, covers, proper_descendant, support_along, support}
use Rattle.book.specs.Hierarchies.{parent_holds}
use Rattle.book.specs.Head.{category_start, withdrawn_operations, is_user, is_data_leaf, support_of, supports}
use Rattle.book.specs.Rule.{action_of, covers_user, in_leaf_set}
use Rattle.book.specs.Blocks.{weighted, check_sum, check_holds}
use Rattle.book.specs.Refusals.{between, zeros, length_holds, kind_holds, users_counted, data_counted, columns_counted}
use Rattle.book.specs.Refusals.{functions_counted, rule_counts, reference_end, rule_zeros, rule_counted, users_ordered}
use Rattle.book.specs.Refusals.{own_holds, data_ordered, label_holds, labels_hold, functions_hold, user_numbers_hold}
use Rattle.book.specs.Refusals.{names_action, reference_holds, numbers_hold, leaf_sets_apart, references_apart}
use Rattle.book.specs.Refusals.{mask_allows, mask_holds, masks_hold, length_tests, check_tests, kind_tests}
use Rattle.book.specs.Refusals.{users_block_tests, data_block_tests, columns_block_tests, functions_block_tests}
use Rattle.book.specs.Refusals.{rule_block_tests, block_tests, content_tests, block_by_block, book_tests, seal_tests}
use Rattle.book.specs.Tests.{first_failing, refused_or, answered}
use Rattle.book.specs.Answers.{with_check, seal_bytes}
use Rattle.book.specs.Shop.{padded, block, users, categories, columns, functions, rule, rule0, rule1, rule2, shop}
use Rattle.book.specs.Streets.{reader, addresses, labelled, truncation, truncated, streets}
use Rattle.book.proofs.Vectors.{check_cases}
use Rattle.lineage.specs.Rows.{kind_of, kind_at, is_value, names, sound_as, row_holds}
use Rattle.lineage.specs.Paths.{applied_as, through, paths_by, paths_in, paths, labels, takes, counting}
use Rattle.lineage.specs.Paths.{first_operation, operation_of, carries}
use Rattle.lineage.specs.Accesses.{reaches, gives, is_access, word_of}
use Rattle.lineage.specs.Answers.{plan_length_holds, row_tests, plan_tests}
use Rattle.lineage.proofs.Vectors.{column, apply, concat_both, choose, output, condition, plan, state, city, price, avg, sum}
use Rattle.verdicts.specs.Actions.{action_fits, channel_fits}
use Rattle.verdicts.specs.Accesses.{accesses_of, every_access, fits, fitting}
use Rattle.verdicts.specs.Breaking.{choices_from, operations, accepts, refuses_all, some_choice_refused, breaks}
use Rattle.verdicts.specs.Breaking.{broken_mask}
use Rattle.verdicts.specs.Answers.{Judged, broken, user_tests, judge_tests, judge_answer}

-- the user, the rows of a plan, and the mask that Judge answers
unfoldable pub cases : List (ℕ × List (List ℕ) × ℕ)
cases =
    -- "Empty plan, user 1: 0."
    (1, [], 0)
    -- "State, City, avg(Price) output, user 1: 0."
    ∷ (1, state ∷ city ∷ price ∷ avg 2 ∷ output 0 ∷ output 1 ∷ output 3 ∷ [], 0)
    -- "State, sum(Price) output: user 1 gives 6, user 2 gives 2."
    ∷ (1, state ∷ price ∷ sum 1 ∷ output 0 ∷ output 2 ∷ [], 6)
    ∷ (2, state ∷ price ∷ sum 1 ∷ output 0 ∷ output 2 ∷ [], 2)
    -- "State, Price output, user 2: 3."
    ∷ (2, state ∷ price ∷ output 0 ∷ output 1 ∷ [], 3)
    -- "State output, Price as condition, user 1: 2."
    ∷ (1, state ∷ price ∷ output 0 ∷ condition 1 ∷ [], 2)
    -- "sum(avg(Price)) output, user 2: 0; avg(sum(Price)): 2."
    ∷ (2, price ∷ avg 0 ∷ sum 1 ∷ output 2 ∷ [], 0)
    ∷ (2, price ∷ sum 0 ∷ avg 1 ∷ output 2 ∷ [], 2)
    -- document 02, N5: "avg(concat(State, Price)) output by user 1 becomes 7 instead of 0"
    ∷ (1, state ∷ price ∷ concat_both 0 1 ∷ avg 2 ∷ output 3 ∷ [], 7)
    -- "Price and avg(Price) both output, user 2: 2."
    ∷ (2, price ∷ avg 0 ∷ output 0 ∷ output 1 ∷ [], 2)
    -- "Choose on Price between State and State, no output: user 2 gives 2."
    ∷ (2, price ∷ state ∷ choose 0 1 1 ∷ [], 2)
    ∷ []

-- the same for two plans that have an Apply with two rows
unfoldable pub mixing : List (ℕ × List (List ℕ) × ℕ)
mixing =
    -- what counted below it still counts: concat(State, avg(Price)) output, user 1
    (1, state ∷ price ∷ avg 1 ∷ concat_both 0 2 ∷ output 3 ∷ [], 0)
    -- it decides a Choose: concat(State, Price), no output, user 1
    ∷ (1, state ∷ price ∷ concat_both 0 1 ∷ choose 2 0 0 ∷ [], 2)
    ∷ []

-- document 02, N9: the rule of the book of streets demands truncation of every address. The columns are house, lane and
-- city, the function is truncation.
unfoldable pub truncations : List (List (List ℕ) × ℕ)
truncations =
    -- a city as it is
    (column 2 ∷ output 0 ∷ [], 1)
    -- truncate(city)
    ∷ (column 2 ∷ apply 0 0 ∷ output 1 ∷ [], 0)
    -- truncate(lane): Street withdraws it
    ∷ (column 1 ∷ apply 0 0 ∷ output 1 ∷ [], 1)
    -- truncate(house): House has it back
    ∷ (column 0 ∷ apply 0 0 ∷ output 1 ∷ [], 0)
    ∷ []

-- Judge's answers, and beside them the checks of the last starred line
pub starred :
    ◌≡◌ {A = List Judged × List ℕ}
    (map (λ c. judge_answer shop c.0 (plan c.1)) cases, map (λ c. check_sum c.0) check_cases)
    (map (λ c. broken c.2) cases, map (λ c. c.1) check_cases)
unfolding cases check_cases plan all any up_to from has upward_in upward under leaf covers proper_descendant support_along
    support less category_start withdrawn_operations parent_holds is_user is_data_leaf support_of supports covers_user
    in_leaf_set weighted check_sum check_holds between zeros length_holds kind_holds users_counted data_counted columns_counted
    functions_counted rule_counts reference_end rule_zeros rule_counted users_ordered own_holds data_ordered label_holds
    labels_hold functions_hold user_numbers_hold names_action reference_holds numbers_hold leaf_sets_apart references_apart
    mask_allows mask_holds masks_hold users_block_tests data_block_tests columns_block_tests functions_block_tests rule_block_tests
    block_tests check_tests kind_tests content_tests length_tests block_by_block book_tests seal_tests first_failing refused_or
    answered with_check seal_bytes padded block users categories columns functions rule rule0 rule1 rule2 shop kind_of
    kind_at is_value names sound_as row_holds plan_length_holds row_tests plan_tests applied_as through paths_by paths_in paths
    labels takes counting first_operation operation_of carries reaches gives is_access word_of accesses_of flat keep
    every_access action_of action_fits channel_fits fits fitting choices_from operations accepts refuses_all
    some_choice_refused breaks broken_mask user_tests judge_tests judge_answer
starred = refl

judged_too :
    (◌≡◌ {A = List Judged} (map (λ c. judge_answer shop c.0 (plan c.1)) mixing) (map (λ c. broken c.2) mixing))
    × (◌≡◌ {A = List Judged} (map (λ c. judge_answer streets 0 (plan c.0)) truncations) (map (λ c. broken c.1) truncations))
unfolding mixing truncations plan all any up_to from has upward_in upward under leaf covers proper_descendant
    support_along support less category_start withdrawn_operations parent_holds is_user is_data_leaf support_of supports
    covers_user in_leaf_set weighted check_sum check_holds between zeros length_holds kind_holds users_counted data_counted
    columns_counted functions_counted rule_counts reference_end rule_zeros rule_counted users_ordered own_holds data_ordered
    label_holds labels_hold functions_hold user_numbers_hold names_action reference_holds numbers_hold leaf_sets_apart
    references_apart mask_allows mask_holds masks_hold users_block_tests data_block_tests columns_block_tests
    functions_block_tests rule_block_tests block_tests check_tests kind_tests content_tests length_tests block_by_block book_tests
    seal_tests first_failing refused_or answered with_check seal_bytes padded block users categories columns functions rule
    rule0 rule1 rule2 shop reader addresses labelled truncation truncated streets kind_of kind_at is_value names sound_as
    row_holds plan_length_holds row_tests plan_tests applied_as through paths_by paths_in paths labels takes counting
    first_operation operation_of carries reaches gives is_access word_of accesses_of flat keep every_access action_of
    action_fits channel_fits fits fitting choices_from operations accepts refuses_all some_choice_refused breaks broken_mask
    user_tests judge_tests judge_answer
judged_too = (refl, refl)

pub mixing_judged :
    ◌≡◌ {A = List Judged} (map (λ c. judge_answer shop c.0 (plan c.1)) mixing) (map (λ c. broken c.2) mixing)
mixing_judged = judged_too.0

pub streets_judged :
    ◌≡◌ {A = List Judged}
    (map (λ c. judge_answer streets 0 (plan c.0)) truncations)
    (map (λ c. broken c.1) truncations)
streets_judged = judged_too.1
