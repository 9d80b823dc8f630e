-- Theorems about the definitions, by computation: the marks of the small shop and of books near it, masks handed in
-- wrong, the shop built up and a rule taken out by edits, and the refusals that come first. Assumes nothing.
use Prim.Native.Nat.{ℕ}
use mathlib.Core.Path.{◌≡◌, refl}
use mathlib.Core.List.{List, [], ◌∷◌, ◌++◌, map}
use lib.ListN.{replicate}
use Rattle.book.specs.Lists.{flat, all, any, up_to, from, keep}
use Rattle.book.specs.Sets.{has, less}
use Rattle.book.specs.Hierarchies.{upward_in, upward, under, leaf, covers, proper_descendant, support_along, support}
use Rattle.book.specs.Hierarchies.{parent_holds}
use Rattle.book.specs.Head.{category_start, withdrawn_operations, is_user, is_data_leaf, support_of, supports}
use Rattle.book.specs.Rule.{action_of, covers_user, in_leaf_set}
use Rattle.book.specs.Blocks.{head_of, weighted, check_sum, check_holds}
use Rattle.book.specs.Tests.{Outcome, first_failing, refused_or, answered}
use Rattle.book.specs.Refusals.{between, zeros, length_holds, kind_holds, users_counted, data_counted, columns_counted}
use Rattle.book.specs.Refusals.{functions_counted, rule_counts, reference_end, rule_zeros, rule_counted, users_ordered}
use Rattle.book.specs.Refusals.{own_holds, data_ordered, label_holds, labels_hold, functions_hold, user_numbers_hold}
use Rattle.book.specs.Refusals.{names_action, reference_holds, numbers_hold, leaf_sets_apart, references_apart}
use Rattle.book.specs.Refusals.{mask_allows, mask_holds, masks_hold, length_tests, check_tests, kind_tests}
use Rattle.book.specs.Refusals.{users_block_tests, data_block_tests, columns_block_tests, functions_block_tests}
use Rattle.book.specs.Refusals.{rule_block_tests, block_tests, content_tests, block_by_block, book_tests, seal_tests}
use Rattle.book.specs.Answers.{with_check, seal_bytes}
use Rattle.book.specs.Shop.{padded, block, users, categories, columns, functions, rule, rule0, rule1, rule2, shop}
use Rattle.std.specs.Prelude.{Ok, Err}
use Rattle.book.specs.Numbers.{number_of, place_of}
use Rattle.lineage.specs.Rows.{kind_of, kind_at}
use Rattle.lineage.specs.Paths.{applied_as, through, paths_by, paths_in, paths, labels, takes, counting}
use Rattle.lineage.specs.Paths.{first_operation, operation_of, carries}
use Rattle.lineage.specs.Accesses.{reaches, gives, is_access, word_of}
use Rattle.verdicts.specs.Actions.{action_fits, channel_fits}
use Rattle.verdicts.specs.Accesses.{accesses_of, every_access, fits, fitting}
use Rattle.verdicts.specs.Breaking.{choices_from, operations, accepts, refuses_all, some_choice_refused, breaks}
use Rattle.search.specs.Obtainable.{labelled, operated, can_be_had}
use Rattle.search.specs.Choices.{choices_of, weight, choices_by_weight, for_users, candidates}
use Rattle.search.specs.Shown.{lowest, column_for, function_for, column_row, apply_row, last_row, rows_of, access_rows}
use Rattle.search.specs.Shown.{shown_from, shown_plan}
use Rattle.search.specs.Alone.{breaks_alone, plan_breaks_alone, candidate_alone, first_in, first_alone}
use Rattle.search.specs.Answers.{rule_tests}
use Rattle.editing.specs.Books.{with_rule, without_rule, number_before}
use Rattle.editing.specs.Record.{Record, book_in, laid}
use Rattle.editing.specs.Answers.{room_tests, new_block_tests, number_tests, arrival_tests, departure_tests}
use Rattle.editing.specs.Answers.{arrive_tests, arrive_blocks, arrive_rules, arrive_marks}
use Rattle.editing.specs.Answers.{depart_tests, depart_blocks, depart_rules, depart_marks}
use Rattle.editing.specs.Edits.{Edit, Arrive, Depart, edited, record_after}
use Rattle.editing.specs.Marks.{is_none, idle_at, marks_of, arrival_marks, departure_marks}

-- the shop, and without each of its rules; two equal rules
unfoldable pub books : List (List ℕ)
books =
    shop
    ∷ without_rule shop 0
    ∷ without_rule shop 1
    ∷ without_rule shop 2
    ∷ with_rule (with_rule (head_of shop) rule1) rule1
    ∷ []

pub marks_afresh : ◌≡◌ {A = List ℕ} (map marks_of books) (5 ∷ 2 ∷ 0 ∷ 1 ∷ 3 ∷ [])
unfolding books all any up_to from has upward_in upward under leaf covers support_along support less category_start
    withdrawn_operations is_user is_data_leaf support_of supports covers_user in_leaf_set weighted check_sum with_check
    seal_bytes answered refused_or seal_tests first_failing padded block users categories columns functions rule rule0
    rule1 rule2 shop kind_of kind_at applied_as through paths_by paths_in paths labels takes counting first_operation
    operation_of carries reaches gives is_access word_of accesses_of flat keep every_access action_of action_fits channel_fits
    fits fitting choices_from operations accepts refuses_all some_choice_refused breaks labelled operated can_be_had
    choices_of weight choices_by_weight for_users candidates lowest column_for function_for column_row apply_row last_row
    rows_of access_rows shown_from shown_plan breaks_alone plan_breaks_alone candidate_alone first_in first_alone is_none idle_at
    marks_of with_rule without_rule
marks_afresh = refl

-- masks handed in wrong, as rule 2 arrives at the two others, and as rule 0 or rule 2 leaves the three: the arrival keeps
-- a set mark, the departure a clear one, and bits past the last rule mean nothing
pub marks_kept :
    ◌≡◌ {A = List ℕ}
    (map (arrival_marks shop 2) (0 ∷ 4294967294 ∷ [])
    ++ map (departure_marks (without_rule shop 0) 0) (3 ∷ 4294967295 ∷ [])
    ++ map (departure_marks (without_rule shop 2) 2) (4294967295 ∷ []))
    (5 ∷ 7 ∷ 0 ∷ 2 ∷ 1 ∷ [])
unfolding all any up_to from has upward_in upward under leaf covers support_along support less category_start
    withdrawn_operations is_user is_data_leaf support_of supports covers_user in_leaf_set weighted check_sum with_check
    seal_bytes answered refused_or seal_tests first_failing padded block users categories columns functions rule rule0
    rule1 rule2 shop kind_of kind_at applied_as through paths_by paths_in paths labels takes counting first_operation
    operation_of carries reaches gives is_access word_of accesses_of flat keep every_access action_of action_fits channel_fits
    fits fitting choices_from operations accepts refuses_all some_choice_refused breaks labelled operated can_be_had
    choices_of weight choices_by_weight for_users candidates lowest column_for function_for column_row apply_row last_row
    rows_of access_rows shown_from shown_plan breaks_alone plan_breaks_alone candidate_alone first_in first_alone is_none idle_at
    without_rule number_before arrival_marks departure_marks
marks_kept = refl

-- the shop without its rules
unfoldable pub start : Record
start = record { blocks = laid (head_of shop); rules = 0; marks = 0 }

-- its three rules arrive, and rule 0 leaves: the latest first
unfoldable pub afternoon : List Edit
afternoon = Depart 0 ∷ Arrive rule2 ∷ Arrive rule1 ∷ Arrive rule0 ∷ []

pub shop_afternoon :
    ◌≡◌ {A = ℕ × ℕ} ((record_after start afternoon).rules, (record_after start afternoon).marks) (2, 2)
unfolding start afternoon all any up_to from has upward_in upward under leaf covers proper_descendant support_along
    support less category_start withdrawn_operations parent_holds is_user is_data_leaf support_of supports covers_user
    in_leaf_set weighted check_sum check_holds between zeros length_holds kind_holds users_counted data_counted columns_counted
    functions_counted rule_counts reference_end rule_zeros rule_counted users_ordered own_holds data_ordered label_holds
    labels_hold functions_hold user_numbers_hold names_action reference_holds numbers_hold leaf_sets_apart references_apart
    mask_allows mask_holds masks_hold users_block_tests data_block_tests columns_block_tests functions_block_tests rule_block_tests
    block_tests check_tests kind_tests content_tests length_tests block_by_block book_tests seal_tests first_failing refused_or
    answered with_check seal_bytes padded block users categories columns functions rule rule0 rule1 rule2 shop kind_of
    kind_at applied_as through paths_by paths_in paths labels takes counting first_operation operation_of carries reaches
    gives is_access word_of accesses_of flat keep every_access action_of action_fits channel_fits fits fitting choices_from
    operations accepts refuses_all some_choice_refused breaks labelled operated can_be_had choices_of weight choices_by_weight
    for_users candidates lowest column_for function_for column_row apply_row last_row rows_of access_rows shown_from shown_plan
    breaks_alone plan_breaks_alone candidate_alone first_in first_alone rule_tests with_rule without_rule number_before is_none
    idle_at arrival_marks departure_marks book_in laid room_tests new_block_tests number_tests arrival_tests departure_tests
    arrive_tests arrive_blocks arrive_rules arrive_marks depart_tests depart_blocks depart_rules depart_marks edited
    record_after
shop_afternoon = refl

-- the refusal of a list of tests, its number and its place, or none
unfoldable pub refusal_of : Outcome → ℕ × ℕ
refusal_of (Ok done) = (0, 0)
refusal_of (Err refusal) = (number_of refusal, place_of refusal)

-- at an arrival 33 comes before 1, and 1 before the refusals of the book, which here has a head of zeros, of no kind; at a
-- departure 1 comes before all that is read, and the refusals of the book before 24
pub first_refusals :
    ◌≡◌ {A = List (ℕ × ℕ)}
    (map (λ t. refusal_of (first_failing t))
    (arrive_tests (replicate 2048 0) 32 []
    ∷ arrive_tests (replicate 2048 0) 4294967295 (replicate 512 0)
    ∷ arrive_tests (replicate 2048 0) 31 []
    ∷ arrive_tests (replicate 2048 0) 0 (replicate 512 0)
    ∷ arrive_tests (head_of shop) 0 (replicate 512 0)
    ∷ depart_tests (replicate 2048 0) 33 33
    ∷ depart_tests (replicate 2048 0) 0 0
    ∷ depart_tests (head_of shop) 0 0
    ∷ []))
    ((33, 0) ∷ (33, 0) ∷ (1, 0) ∷ (3, 0) ∷ (3, 4) ∷ (1, 0) ∷ (3, 0) ∷ (24, 0) ∷ [])
unfolding refusal_of number_of place_of all any up_to from has upward_in upward under leaf covers proper_descendant support_along support less
    category_start withdrawn_operations parent_holds is_user is_data_leaf support_of supports covers_user in_leaf_set weighted
    check_sum check_holds between zeros length_holds kind_holds users_counted data_counted columns_counted functions_counted
    rule_counts reference_end rule_zeros rule_counted users_ordered own_holds data_ordered label_holds labels_hold
    functions_hold user_numbers_hold names_action reference_holds numbers_hold leaf_sets_apart references_apart mask_allows
    mask_holds masks_hold users_block_tests data_block_tests columns_block_tests functions_block_tests rule_block_tests block_tests
    check_tests kind_tests content_tests length_tests block_by_block book_tests seal_tests first_failing refused_or answered
    with_check seal_bytes padded block users categories columns functions rule rule0 rule1 rule2 shop flat action_of
    rule_tests with_rule book_in room_tests new_block_tests number_tests arrival_tests departure_tests arrive_tests depart_tests
first_refusals = refl
