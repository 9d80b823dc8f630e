-- Theorems about the definitions, by computation: the starred line of document 01 on checks, that the small shop is
-- accepted with its three rules, and what the categories of N9's own case support. Assumes nothing.
use Prim.Native.Nat.{ℕ}
use mathlib.Core.Path.{◌≡◌, refl}
use mathlib.Core.List.{List, [], ◌∷◌, ◌++◌, map}
use lib.ListN.{replicate}
use Rattle.book.specs.Lists.{all, any, flat, up_to, from}
use Rattle.book.specs.Sets.{has, less}
use Rattle.book.specs.Hierarchies.{upward_in, upward, under, leaf, covers, proper_descendant}
use Rattle.book.specs.Hierarchies.{support_along, support}
use Rattle.book.specs.Hierarchies.{parent_holds}
use Rattle.book.specs.Head.{category_start, withdrawn_operations, is_user, is_data_leaf, support_of, supports}
use Rattle.book.specs.Rule.{action_of, in_leaf_set}
use Rattle.book.specs.Blocks.{head_of, weighted, check_sum, check_holds}
use Rattle.book.specs.Refusals.{between, zeros, length_holds, kind_holds, users_counted, data_counted, columns_counted}
use Rattle.book.specs.Refusals.{functions_counted, rule_counts, reference_end, rule_zeros, rule_counted, users_ordered}
use Rattle.book.specs.Refusals.{own_holds, data_ordered, label_holds, labels_hold, functions_hold, user_numbers_hold}
use Rattle.book.specs.Refusals.{names_action, reference_holds, numbers_hold, leaf_sets_apart, references_apart}
use Rattle.book.specs.Refusals.{mask_allows, mask_holds, masks_hold, length_tests, check_tests, kind_tests}
use Rattle.book.specs.Refusals.{users_block_tests, data_block_tests, columns_block_tests, functions_block_tests}
use Rattle.book.specs.Refusals.{rule_block_tests, block_tests, content_tests, block_by_block, book_tests, seal_tests}
use Rattle.book.specs.Refusals.{BookAccepted}
use Rattle.book.specs.Tests.{first_failing, refused_or, answered}
use Rattle.book.specs.Answers.{check_answer, with_check, seal_bytes}
use Rattle.book.specs.Streets.{reader, addresses, labelled, truncation, truncated, streets}
use Rattle.book.specs.Shop.{padded, block, users, categories, columns, functions, rule, rule0, rule1, rule2, shop}
use Rattle.std.specs.Prelude.{Result, Ok}
use Rattle.book.specs.declared.refusal.Refusal.{Refusal}
use Rattle.book.proofs.CheckLaws.{accepted_passes}

-- "* A block of kind 4, all else zero, has check 4; a block with only byte 509 set, to 255, has 64,529."
unfoldable pub check_cases : List (List ℕ × ℕ)
check_cases = (4 ∷ replicate 511 0, 4) ∷ (replicate 509 0 ++ (255 ∷ 0 ∷ 0 ∷ []), 64529) ∷ []

pub starred_checks : ◌≡◌ {A = List ℕ} (map (λ c. check_sum c.0) check_cases) (map (λ c. c.1) check_cases)
unfolding check_cases check_sum weighted
starred_checks = refl

-- the small shop, and the book of streets
accepted_books : (◌≡◌ {A = Result ℕ Refusal} (check_answer shop) (Ok 3)) × (◌≡◌ {A = Result ℕ Refusal} (check_answer streets) (Ok 1))
unfolding all any up_to from has upward_in upward under leaf covers proper_descendant support_along support parent_holds
    less category_start withdrawn_operations is_user is_data_leaf support_of supports action_of in_leaf_set weighted
    check_sum check_holds between zeros length_holds kind_holds users_counted data_counted columns_counted functions_counted
    rule_counts reference_end rule_zeros rule_counted users_ordered own_holds data_ordered label_holds labels_hold
    functions_hold user_numbers_hold names_action reference_holds numbers_hold leaf_sets_apart references_apart mask_allows
    mask_holds masks_hold users_block_tests data_block_tests columns_block_tests functions_block_tests rule_block_tests block_tests
    check_tests kind_tests content_tests length_tests block_by_block book_tests seal_tests flat first_failing refused_or
    answered check_answer with_check seal_bytes padded block users categories columns functions rule rule0 rule1 rule2
    shop reader addresses labelled truncation truncated streets
accepted_books = (refl, refl)

pub shop_accepted : ◌≡◌ {A = Result ℕ Refusal} (check_answer shop) (Ok 3)
shop_accepted = accepted_books.0

pub streets_accepted : ◌≡◌ {A = Result ℕ Refusal} (check_answer streets) (Ok 1)
streets_accepted = accepted_books.1

-- document 02, N9: Address supports truncation, Street does not, House does again; Lane does not, City does
pub streets_support :
    ◌≡◌ {A = List ℕ} (map (support_of (head_of streets)) (up_to 6)) (0 ∷ 2 ∷ 0 ∷ 2 ∷ 0 ∷ 2 ∷ [])
unfolding up_to from upward_in upward less support_along support category_start withdrawn_operations support_of weighted
    check_sum seal_tests first_failing refused_or answered with_check seal_bytes padded block rule reader addresses labelled
    truncation truncated streets
streets_support = refl

pub shop_passes : BookAccepted shop
shop_passes = (accepted_passes shop 3 shop_accepted).0
