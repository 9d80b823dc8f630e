-- What an accepted book gives: the laws of its head and of each rule. Assumes nothing.
use Prim.Native.Nat.{ℕ, ◌+◌, ◌*◌, ◌-◌, ◌≤◌, ◌<◌}
use native.Mathlib.Omega.{arith}
use mathlib.Core.Path.{◌≡◌}
use mathlib.Core.Bool.{Bool, true, false, ◌&&◌, ◌||◌, not}
use mathlib.Core.List.{List, ◌++◌}
use lib.ListN.{length}
use lib.Dec.{eqb, ltb, leb}
use lib.Bits.{bit_and}
use borrow.Author.Tests.{leb-true, ltb-true, eqb-true, not-true}
use Rattle.book.specs.Lists.{all, up_to}
use Rattle.book.specs.Sets.{has}
use Rattle.book.specs.Hierarchies.{parent_holds, proper_descendant}
use Rattle.book.specs.Head.{user_count, user_parent, data_count, data_parent, own_operations, withdrawn_operations}
use Rattle.book.specs.Head.{column_count, label, function_count, operation}
use Rattle.book.specs.Rule.{reference_count, user_category, excluded_user_count, excluded_users, restriction_count}
use Rattle.book.specs.Rule.{data_category, action, exclusion_count, exclusions, restriction_mask, in_leaf_set}
use Rattle.book.specs.Blocks.{head_of, rule_at, block_count, rule_count}
use Rattle.book.specs.Tests.{Passes}
use Rattle.book.specs.Refusals.{BookAccepted, book_tests, block_by_block, block_tests, check_tests}
use Rattle.book.specs.Refusals.{content_tests, kind_tests, length_holds, length_tests}
use Rattle.book.specs.Refusals.{users_ordered, own_holds, names_action}
use Rattle.book.specs.Refusals.{data_ordered, label_holds, labels_hold, functions_hold, rule_counts, rule_zeros}
use Rattle.book.specs.Refusals.{rule_counted, user_numbers_hold, reference_holds, numbers_hold, leaf_sets_apart}
use Rattle.book.specs.Refusals.{references_apart, mask_allows, mask_holds, masks_hold}
use Rattle.book.proofs.Lists.{and_left, and_right, and_both, not_holds, or_holds, all_at}
use Rattle.book.proofs.Hierarchies.{parent_falls}
use Rattle.book.proofs.Tests.{length_true, rule_tests_law}
use Rattle.book.proofs.Tests.{users_bound, data_bound, columns_bound, functions_bound, rule_bounds}
use Rattle.book.proofs.Tests.{users_passed, data_passed, columns_passed, functions_passed, rule_passed}
use Rattle.book.proofs.Answers.{append_passed, last_passed, passed_flat}

-- the head of an accepted book
pub record HeadHolds (head : List ℕ) : Type 0 where
  pub users_some : 1 ≤ user_count head
  pub users_most : user_count head ≤ 32
  pub data_some : 1 ≤ data_count head
  pub data_most : data_count head ≤ 64
  pub columns_most : column_count head ≤ 128
  pub functions_most : function_count head ≤ 64
  pub users_fall : (i : ℕ) → i < user_count head → user_parent head i ≤ i - 1
  pub data_fall : (i : ℕ) → i < data_count head → data_parent head i ≤ i - 1
  pub own_shows : (i : ℕ) → i < data_count head → has (own_operations head i) 0 ≡ false
  pub withdrawn_shows : (i : ℕ) → i < data_count head → has (withdrawn_operations head i) 0 ≡ false
  pub masks_apart : (i : ℕ) → i < data_count head → bit_and (own_operations head i) (withdrawn_operations head i) ≡ 0
  pub labels_hold_law : (i : ℕ) → i < column_count head → label_holds head (label head i) ≡ true
  pub operations_most : (i : ℕ) → i < function_count head → operation head i ≤ 15

-- a rule of an accepted book
pub record RuleHolds (head rule : List ℕ) : Type 0 where
  pub references_some : 1 ≤ reference_count rule
  pub references_most : reference_count rule ≤ 3
  pub excluded_most : excluded_user_count rule ≤ 4
  pub restrictions_most : restriction_count rule ≤ 8
  pub exclusions_most : (i : ℕ) → i < reference_count rule → exclusion_count rule i ≤ 8
  pub user_within : user_category rule < user_count head
  pub users_proper_law :
      all (proper_descendant (user_count head) (user_parent head) (user_category rule)) (excluded_users rule) ≡ true
  pub category_within : (i : ℕ) → i < reference_count rule → data_category rule i < data_count head
  pub action_holds : (i : ℕ) → i < reference_count rule → names_action (action rule i) ≡ true
  pub exclusions_proper :
      (i : ℕ)
      → i < reference_count rule
      → all (proper_descendant (data_count head) (data_parent head) (data_category rule i)) (exclusions rule i) ≡ true
  pub apart :
      (i j d : ℕ)
      → i < reference_count rule
      → j < i
      → d < data_count head
      → in_leaf_set head rule i d ≡ true
      → in_leaf_set head rule j d ≡ true
      → ⊥
  pub masks_allowed :
      (j i k : ℕ)
      → j < restriction_count rule
      → i < 3
      → k < 16
      → has (restriction_mask rule j i) k ≡ true
      → mask_allows head rule i k ≡ true

-- Each test opened

module _ (head : List ℕ) where
  users_fell : users_ordered head ≡ true → (i : ℕ) → i < user_count head → user_parent head i ≤ i - 1
  unfolding users_ordered
  users_fell h i l =
      parent_falls (user_parent head) i (all_at (parent_holds (user_parent head)) (user_count head) h i l)

  parents : Bool
  parents = all (parent_holds (data_parent head)) (up_to (data_count head))

  owns : Bool
  owns = all (own_holds head) (up_to (data_count head))

  data_fell : data_ordered head ≡ true → (i : ℕ) → i < data_count head → data_parent head i ≤ i - 1
  unfolding data_ordered parents owns
  data_fell h i l =
      parent_falls (data_parent head) i
      (all_at (parent_holds (data_parent head)) (data_count head) (and_left parents owns h) i l)

  own_held :
      data_ordered head ≡ true
      → (i : ℕ)
      → i < data_count head
      → (has (own_operations head i) 0 ≡ false)
      × (has (withdrawn_operations head i) 0 ≡ false)
      × (bit_and (own_operations head i) (withdrawn_operations head i) ≡ 0)
  unfolding data_ordered parents owns own_holds
  own_held h i l =
      let own = own_operations head i in
      let withdrawn = withdrawn_operations head i in
      let held : own_holds head i ≡ true = all_at (own_holds head) (data_count head) (and_right parents owns h) i l in
      let a = and_both (not (has own 0)) (not (has withdrawn 0) && eqb (bit_and own withdrawn) 0) held in
      let b = and_both (not (has withdrawn 0)) (eqb (bit_and own withdrawn) 0) a.1 in
      (not-true (has own 0) a.0, not-true (has withdrawn 0) b.0, eqb-true (bit_and own withdrawn) 0 b.1)

  labels_held : labels_hold head ≡ true → (i : ℕ) → i < column_count head → label_holds head (label head i) ≡ true
  unfolding labels_hold
  labels_held h i l = all_at (λ j. label_holds head (label head j)) (column_count head) h i l

  operations_bound : functions_hold head ≡ true → (i : ℕ) → i < function_count head → operation head i ≤ 15
  unfolding functions_hold
  operations_bound h i l =
      leb-true (operation head i) 15 (all_at (λ j. leb (operation head j) 15) (function_count head) h i l)

module _ (head rule : List ℕ) where
  users_proper : Bool
  users_proper = all (proper_descendant (user_count head) (user_parent head) (user_category rule)) (excluded_users rule)

  data_proper : ℕ → Bool
  data_proper i = all (proper_descendant (data_count head) (data_parent head) (data_category rule i)) (exclusions rule i)

  user_numbers : numbers_hold head rule ≡ true → (user_category rule < user_count head) × (users_proper ≡ true)
  unfolding numbers_hold user_numbers_hold users_proper
  user_numbers h =
      let a : user_numbers_hold head rule ≡ true =
      and_left (user_numbers_hold head rule) (all (reference_holds head rule) (up_to (reference_count rule))) h in
      let b = and_both (ltb (user_category rule) (user_count head)) users_proper a in
      (ltb-true (user_category rule) (user_count head) b.0, b.1)

  reference_numbers :
      numbers_hold head rule ≡ true
      → (i : ℕ)
      → i < reference_count rule
      → (data_category rule i < data_count head)
      × (names_action (action rule i) ≡ true)
      × (data_proper i ≡ true)
  unfolding numbers_hold reference_holds data_proper
  reference_numbers h i l =
      let held : reference_holds head rule i ≡ true =
      all_at (reference_holds head rule) (reference_count rule)
      (and_right (user_numbers_hold head rule) (all (reference_holds head rule) (up_to (reference_count rule))) h) i l in
      let a =
      and_both (ltb (data_category rule i) (data_count head)) (names_action (action rule i) && data_proper i) held in
      let b = and_both (names_action (action rule i)) (data_proper i) a.1 in
      (ltb-true (data_category rule i) (data_count head) a.0, b.0, b.1)

  leaf_sets_apart_law :
      references_apart head rule ≡ true
      → (i j d : ℕ)
      → i < reference_count rule
      → j < i
      → d < data_count head
      → in_leaf_set head rule i d ≡ true
      → in_leaf_set head rule j d ≡ true
      → ⊥
  unfolding references_apart leaf_sets_apart
  leaf_sets_apart_law h i j d li lj ld hi hj =
      let row : all (leaf_sets_apart head rule i) (up_to i) ≡ true =
      all_at (λ n. all (leaf_sets_apart head rule n) (up_to n)) (reference_count rule) h i li in
      let pair : leaf_sets_apart head rule i j ≡ true = all_at (leaf_sets_apart head rule i) i row j lj in
      let one : not (in_leaf_set head rule i d && in_leaf_set head rule j d) ≡ true =
      all_at (λ n. not (in_leaf_set head rule i n && in_leaf_set head rule j n)) (data_count head) pair d ld in
      not_holds (in_leaf_set head rule i d) (in_leaf_set head rule j d) one hi hj

  masks_within :
      masks_hold head rule ≡ true
      → (j i k : ℕ)
      → j < restriction_count rule
      → i < 3
      → k < 16
      → has (restriction_mask rule j i) k ≡ true
      → mask_allows head rule i k ≡ true
  unfolding masks_hold mask_holds
  masks_within h j i k lj li lk member =
      let row : all (mask_holds head rule j) (up_to 3) ≡ true =
      all_at (λ n. all (mask_holds head rule n) (up_to 3)) (restriction_count rule) h j lj in
      let mask : mask_holds head rule j i ≡ true = all_at (mask_holds head rule j) 3 row i li in
      or_holds (has (restriction_mask rule j i) k) (mask_allows head rule i k)
      (all_at (λ n. not (has (restriction_mask rule j i) n) || mask_allows head rule i n) 16 mask k lk) member

-- An accepted book

module _ (book : List ℕ) (accepted : BookAccepted book) where
  all_passed :
      (length_holds (length book) ≡ true) × ((j : ℕ) → j < block_count book → Passes (content_tests book j))
  unfolding book_tests block_by_block length_tests
  all_passed =
      let checks = block_by_block book (check_tests book) in
      let kinds = block_by_block book (kind_tests book) in
      let contents = block_by_block book (content_tests book) in
      let last = append_passed (length_tests book ++ checks ++ kinds) contents accepted in
      let before = append_passed (length_tests book ++ checks) kinds last.0 in
      let long = append_passed (length_tests book) checks before.0 in
      (last_passed _ (length_holds (length book)) long.0, passed_flat (content_tests book) (block_count book) last.1)

  -- "512 times 4 to 36"
  pub accepted_length : (length book ≡ 512 * (4 + rule_count book)) × (rule_count book ≤ 32)
  accepted_length =
      let l = length_true (length book) all_passed.0 in
      (omega arith, omega arith)

  pub accepted_head : HeadHolds (head_of book)
  unfolding content_tests block_tests
  accepted_head =
      let head = head_of book in
      let l = length_true (length book) all_passed.0 in
      let users = users_passed head (all_passed.1 0 (omega arith)) in
      let categories = data_passed head (all_passed.1 1 (omega arith)) in
      let columns = columns_passed head (all_passed.1 2 (omega arith)) in
      let functions = functions_passed head (all_passed.1 3 (omega arith)) in
      record {
        users_some = (users_bound head users.0).0;
        users_most = (users_bound head users.0).1;
        data_some = (data_bound head categories.0).0;
        data_most = (data_bound head categories.0).1;
        columns_most = columns_bound head columns.0;
        functions_most = functions_bound head functions.0;
        users_fall = users_fell head users.1;
        data_fall = data_fell head categories.1;
        own_shows = λ i l. (own_held head categories.1 i l).0;
        withdrawn_shows = λ i l. (own_held head categories.1 i l).1;
        masks_apart = λ i l. (own_held head categories.1 i l).2;
        labels_hold_law = labels_held head columns.1;
        operations_most = operations_bound head functions.1;
      }

  pub accepted_rule : (r : ℕ) → r < rule_count book → RuleHolds (head_of book) (rule_at book r)
  unfolding content_tests rule_counted users_proper data_proper
  accepted_rule r h =
      let head = head_of book in
      let rule = rule_at book r in
      let block = all_passed.1 (4 + r) (omega arith) in
      let passed = rule_passed head rule (4 + r) (rw (rule_tests_law head rule (4 + r) (omega arith)) at block) in
      let counts = rule_bounds rule (and_left (rule_counts rule) (rule_zeros rule) passed.0) in
      let user = user_numbers head rule passed.1 in
      let numbers = reference_numbers head rule passed.1 in
      record {
        references_some = counts.0;
        references_most = counts.1;
        excluded_most = counts.2;
        restrictions_most = counts.3;
        exclusions_most = counts.4;
        user_within = user.0;
        users_proper_law = user.1;
        category_within = λ i l. (numbers i l).0;
        action_holds = λ i l. (numbers i l).1;
        exclusions_proper = λ i l. (numbers i l).2;
        apart = leaf_sets_apart_law head rule passed.2;
        masks_allowed = masks_within head rule passed.3;
      }
