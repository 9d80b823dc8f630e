-- The tests of the book check: what a test says where it is passed, the tests of each block, and those of a pass. Assumes nothing.
use Prim.Native.Nat.{ℕ, zero, suc, ◌+◌, ◌/◌, ◌%◌, ◌≤◌, ◌<◌}
use native.Mathlib.Omega.{arith}
use mathlib.Core.Path.{◌≡◌, refl, ap}
use mathlib.Core.Bool.{Bool, true, false, ◌&&◌, ◌||◌, not}
use mathlib.Core.List.{List}
use lib.Dec.{eqb, ltb, leb}
use borrow.Author.Tests.{leb-true, eqb-true, not-false}
use Rattle.book.specs.Lists.{all, up_to}
use Rattle.book.specs.Sets.{has}
use Rattle.book.specs.Head.{user_count, data_count, category_start, data_parent, column_count, function_count, is_data_leaf}
use Rattle.book.specs.Rule.{reference_count, excluded_user_count, restriction_count, exclusion_count}
use Rattle.book.specs.Blocks.{block_at, head_of}
use Rattle.book.specs.Refusals.{between, zeros, length_holds, kind_holds, users_counted, data_counted}
use Rattle.book.specs.Refusals.{columns_counted, functions_counted, rule_counts, rule_counted, rule_zeros, users_ordered}
use Rattle.book.specs.Refusals.{data_ordered, label_holds, labels_hold, functions_hold, numbers_hold, references_apart}
use Rattle.book.specs.Refusals.{masks_hold, users_block_tests, data_block_tests, columns_block_tests}
use Rattle.book.specs.Refusals.{functions_block_tests, rule_block_tests, block_tests}
use Rattle.book.specs.Refusals.{content_tests, user_numbers_hold}
use Rattle.book.specs.Tests.{Outcome, Passes, first_failing}
use Rattle.book.specs.Inner.Words.{HeadWords}
use Rattle.book.specs.Inner.Testing.{ContentsAt, CountsHold, references_hold}
use Rattle.book.specs.declared.words.Words.{Words}
use Rattle.book.proofs.Lists.{and_left, and_right, and_both, all_at}
use Rattle.book.proofs.Hierarchies.{leaf_in_word}
use Rattle.book.proofs.Answers.{first_passed, two_passed}

-- Single tests

pub between_true : (low high n : ℕ) → between low high n ≡ true → (low ≤ n) × (n ≤ high)
unfolding between
between_true low high n h =
    (leb-true low n (and_left (leb low n) (leb n high) h), leb-true n high (and_right (leb low n) (leb n high) h))

-- "length not 512 times 4 to 36"
pub length_true : (n : ℕ) → length_holds n ≡ true → (n % 512 ≡ 0) × (4 ≤ n / 512) × (n / 512 ≤ 36)
unfolding length_holds
length_true n h =
    let whole = eqb-true (n % 512) 0 (and_left (eqb (n % 512) 0) (between 4 36 (n / 512)) h) in
    let blocks = between_true 4 36 (n / 512) (and_right (eqb (n % 512) 0) (between 4 36 (n / 512)) h) in
    (whole, blocks.0, blocks.1)

-- the kind of a rule
pub kind_rule : (i kind : ℕ) → 4 ≤ i → eqb kind 5 ≡ kind_holds i kind
unfolding kind_holds
kind_rule zero kind h = absurd (omega arith)
kind_rule (suc zero) kind h = absurd (omega arith)
kind_rule (suc (suc zero)) kind h = absurd (omega arith)
kind_rule (suc (suc (suc zero))) kind h = absurd (omega arith)
kind_rule (suc (suc (suc (suc i)))) kind h = refl

pub label_same :
    (head : List ℕ) (leaves d : ℕ) → data_count head ≤ 64
    → ((c : ℕ) → has leaves c ≡ (ltb c 64 && is_data_leaf head c))
    → (eqb d 255 || has leaves d) ≡ label_holds head d
unfolding label_holds is_data_leaf
label_same head leaves d h e = rw (e d, leaf_in_word (data_count head) (data_parent head) d h)

-- Counts

module _ (head : List ℕ) where
  pub users_bound : users_counted head ≡ true → (1 ≤ user_count head) × (user_count head ≤ 32)
  unfolding users_counted
  users_bound h =
      between_true 1 32 (user_count head)
      (and_left (between 1 32 (user_count head)) (zeros head (2 + user_count head) 510) h)

  pub data_bound : data_counted head ≡ true → (1 ≤ data_count head) × (data_count head ≤ 64)
  unfolding data_counted
  data_bound h =
      between_true 1 64 (data_count head)
      (and_left (between 1 64 (data_count head)) (zeros head (category_start head (data_count head)) 1022) h)

  pub columns_bound : columns_counted head ≡ true → column_count head ≤ 128
  unfolding columns_counted
  columns_bound h =
      (between_true 0 128 (column_count head)
      (and_left (between 0 128 (column_count head)) (zeros head (1026 + column_count head) 1534) h)).1

  pub functions_bound : functions_counted head ≡ true → function_count head ≤ 64
  unfolding functions_counted
  functions_bound h =
      (between_true 0 64 (function_count head)
      (and_left (between 0 64 (function_count head)) (zeros head (1538 + function_count head) 2046) h)).1

module _ (rule : List ℕ) where
  bounds : Bool
  bounds = all (λ i. between 0 8 (exclusion_count rule i)) (up_to (reference_count rule))

  exclusions_bound : bounds ≡ true → (i : ℕ) → i < reference_count rule → exclusion_count rule i ≤ 8
  unfolding bounds
  exclusions_bound h i l =
      (between_true 0 8 (exclusion_count rule i)
      (all_at (λ j. between 0 8 (exclusion_count rule j)) (reference_count rule) h i l)).1

  pub rule_bounds :
      rule_counts rule ≡ true
      → (1 ≤ reference_count rule)
      × (reference_count rule ≤ 3)
      × (excluded_user_count rule ≤ 4)
      × (restriction_count rule ≤ 8)
      × ((i : ℕ) → i < reference_count rule → exclusion_count rule i ≤ 8)
  unfolding rule_counts bounds
  rule_bounds h =
      let a = and_both (between 1 3 (reference_count rule))
      (between 0 4 (excluded_user_count rule) && (between 0 8 (restriction_count rule) && bounds)) h in
      let b = and_both (between 0 4 (excluded_user_count rule)) (between 0 8 (restriction_count rule) && bounds) a.1 in
      let d = and_both (between 0 8 (restriction_count rule)) bounds b.1 in
      let references = between_true 1 3 (reference_count rule) a.0 in (
        references.0,
        references.1,
        (between_true 0 4 (excluded_user_count rule) b.0).1,
        (between_true 0 8 (restriction_count rule) d.0).1,
        exclusions_bound d.1,
      )

  -- a rule whose counts hold has at most three references
  pub few_references : not (rule_counted rule) ≡ false → reference_count rule ≤ 3
  unfolding rule_counted
  few_references h =
      (rule_bounds (and_left (rule_counts rule) (rule_zeros rule) (not-false (rule_counted rule) h))).1

pub references_held : (head rule : List ℕ) → not (numbers_hold head rule) ≡ false → references_hold head rule ≡ true
unfolding numbers_hold
references_held head rule h =
    and_right (user_numbers_hold head rule) (references_hold head rule) (not-false (numbers_hold head rule) h)

-- The tests of a block

-- a head block's tests read the head alone
pub rule_tests_law :
    (head block : List ℕ) (i : ℕ) → 4 ≤ i → block_tests head block i ≡ rule_block_tests head block i
unfolding block_tests
rule_tests_law head block zero l = absurd (omega arith)
rule_tests_law head block (suc zero) l = absurd (omega arith)
rule_tests_law head block (suc (suc zero)) l = absurd (omega arith)
rule_tests_law head block (suc (suc (suc zero))) l = absurd (omega arith)
rule_tests_law head block (suc (suc (suc (suc r)))) l =
    let e : 4 + r ≡ suc (suc (suc (suc r))) = omega arith in
    ap (rule_block_tests head block) e

module _ (head : List ℕ) where
  pub users_passed : Passes (users_block_tests head) → (users_counted head ≡ true) × (users_ordered head ≡ true)
  unfolding users_block_tests
  users_passed h = two_passed _ _ (users_counted head) (users_ordered head) h

  pub data_passed : Passes (data_block_tests head) → (data_counted head ≡ true) × (data_ordered head ≡ true)
  unfolding data_block_tests
  data_passed h = two_passed _ _ (data_counted head) (data_ordered head) h

  pub columns_passed : Passes (columns_block_tests head) → (columns_counted head ≡ true) × (labels_hold head ≡ true)
  unfolding columns_block_tests
  columns_passed h = two_passed _ _ (columns_counted head) (labels_hold head) h

  pub functions_passed :
      Passes (functions_block_tests head) → (functions_counted head ≡ true) × (functions_hold head ≡ true)
  unfolding functions_block_tests
  functions_passed h = two_passed _ _ (functions_counted head) (functions_hold head) h

  pub rule_passed :
      (rule : List ℕ) (i : ℕ)
      → Passes (rule_block_tests head rule i)
      → (rule_counted rule ≡ true)
      × (numbers_hold head rule ≡ true)
      × (references_apart head rule ≡ true)
      × (masks_hold head rule ≡ true)
  unfolding rule_block_tests
  rule_passed rule i h =
      let counted = first_passed _ _ _ h in
      let numbers = first_passed _ _ _ counted.1 in
      let rest = two_passed _ _ _ _ numbers.1 in
      (counted.0, numbers.0, rest.0, rest.1)

-- The tests of a pass

-- blocks 0 and 1 have passed where a later block is read
pub counts_hold :
    (book : List ℕ) (i : ℕ) → ((j : ℕ) → j < i → Passes (content_tests book j)) → 2 ≤ i → CountsHold (head_of book)
unfolding content_tests block_tests
counts_hold book i h l =
    let u = users_bound (head_of book) (users_passed (head_of book) (h 0 (omega arith))).0 in
    let d = data_bound (head_of book) (data_passed (head_of book) (h 1 (omega arith))).0 in
    record { users = omega (arith, u.1); categories = d.1 }

-- the outcome for the contents of a block, once the lower blocks have passed
pub contents_known :
    (book : List ℕ) (words : Words)
    → HeadWords (head_of book) words
    → (i : ℕ) (r : Outcome)
    → ((j : ℕ) → j < i → Passes (content_tests book j))
    → ContentsAt (head_of book) words (block_at book i) i r
    → r ≡ first_failing (content_tests book i)
unfolding content_tests
contents_known book words w i r low at = at.told w (counts_hold book i low)
