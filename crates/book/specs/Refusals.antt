-- The tests of the book check, in document 01's order: "Book check", 1 to 9, and Seal's 10. Assumes nothing.
use Rattle.std.specs.Prelude.{ℕ, zero, suc, ◌+◌, ◌*◌, ◌-◌, ◌/◌, ◌%◌, Bool, true, false, ◌&&◌, ◌||◌, not, cond, List, [], ◌∷◌, ◌++◌, length, get_or, take, drop, eqb, ltb, leb, Option, Some, None}
use Rattle.std.specs.Int.Bits.{bit_and}
use Rattle.book.specs.Lists.{all, flat, up_to}
use Rattle.book.specs.Sets.{has}
use Rattle.book.specs.Hierarchies.{parent_holds, proper_descendant}
use Rattle.book.specs.Head.{user_count, user_parent, data_count, category_start, data_parent, own_operations}
use Rattle.book.specs.Head.{withdrawn_operations, column_count, label, function_count, operation, is_data_leaf, supports}
use Rattle.book.specs.Rule.{reference_count, user_category, excluded_user_count, excluded_users, restriction_count}
use Rattle.book.specs.Rule.{data_category, action, exclusion_count, exclusions, restriction_mask, in_leaf_set}
use Rattle.book.specs.Blocks.{Book, Head, Block, Rule, block_at, head_of, block_count, check_holds}
use Rattle.book.specs.Tests.{Test, Passes}
use Rattle.book.specs.declared.Action.{Action}
use Rattle.book.specs.declared.refusal.Refusal.TheVariants.{BookLength, BlockCheck, BlockKind, CountOrZero, ParentOrOwn}
use Rattle.book.specs.declared.refusal.Refusal.TheVariants.{LabelOrFunction, RuleNumber, SharedLeaf, MaskOperation, BlockLength}

unfoldable pub between : ℕ → ℕ → ℕ → Bool
between low high n = leb low n && leb n high

-- the bytes from `start` on and below `end` are zero
unfoldable pub zeros : List ℕ → ℕ → ℕ → Bool
zeros bytes start end = all (λ x. eqb x 0) (take (end - start) (drop start bytes))

-- 1: "length not 512 times 4 to 36"
unfoldable pub length_holds : ℕ → Bool
length_holds n = eqb (n % 512) 0 && between 4 36 (n / 512)

-- 3: blocks 0 to 3 have kinds 1 to 4, block 1 also kind 6, the rules kind 5
unfoldable pub kind_holds : ℕ → ℕ → Bool
kind_holds zero kind = eqb kind 1
kind_holds (suc zero) kind = eqb kind 2 || eqb kind 6
kind_holds (suc (suc zero)) kind = eqb kind 3
kind_holds (suc (suc (suc zero))) kind = eqb kind 4
kind_holds (suc (suc (suc (suc r)))) kind = eqb kind 5

-- 4: "a count outside its bounds (too low or too high) or a byte that should be zero and isn't"
unfoldable pub users_counted : Head → Bool
users_counted head = between 1 32 (user_count head) && zeros head (2 + user_count head) 510

unfoldable pub data_counted : Head → Bool
data_counted head = between 1 64 (data_count head) && zeros head (category_start head (data_count head)) 1022

unfoldable pub columns_counted : Head → Bool
columns_counted head = between 0 128 (column_count head) && zeros head (1026 + column_count head) 1534

unfoldable pub functions_counted : Head → Bool
functions_counted head = between 0 64 (function_count head) && zeros head (1538 + function_count head) 2046

unfoldable pub rule_counts : Rule → Bool
rule_counts rule =
    between 1 3 (reference_count rule)
    && (between 0 4 (excluded_user_count rule)
    && (between 0 8 (restriction_count rule)
    && all (λ i. between 0 8 (exclusion_count rule i)) (up_to (reference_count rule))))

-- the first unused byte of the slot of reference i: an absent reference uses none
unfoldable pub reference_end : Rule → ℕ → ℕ
reference_end rule i = cond (ltb i (reference_count rule)) (19 + 16 * i + exclusion_count rule i) (16 + 16 * i)

-- the unused bytes: of the list of excluded users, up to the first reference, of each reference's slot, after the
-- restrictions
unfoldable pub rule_zeros : Rule → Bool
rule_zeros rule =
    zeros rule (4 + excluded_user_count rule) 8
    && (zeros rule 9 16
    && (all (λ i. zeros rule (reference_end rule i) (32 + 16 * i)) (up_to 3)
    && zeros rule (64 + 6 * restriction_count rule) 510))

unfoldable pub rule_counted : Rule → Bool
rule_counted rule = rule_counts rule && rule_zeros rule

-- 5: "parent or own-operation law"
unfoldable pub users_ordered : Head → Bool
users_ordered head = all (parent_holds (user_parent head)) (up_to (user_count head))

-- the own-operation law, as N9 has it: "An operation in both masks, or bit 0 in either, is refusal 5."
unfoldable pub own_holds : Head → ℕ → Bool
own_holds head i =
    not (has (own_operations head i) 0)
    && (not (has (withdrawn_operations head i) 0)
    && eqb (bit_and (own_operations head i) (withdrawn_operations head i)) 0)

unfoldable pub data_ordered : Head → Bool
data_ordered head =
    all (parent_holds (data_parent head)) (up_to (data_count head)) && all (own_holds head) (up_to (data_count head))

-- 6: "a label that is no leaf and not 255, or a function above 15"
unfoldable pub label_holds : Head → ℕ → Bool
label_holds head d = eqb d 255 || is_data_leaf head d

unfoldable pub labels_hold : Head → Bool
labels_hold head = all (λ i. label_holds head (label head i)) (up_to (column_count head))

unfoldable pub functions_hold : Head → Bool
functions_hold head = all (λ i. leb (operation head i) 15) (up_to (function_count head))

-- 7: "a rule's category number, action or exclusion"
unfoldable pub user_numbers_hold : Head → Rule → Bool
user_numbers_hold head rule =
    ltb (user_category rule) (user_count head)
    && all (proper_descendant (user_count head) (user_parent head) (user_category rule)) (excluded_users rule)

-- the byte is one of document 01's three
unfoldable pub names_action : Option Action → Bool
names_action (Some action) = true
names_action None = false

unfoldable pub reference_holds : Head → Rule → ℕ → Bool
reference_holds head rule i =
    ltb (data_category rule i) (data_count head)
    && (names_action (action rule i)
    && all (proper_descendant (data_count head) (data_parent head) (data_category rule i)) (exclusions rule i))

unfoldable pub numbers_hold : Head → Rule → Bool
numbers_hold head rule = user_numbers_hold head rule && all (reference_holds head rule) (up_to (reference_count rule))

-- 8: "references sharing a leaf"
unfoldable pub leaf_sets_apart : Head → Rule → ℕ → ℕ → Bool
leaf_sets_apart head rule i j =
    all (λ d. not (in_leaf_set head rule i d && in_leaf_set head rule j d)) (up_to (data_count head))

unfoldable pub references_apart : Head → Rule → Bool
references_apart head rule = all (λ i. all (leaf_sets_apart head rule i) (up_to i)) (up_to (reference_count rule))

-- 9: "a mask with bit 0, an unsupported operation or a set bit for an absent reference"
unfoldable pub mask_allows : Head → Rule → ℕ → ℕ → Bool
mask_allows head rule i k = not (eqb k 0) && (ltb i (reference_count rule) && supports head (data_category rule i) k)

unfoldable pub mask_holds : Head → Rule → ℕ → ℕ → Bool
mask_holds head rule j i = all (λ k. not (has (restriction_mask rule j i) k) || mask_allows head rule i k) (up_to 16)

unfoldable pub masks_hold : Head → Rule → Bool
masks_hold head rule = all (λ j. all (mask_holds head rule j) (up_to 3)) (up_to (restriction_count rule))

-- the tests of a block, "in each block in this order"
unfoldable pub users_block_tests : Head → List Test
users_block_tests head = (CountOrZero 0, users_counted head) ∷ (ParentOrOwn 0, users_ordered head) ∷ []

unfoldable pub data_block_tests : Head → List Test
data_block_tests head = (CountOrZero 1, data_counted head) ∷ (ParentOrOwn 1, data_ordered head) ∷ []

unfoldable pub columns_block_tests : Head → List Test
columns_block_tests head = (CountOrZero 2, columns_counted head) ∷ (LabelOrFunction 2, labels_hold head) ∷ []

unfoldable pub functions_block_tests : Head → List Test
functions_block_tests head = (CountOrZero 3, functions_counted head) ∷ (LabelOrFunction 3, functions_hold head) ∷ []

unfoldable pub rule_block_tests : Head → Rule → ℕ → List Test
rule_block_tests head rule i =
    (CountOrZero i, rule_counted rule)
    ∷ (RuleNumber i, numbers_hold head rule)
    ∷ (SharedLeaf i, references_apart head rule)
    ∷ (MaskOperation i, masks_hold head rule)
    ∷ []

-- those of block i of a book with this head
unfoldable pub block_tests : Head → Block → ℕ → List Test
block_tests head block zero = users_block_tests head
block_tests head block (suc zero) = data_block_tests head
block_tests head block (suc (suc zero)) = columns_block_tests head
block_tests head block (suc (suc (suc zero))) = functions_block_tests head
block_tests head block (suc (suc (suc (suc r)))) = rule_block_tests head block (4 + r)

-- 1
unfoldable pub length_tests : Book → List Test
length_tests book = (BookLength, length_holds (length book)) ∷ []

-- 2, of block i
unfoldable pub check_tests : Book → ℕ → List Test
check_tests book i = (BlockCheck i, check_holds (block_at book i)) ∷ []

-- 3, of block i
unfoldable pub kind_tests : Book → ℕ → List Test
kind_tests book i = (BlockKind i, kind_holds i (get_or (block_at book i) 0 0)) ∷ []

-- 4 to 9, of block i
unfoldable pub content_tests : Book → ℕ → List Test
content_tests book i = block_tests (head_of book) (block_at book i) i

-- the tests of each block of a book, the lowest block first
unfoldable pub block_by_block : Book → (ℕ → List Test) → List Test
block_by_block book tests = flat tests (up_to (block_count book))

-- "Book check": 1; 2 over all blocks; 3 over all blocks; "Then block by block, and in each block in this order"
unfoldable pub book_tests : Book → List Test
book_tests book =
    length_tests book
    ++ block_by_block book (check_tests book)
    ++ block_by_block book (kind_tests book)
    ++ block_by_block book (content_tests book)

-- "A book is accepted when the book check refuses nothing"
abbrev pub BookAccepted : Book → Type 0
BookAccepted book = Passes (book_tests book)

-- 10: "not 512 bytes"
unfoldable pub seal_tests : Block → List Test
seal_tests block = (BlockLength, eqb (length block) 512) ∷ []
