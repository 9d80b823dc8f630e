-- What the functions that test a book promise to each other. No call's promise leans on this file. Assumes nothing.
use Rattle.std.specs.Prelude.{ℕ, ◌≤◌, ◌≡◌, Bool, true, false, ◌&&◌, ◌||◌, List, get_or, Option, Some, None, ltb, leb}
use Rattle.book.specs.Lists.{all, up_to}
use Rattle.book.specs.Sets.{has}
use Rattle.book.specs.Hierarchies.{parent_holds, proper_descendant}
use Rattle.book.specs.Blocks.{Head, Block, Rule}
use Rattle.book.specs.Head.{user_count, data_count}
use Rattle.book.specs.Rule.{reference_count, exclusion_count, in_leaf_set}
use Rattle.book.specs.Tests.{Outcome, first_failing}
use Rattle.book.specs.Refusals.{between, block_tests, rule_block_tests}
use Rattle.book.specs.Refusals.{own_holds, names_action, user_numbers_hold, reference_holds, numbers_hold, mask_allows, masks_hold}
use Rattle.book.specs.Inner.Reading.{count_in, parent_in}
use Rattle.book.specs.Inner.Words.{CategoriesHold, HeadWords}
use Rattle.book.specs.declared.Hierarchy.{Hierarchy}
use Rattle.book.specs.declared.Action.{Action}
use Rattle.book.specs.declared.words.Categories.{Categories}
use Rattle.book.specs.declared.words.Words.{Words}

-- what blocks 0 and 1 have passed when a later block is read: both counts fit a word of 64 bits
pub record CountsHold (head : Head) : Type 0 where
  pub users : user_count head ≤ 64
  pub categories : data_count head ≤ 64

-- the words of a head whose counts hold
pub record CountedWords (head : Head) (words : Words) : Type 0 where
  pub told : HeadWords head words
  pub counts : CountsHold head

-- the outcome for the contents of block i
pub record ContentsAt (head : Head) (words : Words) (block : Block) (i : ℕ) (outcome : Outcome) : Type 0 where
  pub told :
      HeadWords head words → (2 ≤ i → CountsHold head) → outcome ≡ first_failing (block_tests head block i)

-- every category names a parent by the law
abbrev pub parents_hold : Hierarchy → Head → Bool
parents_hold which head = all (parent_holds (parent_in which head)) (up_to (count_in which head))

abbrev pub exclusion_counts_hold : Rule → Bool
exclusion_counts_hold rule = all (λ i. between 0 8 (exclusion_count rule i)) (up_to (reference_count rule))

-- every category has its masks by the law
abbrev pub owns_hold : Head → Bool
owns_hold head = all (own_holds head) (up_to (data_count head))

abbrev pub references_hold : Head → Rule → Bool
references_hold head rule = all (reference_holds head rule) (up_to (reference_count rule))

-- the leaf set of a reference, empty where the rule has no such reference
abbrev pub present_leaf : Head → Rule → ℕ → ℕ → Bool
present_leaf head rule i d = ltb i (reference_count rule) && (ltb d 64 && in_leaf_set head rule i d)

-- the tests of a rule block, by the words of the head

abbrev pub UserNumbersTold : Words → Rule → Bool → Type 0
UserNumbersTold words rule holds = (head : Head) → CountedWords head words → holds ≡ user_numbers_hold head rule

abbrev pub ReferenceTold : Categories → ℕ → List ℕ → Option Action → Bool → Type 0
ReferenceTold categories c list named holds =
    (count : ℕ) (parent : ℕ → ℕ)
    → CategoriesHold count parent categories
    → count ≤ 64
    → holds ≡ (ltb c count && (names_action named && all (proper_descendant count parent c) list))

-- an absent reference holds
abbrev pub absent_or_holds : Head → Rule → ℕ → Bool
absent_or_holds head rule i = leb (reference_count rule) i || reference_holds head rule i

-- what reading a reference gives: its leaves, if its numbers hold
abbrev pub ReferenceRead : Head → Rule → ℕ → Option ℕ → Type 0
ReferenceRead head rule i None = absent_or_holds head rule i ≡ false
ReferenceRead head rule i (Some leaves) =
    (absent_or_holds head rule i ≡ true) × ((d : ℕ) → has leaves d ≡ present_leaf head rule i d)

abbrev pub ReferredTo : Words → Rule → ℕ → Option ℕ → Type 0
ReferredTo words rule i leaves = (head : Head) → CountedWords head words → ReferenceRead head rule i leaves

-- what reading the references gives: the leaves of each, if the rule's numbers hold
abbrev pub NumbersRead : Head → Rule → Option (List ℕ) → Type 0
NumbersRead head rule None = numbers_hold head rule ≡ false
NumbersRead head rule (Some leaves) =
    (numbers_hold head rule ≡ true)
    × ((d : ℕ) → has (get_or leaves 0 0) d ≡ present_leaf head rule 0 d)
    × ((d : ℕ) → has (get_or leaves 1 0) d ≡ present_leaf head rule 1 d)
    × ((d : ℕ) → has (get_or leaves 2 0) d ≡ present_leaf head rule 2 d)

abbrev pub NumbersTold : Words → Rule → Option (List ℕ) → Type 0
NumbersTold words rule leaves =
    (head : Head) → CountedWords head words → reference_count rule ≤ 3 → NumbersRead head rule leaves

-- the masks are read where the references hold
abbrev pub AllowedTold : Words → Rule → ℕ → ℕ → Type 0
AllowedTold words rule i word =
    (head : Head)
    → CountedWords head words
    → references_hold head rule ≡ true
    → (k : ℕ) → has word k ≡ mask_allows head rule i k

abbrev pub MasksTold : Words → Rule → Bool → Type 0
MasksTold words rule holds =
    (head : Head) → CountedWords head words → references_hold head rule ≡ true → holds ≡ masks_hold head rule

abbrev pub RuleTested : Words → Rule → ℕ → Outcome → Type 0
RuleTested words rule i outcome =
    (head : Head) → CountedWords head words → outcome ≡ first_failing (rule_block_tests head rule i)
