-- The words of a head: what a call keeps of both hierarchies, filled once. Their struct is in src/words.rt. No call's
-- promise leans on this file. Assumes nothing.
use Rattle.std.specs.Prelude.{ℕ, ◌<◌, ◌≡◌, Bool, ◌&&◌, List, get_or, ltb}
use Rattle.book.specs.Lists.{any}
use Rattle.book.specs.Sets.{WordOf}
use Rattle.book.specs.Hierarchies.{under, covers, leaf}
use Rattle.book.specs.Blocks.{Head, Rule}
use Rattle.book.specs.Head.{user_count, user_parent, data_count, data_parent, support_of}
use Rattle.book.specs.Rule.{in_leaf_set, covers_user}
use Rattle.book.specs.Inner.Reading.{count_in, parent_in, Supporting}
use Rattle.book.specs.declared.Hierarchy.{Hierarchy}
use Rattle.book.specs.declared.words.Categories.{Categories}
use Rattle.book.specs.declared.words.Words.{Words}

-- one of the categories, under c
abbrev pub subtree : (count : ℕ) (parent : ℕ → ℕ) (c i : ℕ) → Bool
subtree count parent c i = ltb i count && under parent c i

-- the words of one hierarchy, whatever its bytes are
pub record CategoriesHold (count : ℕ) (parent : ℕ → ℕ) (words : Categories) : Type 0 where
  pub under : (c : ℕ) → c < 64 → WordOf (subtree count parent c) (get_or words.under c 0)
  pub leaves : WordOf (leaf count parent) words.leaves
  pub number : words.count ≡ count

-- the words of a head, whatever its bytes are
pub record HeadWords (head : Head) (words : Words) : Type 0 where
  pub categories : CategoriesHold (data_count head) (data_parent head) words.categories
  pub users : CategoriesHold (user_count head) (user_parent head) words.users
  pub supports : (c : ℕ) → c < 64 → c < data_count head → get_or words.supports c 0 ≡ support_of head c

-- What the functions that read the words promise

-- a set of the categories of some words
abbrev pub Within : Categories → ((count : ℕ) (parent : ℕ → ℕ) → ℕ → Bool) → ℕ → Type 0
Within words members word = (count : ℕ) (parent : ℕ → ℕ) → CategoriesHold count parent words → WordOf (members count parent) word

abbrev pub SupportWord : Words → ℕ → ℕ → Type 0
SupportWord words c word = (head : Head) → HeadWords head words → c < 64 → c < data_count head → word ≡ support_of head c

abbrev pub SupportingWords : Words → List ℕ → Type 0
SupportingWords words found = (head : Head) → HeadWords head words → Supporting head found

-- the categories under one of a list
abbrev pub under_some : List ℕ → (count : ℕ) (parent : ℕ → ℕ) → ℕ → Bool
under_some list count parent i = ltb i count && any (λ e. under parent e i) list

-- the leaves that a category covers with some excluded
abbrev pub covered_leaves : ℕ → List ℕ → (count : ℕ) (parent : ℕ → ℕ) → ℕ → Bool
covered_leaves c excluded count parent i = leaf count parent i && covers parent c excluded i

abbrev pub LeafSet : Words → Rule → ℕ → ℕ → Type 0
LeafSet words rule i word = (head : Head) → HeadWords head words → WordOf (in_leaf_set head rule i) word

abbrev pub CoveredUsers : Words → Rule → ℕ → Type 0
CoveredUsers words rule word = (head : Head) → HeadWords head words → WordOf (covers_user head rule) word

-- What the functions that make them promise

-- for each of 64 categories those under it
abbrev pub Subtrees : Hierarchy → Head → List ℕ → Type 0
Subtrees which head words =
    (c : ℕ) → c < 64 → WordOf (subtree (count_in which head) (parent_in which head) c) (get_or words c 0)

abbrev pub Supports : Head → List ℕ → Type 0
Supports head words = (c : ℕ) → c < 64 → c < data_count head → get_or words c 0 ≡ support_of head c
