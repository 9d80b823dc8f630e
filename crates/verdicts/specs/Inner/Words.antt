-- What the functions that hold one rule against 32 words of accesses promise to each other. No call's promise
-- leans on this file. Assumes nothing.
use Rattle.std.specs.Prelude.{ℕ, ◌+◌, ◌*◌, ◌≤◌, ◌<◌, ◌≡◌, Bool, ◌&&◌, ◌||◌, not, cond, List, [], length, get_or, eqb, ltb}
use Rattle.book.specs.Lists.{any, up_to}
use Rattle.book.specs.Sets.{has}
use Rattle.book.specs.Blocks.{Head, Rule}
use Rattle.book.specs.Inner.Words.{HeadWords}
use Rattle.book.specs.declared.words.Words.{Words}
use Rattle.book.specs.Head.{user_count, data_count}
use Rattle.book.specs.Rule.{reference_count, restriction_count, restriction_mask}
use Rattle.verdicts.specs.Accesses.{Accesses, fitting}
use Rattle.verdicts.specs.Breaking.{some_choice_refused}

-- what a rule of an accepted book gives
pub record RuleSound (head : Head) (rule : Rule) : Type 0 where
  pub users : user_count head ≤ 64
  pub leaves : data_count head ≤ 64
  pub some : 1 ≤ reference_count rule
  pub few : reference_count rule ≤ 3
  pub whole : length rule ≡ 512
  pub restrictions : restriction_count rule ≤ 8
  pub absent :
      (j i : ℕ) → j < restriction_count rule → reference_count rule ≤ i → i < 3 → restriction_mask rule j i ≡ 0

-- Offers

-- some access of the set fits reference i with operation k
unfoldable pub offers : (head : Head) (rule : Rule) → Accesses → (i k : ℕ) → Bool
offers head rule accesses i k = any (λ x. eqb x.operation k) (fitting head rule accesses i)

-- the same, and for an absent reference operation 0 alone
unfoldable pub offers_or_none : (head : Head) (rule : Rule) → Accesses → (i k : ℕ) → Bool
offers_or_none head rule accesses i k = cond (ltb i (reference_count rule)) (offers head rule accesses i k) (eqb k 0)

-- a word of the operations that reference i is offered
abbrev pub Offered : (head : Head) (rule : Rule) → Accesses → (i word : ℕ) → Type 0
Offered head rule accesses i word = (k : ℕ) → has word k ≡ (ltb k 16 && offers_or_none head rule accesses i k)

-- the same, by the words of a head
abbrev pub OfferedIfSound : (words : Words) (rule : Rule) → Accesses → (i word : ℕ) → Type 0
OfferedIfSound words rule accesses i word =
    (head : Head) → HeadWords head words → RuleSound head rule → Offered head rule accesses i word

-- Restrictions

-- "each mask is zero or holds the chosen operation"
unfoldable pub mask_takes : (mask k : ℕ) → Bool
mask_takes mask k = eqb mask 0 || has mask k

-- restriction j takes operations a, b and k
abbrev pub beside : (rule : Rule) (a b k j : ℕ) → Bool
beside rule a b k j =
    mask_takes (restriction_mask rule j 0) a
    && (mask_takes (restriction_mask rule j 1) b && mask_takes (restriction_mask rule j 2) k)

-- the operations that three masks take, by their bytes
abbrev pub MaskRow : (bytes row : List ℕ) → Type 0
MaskRow bytes row =
    (i k : ℕ)
    → i < 3
    → has (get_or row i 0) k
    ≡ (ltb k 16 && mask_takes (256 * get_or bytes (2 * i) 0 + get_or bytes (2 * i + 1) 0) k)

-- the masks of a rule, three for each of eight restrictions: the operations that restriction j takes at reference i,
-- none where there is no restriction j
pub record Taken (rule : Rule) (masks : List (List ℕ)) : Type 0 where
  pub eight : length masks ≡ 8
  pub masks_of :
      (j i k : ℕ)
      → j < 8
      → i < 3
      → has (get_or (get_or masks j []) i 0) k
      ≡ (ltb j (restriction_count rule) && (ltb k 16 && mask_takes (restriction_mask rule j i) k))

-- of a block that has room for all its restrictions
abbrev pub TakenIfWhole : (rule : Rule) (masks : List (List ℕ)) → Type 0
TakenIfWhole rule masks = 112 ≤ length rule → restriction_count rule ≤ 8 → Taken rule masks

-- a restriction with these masks takes operations a, b and c
abbrev pub takes : (a b c : ℕ) (row : List ℕ) → Bool
takes a b c row = has (get_or row 0 0) a && (has (get_or row 1 0) b && has (get_or row 2 0) c)

-- a word of the operations that some restriction takes beside a and b
abbrev pub Beside : (masks : List (List ℕ)) (a b word : ℕ) → Type 0
Beside masks a b word = (c : ℕ) → has word c ≡ any (takes a b c) masks

-- Choices of operations, one from each of three words

-- some operation of the third is taken by no restriction beside a and b
unfoldable pub third_refused : (masks : List (List ℕ)) (third a b : ℕ) → Bool
third_refused masks third a b = any (λ c. has third c && not (any (takes a b c) masks)) (up_to 64)

-- some of the second and the third beside a
unfoldable pub refused_beside : (masks : List (List ℕ)) (second third a : ℕ) → Bool
refused_beside masks second third a = any (λ b. has second b && third_refused masks third a b) (up_to 16)

unfoldable pub some_refused : (masks : List (List ℕ)) (first second third : ℕ) → Bool
some_refused masks first second third = any (λ a. has first a && refused_beside masks second third a) (up_to 16)

-- The rule

-- "no restriction accepts the choice", told of some choice
abbrev pub RefusedIfSound : (words : Words) (rule : Rule) → Accesses → (told : Bool) → Type 0
RefusedIfSound words rule accesses told =
    (head : Head) → HeadWords head words → RuleSound head rule → told ≡ some_choice_refused head rule accesses
