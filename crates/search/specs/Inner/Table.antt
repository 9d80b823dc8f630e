-- The tables of the search, one for each rule, and what they say of the book. No call's promise leans on this file.
-- Assumes nothing.
use Rattle.std.specs.Prelude.{ℕ, zero, suc, ◌+◌, ◌*◌, ◌/◌, ◌%◌, ◌≤◌, ◌<◌, ◌≡◌, Bool, true, false, ◌&&◌, cond, List, [], get_or, eqb, ltb}
use Rattle.book.specs.Lists.{any, up_to}
use Rattle.book.specs.Sets.{has, WordOf}
use Rattle.book.specs.Blocks.{head_of, rule_at}
use Rattle.book.specs.Head.{function_count, operation}
use Rattle.book.specs.Rule.{action, reference_count, restriction_count, restriction_mask, covers_user}
use Rattle.verdicts.specs.Actions.{channel_fits}
use Rattle.verdicts.specs.Accesses.{fits}
use Rattle.verdicts.specs.Inner.Words.{mask_takes}
use Rattle.search.specs.Obtainable.{labelled, operated, can_be_had}
use Rattle.search.specs.Inner.Places.{access_at, nowhere}
use Rattle.search.specs.declared.tables.RuleTable.{RuleTable}

-- past the last rule: no place meets it, no restriction takes
abbrev pub no_table : RuleTable
no_table = record { meets = []; takes = [] }

-- of rule q the words of the places that meet reference i, and of the operations that restrictions take there
abbrev pub meets_words : List RuleTable → ℕ → ℕ → List ℕ
meets_words t q i = get_or (get_or t q no_table).meets i []

abbrev pub takes_words : List RuleTable → ℕ → ℕ → List ℕ
takes_words t q i = get_or (get_or t q no_table).takes i []

-- place p meets reference i of rule q
unfoldable pub meets : List RuleTable → ℕ → ℕ → ℕ → Bool
meets t q i p = has (get_or (meets_words t q i) (p / 64) 0) (p % 64)

-- restriction j of rule q takes the operation of place p at reference i: a mask of 16 bits, four times over
unfoldable pub takes_at : List RuleTable → ℕ → ℕ → ℕ → ℕ → Bool
takes_at t q i j p = has (get_or (takes_words t q i) j 0) (p % 64)

-- a place against reference i of a rule, given the word of the reference's leaves
unfoldable pub meets_reference : List ℕ → ℕ → ℕ → ℕ → Bool
meets_reference rule leaves i p =
    cond (ltb i (reference_count rule))
    (ltb p nowhere && (channel_fits (p / 1024) (action rule i) && has leaves (p / 16 % 64))) true

-- the operation of a place against restriction j of a rule
unfoldable pub takes_operation : List ℕ → ℕ → ℕ → ℕ → Bool
takes_operation rule i j p = ltb j (restriction_count rule) && mask_takes (restriction_mask rule j i) (p % 16)

-- Words

-- bit i of four masks of 16 bits, one above the other
abbrev pub in_four : ℕ → ℕ → ℕ → ℕ → ℕ → Bool
in_four a b c d i = has (cond (ltb i 16) a (cond (ltb i 32) b (cond (ltb i 48) c d))) (i % 16)

-- projections, conditions or both: channel s is among them
unfoldable pub in_channels : (projected tested : Bool) (channel : ℕ) → Bool
in_channels projected tested zero = projected
in_channels projected tested (suc zero) = tested
in_channels projected tested (suc (suc s)) = false

-- word w of the places of some leaves in these channels, with every operation
abbrev pub ChannelWord : ℕ → Bool → Bool → ℕ → ℕ → Type 0
ChannelWord leaves projected tested w word =
    (i : ℕ) → i < 64 → has word i ≡ (in_channels projected tested (w / 16) && has leaves (w % 16 * 4 + i / 16))

abbrev pub ChannelWords : ℕ → Bool → Bool → List ℕ → Type 0
ChannelWords leaves projected tested words =
    (w : ℕ) → w < 33 → ChannelWord leaves projected tested w (get_or words w 0)

-- word w of the places that meet reference i of a rule
abbrev pub ReferenceWord : List ℕ → ℕ → ℕ → ℕ → ℕ → Type 0
ReferenceWord rule leaves i w word =
    (p : ℕ) → p ≤ nowhere → p / 64 ≡ w → has word (p % 64) ≡ meets_reference rule leaves i p

abbrev pub ReferenceWords : List ℕ → ℕ → ℕ → List ℕ → Type 0
ReferenceWords rule leaves i words = (w : ℕ) → w < 33 → ReferenceWord rule leaves i w (get_or words w 0)

-- the operations that restriction j of a rule takes at reference i, four times over
abbrev pub RestrictionWord : List ℕ → ℕ → ℕ → ℕ → Type 0
RestrictionWord rule i j word = (p : ℕ) → has word (p % 64) ≡ takes_operation rule i j p

-- Tables

-- a rule's words at reference i: every place meets an absent reference
pub record ReferenceHolds (head rule : List ℕ) (i : ℕ) (met taken : List ℕ) : Type 0 where
  pub meeting :
      (p : ℕ)
      → p ≤ nowhere
      → has (get_or met (p / 64) 0) (p % 64)
      ≡ cond (ltb i (reference_count rule)) (ltb p nowhere && fits head rule i (access_at p)) true
  pub taking : (j : ℕ) → j < 8 → RestrictionWord rule i j (get_or taken j 0)

-- the table of a rule
abbrev pub RuleHolds : List ℕ → List ℕ → RuleTable → Type 0
RuleHolds head rule table =
    (i : ℕ) → i < 3 → ReferenceHolds head rule i (get_or table.meets i []) (get_or table.takes i [])

-- the tables of the first n rules of a book
pub record TableHolds (book : List ℕ) (n : ℕ) (t : List RuleTable) : Type 0 where
  pub references :
      (q i p : ℕ)
      → q < n
      → i < 3
      → p ≤ nowhere
      → meets t q i p
      ≡ cond (ltb i (reference_count (rule_at book q)))
      (ltb p nowhere && fits (head_of book) (rule_at book q) i (access_at p)) true
  pub restrictions :
      (q i j p : ℕ)
      → q < n
      → i < 3
      → j < 8
      → takes_at t q i j p ≡ takes_operation (rule_at book q) i j p

-- Accesses that can be had

-- some function has operation k
abbrev pub of_function : List ℕ → ℕ → Bool
of_function head k = any (λ f. eqb (operation head f) k) (up_to (function_count head))

-- the operations with which an access of label d can be had, given the columns' labels and the functions' operations
abbrev pub HadWith : List ℕ → ℕ → ℕ → ℕ → ℕ → Type 0
HadWith head labels operations d word =
    WordOf (labelled head) labels
    → WordOf (of_function head) operations
    → d < 64
    → (k : ℕ)
    → k < 16
    → has word k ≡ (labelled head d && operated head d k)

-- the set of them
abbrev pub HadHolds : List ℕ → List ℕ → Type 0
HadHolds head had = (p : ℕ) → p < nowhere → has (get_or had (p / 64) 0) (p % 64) ≡ can_be_had head (access_at p)

-- Users

-- the users that rule r covers, if it is one of the first n
abbrev pub CoveredWord : List ℕ → ℕ → ℕ → ℕ → Type 0
CoveredWord book n r word =
    (u : ℕ) → u < 32 → has word u ≡ (ltb r n && covers_user (head_of book) (rule_at book r) u)

abbrev pub CoversHold : List ℕ → ℕ → List ℕ → Type 0
CoversHold book n covered = (r : ℕ) → r < 32 → CoveredWord book n r (get_or covered r 0)
