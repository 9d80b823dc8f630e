-- Accesses, and which of them fit a reference of a rule. Document 01, "Breaking a rule". Assumes nothing.
use Rattle.std.specs.Prelude.{ℕ, ◌+◌, ◌*◌, Bool, ◌&&◌, ◌||◌, List, map, get_or, eqb, ltb}
use Rattle.book.specs.Lists.{any, flat, keep, up_to}
use Rattle.book.specs.Blocks.{Head, Rule}
use Rattle.book.specs.Sets.{has}
use Rattle.book.specs.Head.{data_count}
use Rattle.book.specs.Rule.{action, in_leaf_set}
use Rattle.lineage.specs.Rows.{Plan}
use Rattle.lineage.specs.Accesses.{is_access}
use Rattle.verdicts.specs.Actions.{channel_fits}

-- an access: 0 projection or 1 condition, a label, an operation
pub record Access : Type 0 where
  pub channel : ℕ
  pub leaf : ℕ
  pub operation : ℕ

unfoldable pub same : Access → Access → Bool
same x y = eqb x.channel y.channel && (eqb x.leaf y.leaf && eqb x.operation y.operation)

-- a set of accesses
abbrev pub Accesses : Type 0
Accesses = Access → Bool

-- the set of a list's accesses
abbrev pub members : List Access → Accesses
members l x = any (same x) l

-- the accesses of a plan
unfoldable pub accesses_of : Head → Plan → Accesses
accesses_of head plan x = is_access head plan x.channel x.leaf x.operation

-- the set that 32 words hold: "bit d of word 16 × s + k is set exactly when (s, d, k) is an access"
unfoldable pub held_by : (words : List ℕ) → Accesses
held_by words x =
    ltb x.channel 2
    && (ltb x.operation 16 && has (get_or words (16 * x.channel + x.operation) 0) x.leaf)

-- two sets joined
unfoldable pub union : Accesses → Accesses → Accesses
union a b x = a x || b x

-- every access that a book has categories for: projections first, then by leaf, then by operation
unfoldable pub every_access : Head → List Access
every_access head =
    flat (λ s. flat (λ d. map (λ k. record { channel = s; leaf = d; operation = k }) (up_to 16)) (up_to (data_count head)))
    (up_to 2)

-- "with fitting action and covered leaf"
unfoldable pub fits : (head : Head) (rule : Rule) (reference : ℕ) → Access → Bool
fits head rule i x = channel_fits x.channel (action rule i) && in_leaf_set head rule i x.leaf

-- the accesses of a set that fit reference i
unfoldable pub fitting : (head : Head) (rule : Rule) → Accesses → (reference : ℕ) → List Access
fitting head rule accesses i = keep (λ x. accesses x && fits head rule i x) (every_access head)
