-- Both hierarchies of a book under one name, for the functions that serve both, the bytes that a check sums, and the
-- words that the crates above keep. No call's promise leans on this file. Assumes nothing.
use Rattle.std.specs.Prelude.{ℕ, ◌*◌, ◌/◌, ◌≤◌, ◌<◌, ◌≡◌, ◌&&◌, cond, List, length, get_or, take}
use Rattle.std.specs.Int.Bits.{bit_or}
use Rattle.book.specs.Sets.{has, WordOf}
use Rattle.book.specs.Blocks.{Block, Head, weighted}
use Rattle.book.specs.Head.{user_count, user_parent, data_count, data_parent, is_data_leaf, supports}
use Rattle.book.specs.declared.Hierarchy.{Hierarchy}
use Rattle.book.specs.declared.Hierarchy.TheVariants.{Users, Data}

abbrev pub count_in : Hierarchy → Head → ℕ
count_in Users head = user_count head
count_in Data head = data_count head

abbrev pub parent_in : Hierarchy → Head → ℕ → ℕ
parent_in Users head i = user_parent head i
parent_in Data head i = data_parent head i

-- the first n bytes of a block give the sum of its check
pub record SumsTo (block : Block) (n : ℕ) : Type 0 where
  pub within : n ≤ 510
  pub same : weighted 1 (take n block) ≡ weighted 1 (take 510 block)

-- the sum over the whole rows of sixteen bytes, of at most 32 rows
abbrev pub RowSum : (body : List ℕ) (sum : ℕ) → Type 0
RowSum body sum =
    length body / 16 ≤ 32 → (sum ≡ weighted 1 (take (16 * (length body / 16)) body)) × (sum ≤ 68935680)

-- for each operation the leaves that support it
abbrev pub Supporting : Head → List ℕ → Type 0
Supporting head words =
    (k : ℕ) → k < 16 → WordOf (λ d. is_data_leaf head d && supports head d k) (get_or words k 0)

-- a set added to those of sixteen words whose number a mask has
abbrev pub SetAdded : List ℕ → ℕ → ℕ → List ℕ → Type 0
SetAdded words set mask next =
    (k : ℕ) → k < 16 → get_or next k 0 ≡ bit_or (get_or words k 0) (cond (has mask k) set 0)
