-- The record that is edited. Document 02, N11. Assumes nothing.
use Rattle.std.specs.Prelude.{ℕ, ◌+◌, ◌-◌, ◌*◌, List, ◌++◌, length, take, replicate}
use Rattle.book.specs.Blocks.{Book}

-- the bytes of "a record of 36 blocks"
abbrev pub Blocks : Type 0
Blocks = List ℕ

-- "with its number of rules beside", and "a mask of idle rules beside"
pub record Record : Type 0 where
  pub blocks : Blocks
  pub rules : ℕ
  pub marks : ℕ

-- "The book lies at the front": its four head blocks and its rules
unfoldable pub book_in : (blocks : Blocks) (rules : ℕ) → Book
book_in blocks rules = take (512 * (4 + rules)) blocks

-- "zero bytes behind it"
unfoldable pub laid : Book → Blocks
laid book = book ++ replicate (18432 - length book) 0
