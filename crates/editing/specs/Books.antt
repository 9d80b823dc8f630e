-- A book with a rule more and with a rule less. Document 02, N11: "a book whose rules arrive at the end or leave by
-- number, later ones moving down". Assumes nothing.
use Rattle.std.specs.Prelude.{ℕ, suc, ◌+◌, ◌*◌, cond, ◌++◌, take, drop, ltb}
use Rattle.book.specs.Blocks.{Book, Block}

-- "rules arrive at the end"
unfoldable pub with_rule : Book → Block → Book
with_rule book block = book ++ block

-- "or leave by number": the blocks before rule r, and those after it
unfoldable pub without_rule : Book → (r : ℕ) → Book
without_rule book r = take (512 * (4 + r)) book ++ drop (512 * (5 + r)) book

-- "later ones moving down": the number that rule q of the book without rule r had before
unfoldable pub number_before : (r q : ℕ) → ℕ
number_before r q = cond (ltb q r) q (suc q)
