-- What Book check and Seal answer, whole, and a lent block's bytes on leaving. Document 01, "The calls".
-- Assumes nothing.
use Rattle.std.specs.Prelude.{◌/◌, ◌%◌, [], ◌∷◌, ◌++◌, take, Result, Ok, Err, ℕ}
use Rattle.book.specs.Blocks.{Book, Block, rule_count, check_sum}
use Rattle.book.specs.Tests.{Outcome, answered}
use Rattle.book.specs.Refusals.{book_tests, seal_tests}
use Rattle.book.specs.declared.refusal.Refusal.{Refusal}

-- "Otherwise accepted, with the number of rules."
unfoldable pub check_answer : Book → Result ℕ Refusal
check_answer book = answered (book_tests book) Err (Ok (rule_count book))

-- "Seal (a block). 10, not 512 bytes."
unfoldable pub seal_answer : Block → Outcome
seal_answer block = answered (seal_tests block) Err (Ok tt)

-- "the check is written, other bytes unchanged"
unfoldable pub with_check : Block → Block
with_check block = take 510 block ++ (check_sum block / 256 ∷ check_sum block % 256 ∷ [])

-- the block's bytes on leaving: "Every refusal leaves its buffers unchanged."
unfoldable pub seal_bytes : Block → Block
seal_bytes block = answered (seal_tests block) (λ refusal. block) (with_check block)
