-- The tests of an arrival and of a departure in document 02's order, what each replies, whole, and the blocks, the
-- number of rules and the mask on leaving. Document 02, N11. Assumes nothing.
use Rattle.std.specs.Prelude.{ℕ, ◌+◌, ◌-◌, List, [], ◌∷◌, ◌++◌, length, eqb, ltb, leb, Result, Ok, Err}
use Rattle.book.specs.Blocks.{Book, Block}
use Rattle.book.specs.Tests.{Test, answered}
use Rattle.book.specs.Refusals.{book_tests}
use Rattle.book.specs.declared.refusal.Refusal.{Refusal}
use Rattle.book.specs.declared.refusal.Refusal.TheVariants.{BookLength, RulesFull}
use Rattle.search.specs.Answers.{rule_tests}
use Rattle.editing.specs.Books.{with_rule, without_rule}
use Rattle.editing.specs.Marks.{arrival_marks, departure_marks}
use Rattle.editing.specs.Record.{Blocks, book_in, laid}

-- 33: "an arrival at 32 rules or more"
unfoldable pub room_tests : (rules : ℕ) → List Test
room_tests rules = (RulesFull, ltb rules 32) ∷ []

-- 1: "a block not of 512 bytes"
unfoldable pub new_block_tests : Block → List Test
new_block_tests block = (BookLength, eqb (length block) 512) ∷ []

-- 1: "a number above 32 makes the book too long"
unfoldable pub number_tests : (rules : ℕ) → List Test
number_tests rules = (BookLength, leb rules 32) ∷ []

-- "an arrival at 32 rules or more is 33, tested first, then 1 for a block not of 512 bytes, then come the refusals of
-- the book with the new block"
unfoldable pub arrival_tests : (rules : ℕ) → Book → Block → List Test
arrival_tests rules book block = room_tests rules ++ new_block_tests block ++ book_tests (with_rule book block)

-- "a departure has the refusals of the book as it is, then 24"
unfoldable pub departure_tests : (rules : ℕ) → Book → (r : ℕ) → List Test
departure_tests rules book r = number_tests rules ++ book_tests book ++ rule_tests book r

-- An arrival

module _ (blocks : Blocks) (rules : ℕ) (block : Block) where
  unfoldable pub arrive_tests : List Test
  arrive_tests = arrival_tests rules (book_in blocks rules) block

  -- "the bytes behind the book" are cleared; "a refusal leaves every ledger and record as it was"
  unfoldable pub arrive_blocks : Blocks
  arrive_blocks = answered arrive_tests (λ refusal. blocks) (laid (with_rule (book_in blocks rules) block))

  unfoldable pub arrive_rules : ℕ
  arrive_rules = answered arrive_tests (λ refusal. rules) (rules + 1)

  unfoldable pub arrive_marks : (marks : ℕ) → ℕ
  arrive_marks marks =
      answered arrive_tests (λ refusal. marks) (arrival_marks (with_rule (book_in blocks rules) block) rules marks)

  -- "and replies with the new mask"
  unfoldable pub arrive_answer : (marks : ℕ) → Result ℕ Refusal
  arrive_answer marks =
      answered arrive_tests Err (Ok (arrival_marks (with_rule (book_in blocks rules) block) rules marks))

-- A departure

module _ (blocks : Blocks) (rules r : ℕ) where
  unfoldable pub depart_tests : List Test
  depart_tests = departure_tests rules (book_in blocks rules) r

  unfoldable pub depart_blocks : Blocks
  depart_blocks = answered depart_tests (λ refusal. blocks) (laid (without_rule (book_in blocks rules) r))

  unfoldable pub depart_rules : ℕ
  depart_rules = answered depart_tests (λ refusal. rules) (rules - 1)

  unfoldable pub depart_marks : (marks : ℕ) → ℕ
  depart_marks marks =
      answered depart_tests (λ refusal. marks) (departure_marks (without_rule (book_in blocks rules) r) r marks)

  unfoldable pub depart_answer : (marks : ℕ) → Result ℕ Refusal
  depart_answer marks =
      answered depart_tests Err (Ok (departure_marks (without_rule (book_in blocks rules) r) r marks))
