-- Lists of edits: what they leave in the record, and the book that they make. Document 02, N11. Assumes nothing.
use Rattle.std.specs.Prelude.{ℕ, ◌≡◌, List, [], ◌∷◌, length}
use Rattle.book.specs.Blocks.{Book, Block, rule_count}
use Rattle.book.specs.Tests.{answered}
use Rattle.book.specs.Refusals.{BookAccepted}
use Rattle.editing.specs.Books.{with_rule, without_rule}
use Rattle.editing.specs.Marks.{marks_of}
use Rattle.editing.specs.Record.{Record, book_in}
use Rattle.editing.specs.Answers.{arrival_tests, departure_tests, arrive_blocks, arrive_rules, arrive_marks}
use Rattle.editing.specs.Answers.{depart_blocks, depart_rules, depart_marks}

-- "such edits": a block arrives, or a rule leaves by its number
pub data Edit : Type 0 where
  Arrive : Block → Edit
  Depart : ℕ → Edit

-- the record after one edit, refused or not
unfoldable pub edited : Record → Edit → Record
edited s (Arrive block) =
    record {
      blocks = arrive_blocks s.blocks s.rules block;
      rules = arrive_rules s.blocks s.rules block;
      marks = arrive_marks s.blocks s.rules block s.marks;
    }
edited s (Depart r) =
    record {
      blocks = depart_blocks s.blocks s.rules r;
      rules = depart_rules s.blocks s.rules r;
      marks = depart_marks s.blocks s.rules r s.marks;
    }

-- a list of edits, the latest first: the record that it leaves
unfoldable pub record_after : (start : Record) → List Edit → Record
record_after start [] = start
record_after start (e ∷ earlier) = edited (record_after start earlier) e

-- the same over books alone: a refused edit leaves the book as it is
unfoldable pub book_with : Book → Edit → Book
book_with book (Arrive block) =
    answered (arrival_tests (rule_count book) book block) (λ refusal. book) (with_rule book block)
book_with book (Depart r) = answered (departure_tests (rule_count book) book r) (λ refusal. book) (without_rule book r)

-- the book that a list of edits makes
unfoldable pub book_after : Book → List Edit → Book
book_after book [] = book
book_after book (e ∷ earlier) = book_with (book_after book earlier) e

-- What a list begins with

-- "an accepted book without rules and a zero mask", at the front of 36 blocks
pub record Fresh (s : Record) : Type 0 where
  pub whole : length s.blocks ≡ 18432
  pub accepted : BookAccepted (book_in s.blocks 0)
  pub no_rules : s.rules ≡ 0
  pub no_marks : s.marks ≡ 0

-- any accepted book, with the mask that Idle gives afresh: a fresh record is one, and so is one that was opened with its
-- marks
pub record Marked (s : Record) : Type 0 where
  pub whole : length s.blocks ≡ 18432
  pub accepted : BookAccepted (book_in s.blocks s.rules)
  pub counted : s.rules ≡ rule_count (book_in s.blocks s.rules)
  pub mask : s.marks ≡ marks_of (book_in s.blocks s.rules)
