-- The tests of Idle in document 01's order, and what it answers, whole, with the buffer on leaving. Document 01, "The
-- calls". Assumes nothing.
use Rattle.std.specs.Prelude.{ℕ, List, [], ◌∷◌, ◌++◌, length, drop, ltb, leb, Option, Some, None, Result, Ok, Err}
use Rattle.book.specs.Blocks.{Book, Head, head_of, rule_count}
use Rattle.book.specs.Tests.{Test, answered}
use Rattle.book.specs.Refusals.{book_tests}
use Rattle.book.specs.declared.refusal.Refusal.{Refusal}
use Rattle.book.specs.declared.refusal.Refusal.TheVariants.{NoRule, BufferLength}
use Rattle.lineage.specs.Rows.{row_count}
use Rattle.search.specs.Choices.{Candidate}
use Rattle.search.specs.Shown.{shown_plan}
use Rattle.search.specs.Alone.{First, none, shown, first_alone}
use Rattle.search.specs.declared.Shown.{Shown}

-- 24: "no such rule"
unfoldable pub rule_tests : (book : Book) (r : ℕ) → List Test
rule_tests book r = (NoRule, ltb r (rule_count book)) ∷ []

-- 25: "buffer under 36 bytes"
unfoldable pub buffer_tests : List ℕ → List Test
buffer_tests buffer = (BufferLength, leb 36 (length buffer)) ∷ []

-- "Book refusals; 24 [..]; 25"
unfoldable pub idle_tests : (book : Book) (r : ℕ) (buffer : List ℕ) → List Test
idle_tests book r buffer = book_tests book ++ rule_tests book r ++ buffer_tests buffer

-- an answer: nothing is shown, or a user and the plan's rows, or a refusal
abbrev pub Idleness : Type 0
Idleness = Result (Option Shown) Refusal

-- the answer that the rule is idle
abbrev pub idle : Idleness
idle = Ok None

-- the answer that is this user and so many rows
abbrev pub needed : (user rows : ℕ) → Idleness
needed user rows = Ok (Some (record { user = user; rows = rows }))

-- "Otherwise idle [..]; or user and row count"
unfoldable pub idleness_of : Head → First Candidate → Idleness
idleness_of head none = idle
idleness_of head (shown c) = needed c.user (row_count (shown_plan head c.choice))

unfoldable pub idle_answer : (book : Book) (r : ℕ) (buffer : List ℕ) → Idleness
idle_answer book r buffer =
    answered (idle_tests book r buffer) Err (idleness_of (head_of book) (first_alone book r))

-- "buffer unchanged; or [..] the plan at the buffer's front and the rest unchanged"
unfoldable pub written : Head → First Candidate → List ℕ → List ℕ
written head none buffer = buffer
written head (shown c) buffer = shown_plan head c.choice ++ drop (length (shown_plan head c.choice)) buffer

-- the buffer on leaving: "Every refusal leaves its buffers unchanged."
unfoldable pub idle_buffer : (book : Book) (r : ℕ) (buffer : List ℕ) → List ℕ
idle_buffer book r buffer =
    answered (idle_tests book r buffer) (λ refusal. buffer) (written (head_of book) (first_alone book r) buffer)
