-- The tests of Flows in document 01's order, and what it answers, whole, with the words on leaving. Document 01, "The
-- calls". Assumes nothing.
use Rattle.std.specs.Prelude.{ℕ, ◌%◌, Bool, ◌&&◌, List, [], ◌∷◌, ◌++◌, length, eqb, leb, Ok, Err}
use Rattle.book.specs.Lists.{flat, up_to}
use Rattle.book.specs.Blocks.{Book, Head, head_of}
use Rattle.book.specs.Tests.{Test, Outcome, Passes, answered}
use Rattle.book.specs.Refusals.{BookAccepted, book_tests}
use Rattle.lineage.specs.Rows.{Plan, row_count, row_holds}
use Rattle.lineage.specs.Accesses.{access_words}
use Rattle.book.specs.declared.refusal.Refusal.TheVariants.{PlanLength, FaultyRow, WordCount}

-- 21: "plan length not a multiple of 4 or above 256"
unfoldable pub plan_length_holds : ℕ → Bool
plan_length_holds n = eqb (n % 4) 0 && leb n 256

-- 22: "lowest faulty row, place the row"
unfoldable pub row_tests : Head → Plan → ℕ → List Test
row_tests head plan i = (FaultyRow i, row_holds head plan i) ∷ []

-- 21, then 22
unfoldable pub plan_tests : Head → Plan → List Test
plan_tests head plan =
    (PlanLength, plan_length_holds (length plan)) ∷ flat (row_tests head plan) (up_to (row_count plan))

-- "a plan, for that book, when neither 21 nor 22 applies to it"
abbrev pub PlanAccepted : Head → Plan → Type 0
PlanAccepted head plan = Passes (plan_tests head plan)

-- the book and the plan for it
abbrev pub BothAccepted : Book → Plan → Type 0
BothAccepted book plan = BookAccepted book × PlanAccepted (head_of book) plan

-- 23: "buffer not 32 words"
unfoldable pub words_tests : List ℕ → List Test
words_tests words = (WordCount, eqb (length words) 32) ∷ []

-- "Book refusals; 21 [..]; 22 [..]; 23"
unfoldable pub flows_tests : Book → Plan → List ℕ → List Test
flows_tests book plan words = book_tests book ++ plan_tests (head_of book) plan ++ words_tests words

unfoldable pub flows_answer : Book → Plan → List ℕ → Outcome
flows_answer book plan words = answered (flows_tests book plan words) Err (Ok tt)

-- the words on leaving: "Every refusal leaves its buffers unchanged."
unfoldable pub flows_words : Book → Plan → List ℕ → List ℕ
flows_words book plan words =
    answered (flows_tests book plan words) (λ refusal. words) (access_words (head_of book) plan)
