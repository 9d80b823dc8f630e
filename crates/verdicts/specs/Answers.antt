-- The tests of Judge in document 01's order, and what it answers, whole. Document 01, "The calls". Assumes nothing.
use Rattle.std.specs.Prelude.{ℕ, List, [], ◌∷◌, ◌++◌, Result, Ok, Err}
use Rattle.book.specs.Blocks.{Book, Head, head_of}
use Rattle.book.specs.Head.{is_user}
use Rattle.book.specs.Tests.{Test, answered}
use Rattle.book.specs.Refusals.{book_tests}
use Rattle.book.specs.declared.refusal.Refusal.{Refusal}
use Rattle.book.specs.declared.refusal.Refusal.TheVariants.{NoUser}
use Rattle.lineage.specs.Rows.{Plan}
use Rattle.lineage.specs.Answers.{plan_tests}
use Rattle.verdicts.specs.Accesses.{accesses_of}
use Rattle.verdicts.specs.Breaking.{broken_mask}
use Rattle.verdicts.specs.declared.Broken.{Broken}

-- 20: "the user is no leaf"
unfoldable pub user_tests : (head : Head) (user : ℕ) → List Test
user_tests head user = (NoUser, is_user head user) ∷ []

-- "Book refusals; 20 [..]; 21; 22."
unfoldable pub judge_tests : (book : Book) (user : ℕ) (plan : Plan) → List Test
judge_tests book user plan = book_tests book ++ user_tests (head_of book) user ++ plan_tests (head_of book) plan

-- an answer: a mask, or a refusal
abbrev pub Judged : Type 0
Judged = Result Broken Refusal

-- the answer that is this mask
abbrev pub broken : (mask : ℕ) → Judged
broken mask = Ok (record { mask = mask })

unfoldable pub judge_answer : (book : Book) (user : ℕ) (plan : Plan) → Judged
judge_answer book user plan =
    answered (judge_tests book user plan) Err (broken (broken_mask book user (accesses_of (head_of book) plan)))
