-- Laws of Judge: which of its tests refuses, what it has tested when it accepts, and its answer by the outcome of its tests.
-- Assumes nothing.
use Prim.Native.Nat.{ℕ, ◌≤◌}
use native.Mathlib.Omega.{arith}
use mathlib.Core.Path.{◌≡◌, sym, ◌∙◌}
use mathlib.Core.List.{List, ◌++◌}
use Rattle.std.specs.Prelude.{true, Err}
use Rattle.std.specs.Result.{result_and}
use Rattle.book.specs.Blocks.{head_of}
use Rattle.book.specs.Head.{is_user, user_count}
use Rattle.book.specs.Tests.{Outcome, Passes, first_failing}
use Rattle.book.specs.Refusals.{BookAccepted, book_tests}
use Rattle.book.specs.Inner.Words.{HeadWords}
use Rattle.book.specs.declared.words.Words.{Words}
use Rattle.book.specs.declared.refusal.Refusal.{Refusal}
use Rattle.book.specs.declared.refusal.Refusal.TheVariants.{NoUser}
use Rattle.book.proofs.Accepted.{accepted_head}
use Rattle.book.proofs.Answers.{answered_passed, answered_refused, append_passed, append_refused, joined_after, last_passed}
use Rattle.book.proofs.Calls.{after_passed, passed_both}
use Rattle.lineage.specs.Answers.{plan_tests}
use Rattle.verdicts.specs.Accesses.{accesses_of}
use Rattle.verdicts.specs.Breaking.{broken_mask}
use Rattle.verdicts.specs.Answers.{broken, user_tests, judge_tests, judge_answer}
use Rattle.verdicts.specs.Demand.{JudgeAccepted}
use Rattle.verdicts.specs.Inner.Masks.{UserTested}

-- the outcomes of book and user, joined. The user's counts only where the book is accepted, and there the number of users
-- is small.
pub user_joined :
    (book : List ℕ) (user : ℕ) (x y both : Outcome)
    → x ≡ first_failing (book_tests book)
    → (user_count (head_of book) ≤ 64 → y ≡ first_failing (user_tests (head_of book) user))
    → both ≡ result_and x y
    → both ≡ first_failing (book_tests book ++ user_tests (head_of book) user)
user_joined book user x y both ex ey eb =
    joined_after (book_tests book) (user_tests (head_of book) user) x y both ex
    (λ accepted. let h = accepted_head book accepted in ey (omega (arith, h.users_most)))
    eb

module _ (book : List ℕ) (user : ℕ) (plan : List ℕ) where
  -- the refusal of a book is Judge's
  pub book_refused :
      (r : Refusal) → first_failing (book_tests book) ≡ Err r → first_failing (judge_tests book user plan) ≡ Err r
  unfolding judge_tests
  book_refused r h =
      append_refused (book_tests book ++ user_tests (head_of book) user) (plan_tests (head_of book) plan) r
      (append_refused (book_tests book) (user_tests (head_of book) user) r h)

  -- that of a user is, where the book is accepted
  pub user_refused :
      (r : Refusal)
      → BookAccepted book
      → first_failing (user_tests (head_of book) user) ≡ Err r
      → first_failing (judge_tests book user plan) ≡ Err r
  unfolding judge_tests
  user_refused r accepted h =
      append_refused (book_tests book ++ user_tests (head_of book) user) (plan_tests (head_of book) plan) r
      (after_passed (book_tests book) (user_tests (head_of book) user) accepted ∙ h)

  -- what the code tests of a user, by the words of an accepted book
  pub user_told :
      (words : Words) (outcome : Outcome)
      → BookAccepted book
      → HeadWords (head_of book) words
      → UserTested words user outcome
      → outcome ≡ first_failing (user_tests (head_of book) user)
  user_told words outcome accepted held tested =
      let h = accepted_head book accepted in
      tested (head_of book) held (omega (arith, h.users_most))

  -- where book and user are accepted, the plan decides
  pub plan_decides :
      BookAccepted book
      → Passes (user_tests (head_of book) user)
      → first_failing (judge_tests book user plan) ≡ first_failing (plan_tests (head_of book) plan)
  unfolding judge_tests
  plan_decides accepted passed =
      after_passed (book_tests book ++ user_tests (head_of book) user) (plan_tests (head_of book) plan)
      (passed_both (book_tests book) (user_tests (head_of book) user) accepted passed)

  -- what Judge has tested when it accepts
  pub judge_accepted : Passes (judge_tests book user plan) → JudgeAccepted book user plan
  unfolding judge_tests user_tests
  judge_accepted h =
      let last = append_passed (book_tests book ++ user_tests (head_of book) user) (plan_tests (head_of book) plan) h in
      let first = append_passed (book_tests book) (user_tests (head_of book) user) last.0 in
      record {
        book_accepted = first.0;
        a_user = last_passed NoUser (is_user (head_of book) user) first.1;
        plan_accepted = last.1;
      }

  user_passes : is_user (head_of book) user ≡ true → Passes (user_tests (head_of book) user)
  unfolding user_tests first_failing
  user_passes h = rw h

  -- and the other way
  pub judge_passes : JudgeAccepted book user plan → Passes (judge_tests book user plan)
  judge_passes given = plan_decides given.book_accepted (user_passes given.a_user) ∙ given.plan_accepted

  -- the answer where it accepts, and where it refuses
  pub judge_answer_law :
      Passes (judge_tests book user plan)
      → judge_answer book user plan ≡ broken (broken_mask book user (accesses_of (head_of book) plan))
  unfolding judge_answer
  judge_answer_law h =
      answered_passed (judge_tests book user plan) Err (broken (broken_mask book user (accesses_of (head_of book) plan))) h

  pub judge_refused :
      (r : Refusal) → first_failing (judge_tests book user plan) ≡ Err r → Err r ≡ judge_answer book user plan
  unfolding judge_answer
  judge_refused r h =
      sym
      (answered_refused (judge_tests book user plan) Err
      (broken (broken_mask book user (accesses_of (head_of book) plan))) r h)
