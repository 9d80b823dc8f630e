-- The tests of the three calls in document 02's order, what each replies, whole, and the ledger, the tally and the hold
-- record on leaving. Document 02, N3, N8 and N10. Assumes nothing.
use Rattle.std.specs.Prelude.{ℕ, ◌+◌, not, cond, List, [], ◌∷◌, ◌++◌, length, eqb, ltb, Result, Ok, Err}
use Rattle.book.specs.Blocks.{Book, head_of}
use Rattle.book.specs.Tests.{Test, answered}
use Rattle.book.specs.Refusals.{book_tests}
use Rattle.book.specs.declared.refusal.Refusal.{Refusal}
use Rattle.book.specs.declared.refusal.Refusal.TheVariants.{LedgerLength, CountsFull, PlacesFull, NotHeld}
use Rattle.lineage.specs.Rows.{Plan}
use Rattle.lineage.specs.Accesses.{access_words}
use Rattle.verdicts.specs.Accesses.{Accesses, accesses_of, union}
use Rattle.verdicts.specs.Breaking.{broken_mask}
use Rattle.verdicts.specs.Answers.{user_tests, judge_tests}
use Rattle.ledger.specs.Ledger.{Ledger, words_of, admitted_for, joined_for}
use Rattle.ledger.specs.Counts.{counts_of, raised_for}
use Rattle.ledger.specs.Places.{held_count, holds_number, eight_held, empty_place, place_of, held_accesses}
use Rattle.ledger.specs.Places.{placed, freed}
use Rattle.ledger.specs.declared.Tally.{Tally}
use Rattle.ledger.specs.declared.Holds.{Holds}
use Rattle.ledger.specs.declared.Asked.{Asked}
use Rattle.ledger.specs.declared.Asked.TheVariants.{Held, Declined}

-- 27: "a ledger not of 1,024 words"
unfoldable pub ledger_tests : Ledger → List Test
ledger_tests ledger = (LedgerLength, eqb (length ledger) 1024) ∷ []

-- "its user's admitted + dropped + held": how many numbers he was given
unfoldable pub given_to : (user : ℕ) → Tally → Holds → ℕ
given_to user tally holds = (counts_of tally user).admitted + (counts_of tally user).dropped + held_count holds user

-- "each user's admitted + dropped + held + declined"
unfoldable pub asked_by : (user : ℕ) → Tally → Holds → ℕ
asked_by user tally holds = given_to user tally holds + (counts_of tally user).declined

-- 28: "for an ask when that sum is 1,000,000 or more"
unfoldable pub count_tests : (user : ℕ) → Tally → Holds → List Test
count_tests user tally holds = (CountsFull, ltb (asked_by user tally holds) 1000000) ∷ []

-- 31: "exactly while eight are held"
unfoldable pub place_tests : Holds → List Test
place_tests holds = (PlacesFull, not (eight_held holds)) ∷ []

-- 32: "for a number that user doesn't hold"
unfoldable pub number_tests : (user number : ℕ) → Holds → List Test
number_tests user number holds = (NotHeld, holds_number holds user number) ∷ []

-- "his words joined with his held plans"
unfoldable pub counted_for : Ledger → Holds → (user : ℕ) → Accesses
counted_for ledger holds user = union (admitted_for ledger user) (held_accesses holds user)

-- Asking

module _ (book : Book) (user : ℕ) (plan : Plan) (ledger : Ledger) (tally : Tally) (holds : Holds) where
  -- "an ask has the earlier refusals, then 31"
  unfoldable pub ask_tests : List Test
  ask_tests = judge_tests book user plan ++ ledger_tests ledger ++ count_tests user tally holds ++ place_tests holds

  -- "Asking counts the user's held plans as already admitted"
  unfoldable pub ask_accesses : Accesses
  ask_accesses = union (counted_for ledger holds user) (accesses_of (head_of book) plan)

  unfoldable pub ask_mask : ℕ
  ask_mask = broken_mask book user ask_accesses

  -- "An ask replies with the mask and that number, 0 if declined": held, the mask is 0, and "A new hold's number is 1 +
  -- its user's admitted + dropped + held"; declined, it is the number that is 0
  unfoldable pub ask_answer : Result Asked Refusal
  ask_answer =
      answered ask_tests Err (Ok (cond (eqb ask_mask 0) (Held (given_to user tally holds + 1)) (Declined ask_mask)))

  -- a declined plan is counted for its user; "a refusal leaves every ledger and record as it was"
  unfoldable pub ask_tally : Tally
  ask_tally =
      answered ask_tests (λ refusal. tally)
      (cond (eqb ask_mask 0) tally
      (record {
        admitted = tally.admitted;
        declined = raised_for tally.declined user;
        dropped = tally.dropped;
      }))

  -- "a hold takes the lowest empty place", and keeps the plan's own accesses
  unfoldable pub ask_holds : Holds
  ask_holds =
      answered ask_tests (λ refusal. holds)
      (cond (eqb ask_mask 0)
      (placed holds (empty_place holds) user (given_to user tally holds + 1) (access_words (head_of book) plan)) holds)

-- Committing and dropping

module _ (book : Book) (user number : ℕ) (ledger : Ledger) (holds : Holds) where
  -- "committing or dropping has book refusals, 20 and 27, then 32"
  unfoldable pub settle_tests : List Test
  settle_tests =
      book_tests book ++ user_tests (head_of book) user ++ ledger_tests ledger ++ number_tests user number holds

  -- "committing and dropping reply with the number given"
  unfoldable pub settle_answer : Result ℕ Refusal
  settle_answer = answered settle_tests Err (Ok number)

  -- "a committed or dropped hold frees its place"; "a refusal leaves every ledger and record as it was"
  unfoldable pub settle_holds : Holds
  settle_holds = answered settle_tests (λ refusal. holds) (freed holds (place_of holds user number))

  -- "committing admits a held plan": its words are joined to the user's
  unfoldable pub commit_ledger : Ledger
  commit_ledger =
      answered settle_tests (λ refusal. ledger)
      (joined_for ledger user (words_of holds.words (place_of holds user number)))

  -- and it is counted as admitted
  unfoldable pub commit_tally : Tally → Tally
  commit_tally tally =
      answered settle_tests (λ refusal. tally)
      (record {
        admitted = raised_for tally.admitted user;
        declined = tally.declined;
        dropped = tally.dropped;
      })

  -- "dropping forgets it", and counts it as dropped
  unfoldable pub drop_tally : Tally → Tally
  drop_tally tally =
      answered settle_tests (λ refusal. tally)
      (record {
        admitted = tally.admitted;
        declined = tally.declined;
        dropped = raised_for tally.dropped user;
      })
