-- What the functions that make Judge's mask promise to each other. No call's promise leans on this file.
-- Assumes nothing.
use Rattle.std.specs.Prelude.{ℕ, ◌≤◌, ◌≡◌, Bool}
use Rattle.book.specs.Blocks.{Book, Head, Rule, head_of}
use Rattle.book.specs.Head.{user_count}
use Rattle.book.specs.Tests.{Outcome, first_failing}
use Rattle.book.specs.Refusals.{BookAccepted}
use Rattle.book.specs.Inner.Words.{HeadWords}
use Rattle.book.specs.declared.words.Words.{Words}
use Rattle.verdicts.specs.Accesses.{Accesses}
use Rattle.verdicts.specs.Answers.{user_tests}
use Rattle.verdicts.specs.Breaking.{breaks, broken_mask}
use Rattle.verdicts.specs.Inner.Words.{RuleSound}

-- whether a user and a set of accesses break a rule of an accepted book
abbrev pub BrokenIfSound : (words : Words) (rule : Rule) (user : ℕ) → Accesses → (told : Bool) → Type 0
BrokenIfSound words rule user accesses told =
    (head : Head) → HeadWords head words → RuleSound head rule → told ≡ breaks head rule user accesses

-- the mask of the rules of an accepted book that a user and a set of accesses break
abbrev pub BrokenIfAccepted : (book : Book) (words : Words) (user : ℕ) → Accesses → (mask : ℕ) → Type 0
BrokenIfAccepted book words user accesses mask =
    HeadWords (head_of book) words → BookAccepted book → mask ≡ broken_mask book user accesses

-- the outcome of the user's test, by the words of a head
abbrev pub UserTested : (words : Words) (user : ℕ) (outcome : Outcome) → Type 0
UserTested words user outcome =
    (head : Head) → HeadWords head words → user_count head ≤ 64 → outcome ≡ first_failing (user_tests head user)
