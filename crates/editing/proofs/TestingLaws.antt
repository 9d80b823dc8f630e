-- Laws of a departure's tests, as the code goes through them: the number of rules, the book as it is, the rule's number.
-- Assumes nothing.
use Prim.Native.Nat.{ℕ, ◌+◌, ◌*◌, ◌≤◌}
use mathlib.Core.Path.{◌≡◌, sym}
use mathlib.Core.List.{List, ◌++◌}
use lib.ListN.{take}
use lib.Dec.{leb}
use borrow.Author.Tests.{leb-true}
use Rattle.std.specs.Prelude.{Err}
use Rattle.book.specs.Blocks.{head_of}
use Rattle.book.specs.Inner.Words.{HeadWords}
use Rattle.book.specs.declared.words.Words.{Words}
use Rattle.book.specs.Tests.{Passes, first_failing}
use Rattle.book.specs.Refusals.{book_tests}
use Rattle.book.specs.declared.refusal.Refusal.{Refusal}
use Rattle.book.specs.declared.refusal.Refusal.TheVariants.{BookLength}
use Rattle.book.proofs.Answers.{append_refused, last_passed, list_went_on}
use Rattle.search.specs.Answers.{rule_tests}
use Rattle.editing.specs.Record.{book_in}
use Rattle.editing.specs.Answers.{depart_tests, departure_tests, number_tests}
use Rattle.editing.proofs.Accepting.{append_passes}
use Rattle.editing.proofs.EditLaws.{book_head}

pub number_few : (rules : ℕ) → Passes (number_tests rules) → rules ≤ 32
unfolding number_tests
number_few rules h = leb-true rules 32 (last_passed BookLength (leb rules 32) h)

-- the book has the head of the blocks
pub book_told :
    (blocks : List ℕ) (rules : ℕ) (words : Words)
    → HeadWords (head_of (take (512 * (4 + rules)) blocks)) words
    → HeadWords (head_of blocks) words
unfolding book_in
book_told blocks rules words h = rw (book_head blocks rules) at h

module _ (blocks : List ℕ) (rules r : ℕ) where
  pub number_refused :
      (x : Refusal) → first_failing (number_tests rules) ≡ Err x → first_failing (depart_tests blocks rules r) ≡ Err x
  unfolding depart_tests departure_tests
  number_refused x h =
      let book = book_in blocks rules in
      append_refused (number_tests rules ++ book_tests book) (rule_tests book r) x
      (append_refused (number_tests rules) (book_tests book) x h)

  module _ (few : Passes (number_tests rules)) where
    pub book_refused :
        (x : Refusal)
        → first_failing (book_tests (take (512 * (4 + rules)) blocks)) ≡ Err x
        → first_failing (depart_tests blocks rules r) ≡ Err x
    unfolding depart_tests departure_tests book_in
    book_refused x h =
        let book = take (512 * (4 + rules)) blocks in
        append_refused (number_tests rules ++ book_tests book) (rule_tests book r) x
        (sym (list_went_on (number_tests rules) (book_tests book) (Err x) few (sym h)))

    module _ (accepted : Passes (book_tests (take (512 * (4 + rules)) blocks))) where
      pub rule_refused :
          (x : Refusal)
          → first_failing (rule_tests (take (512 * (4 + rules)) blocks) r) ≡ Err x
          → first_failing (depart_tests blocks rules r) ≡ Err x
      unfolding depart_tests departure_tests book_in
      rule_refused x h =
          let book = take (512 * (4 + rules)) blocks in
          sym
          (list_went_on (number_tests rules ++ book_tests book) (rule_tests book r) (Err x)
          (append_passes (number_tests rules) (book_tests book) few accepted) (sym h))

      pub all_passed :
          Passes (rule_tests (take (512 * (4 + rules)) blocks) r) → Passes (depart_tests blocks rules r)
      unfolding depart_tests departure_tests book_in
      all_passed h =
          let book = take (512 * (4 + rules)) blocks in
          append_passes (number_tests rules ++ book_tests book) (rule_tests book r)
          (append_passes (number_tests rules) (book_tests book) few accepted) h
