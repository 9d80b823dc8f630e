-- Laws of Flows: its answer, and the words on leaving, by the first list of tests that refuses, or by none. Assumes
-- nothing.
use mathlib.Core.Path.{◌≡◌, sym}
use mathlib.Core.List.{List}
use Prim.Native.Nat.{ℕ}
use Rattle.std.specs.Prelude.{Ok, Err}
use Rattle.book.specs.Blocks.{head_of}
use Rattle.book.specs.Tests.{Test, Passes, first_failing}
use Rattle.book.specs.Refusals.{book_tests}
use Rattle.book.specs.declared.refusal.Refusal.{Refusal}
use Rattle.book.proofs.Calls.{first_refuses, second_refuses, third_refuses, all_pass}
use Rattle.lineage.specs.Accesses.{access_words}
use Rattle.lineage.specs.Answers.{plan_tests, words_tests, flows_answer, flows_words, flows_tests}

module _ (book plan words : List ℕ) where
  -- what a refusal answers, and leaves
  abbrev RefusedBy : Refusal → Type 0
  RefusedBy r = (Err r ≡ flows_answer book plan words) × (words ≡ flows_words book plan words)

  abbrev a : List Test
  a = book_tests book

  abbrev b : List Test
  b = plan_tests (head_of book) plan

  pub book_refused : (r : Refusal) → first_failing (book_tests book) ≡ Err r → RefusedBy r
  unfolding flows_answer flows_words flows_tests
  book_refused r h = (
    sym (first_refuses a b (words_tests words) Err (Ok tt) r h),
    sym (first_refuses a b (words_tests words) (λ refusal. words) (access_words (head_of book) plan) r h),
  )

  module _ (accepted : Passes (book_tests book)) where
    pub plan_refused_there : (r : Refusal) → first_failing (plan_tests (head_of book) plan) ≡ Err r → RefusedBy r
    unfolding flows_answer flows_words flows_tests
    plan_refused_there r h = (
      sym (second_refuses a b (words_tests words) Err (Ok tt) r accepted h),
      sym (second_refuses a b (words_tests words) (λ refusal. words) (access_words (head_of book) plan) r accepted h),
    )

    module _ (sound : Passes (plan_tests (head_of book) plan)) where
      pub words_refused : (r : Refusal) → first_failing (words_tests words) ≡ Err r → RefusedBy r
      unfolding flows_answer flows_words flows_tests
      words_refused r h = (
        sym (third_refuses a b (words_tests words) Err (Ok tt) r accepted sound h),
        sym
            (third_refuses a b (words_tests words) (λ refusal. words) (access_words (head_of book) plan) r accepted sound
            h),
      )

      pub flows_done :
          Passes (words_tests words)
          → (Ok tt ≡ flows_answer book plan words) × (access_words (head_of book) plan ≡ flows_words book plan words)
      unfolding flows_answer flows_words flows_tests
      flows_done h = (
        sym (all_pass a b (words_tests words) Err (Ok tt) accepted sound h),
        sym (all_pass a b (words_tests words) (λ refusal. words) (access_words (head_of book) plan) accepted sound h),
      )
