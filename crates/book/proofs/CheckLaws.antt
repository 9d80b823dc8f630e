-- Laws of Book check: the outcome of its tests by those of the three passes, and its answer by that outcome.
-- Assumes nothing.
use Prim.Native.Nat.{ℕ}
use native.Mathlib.Omega.{arith}
use mathlib.Core.Path.{◌≡◌, refl, sym, ◌∙◌}
use mathlib.Core.Bool.{true}
use mathlib.Core.List.{List, [], ◌∷◌, ◌++◌}
use lib.ListN.{length}
use Rattle.book.specs.Lists.{flat, up_to}
use Rattle.book.specs.Blocks.{block_count, rule_count}
use Rattle.book.specs.Tests.{Test, Passes, Outcome, first_failing, refused_or, answered}
use Rattle.book.specs.Refusals.{BookAccepted, book_tests, block_by_block, check_tests, content_tests, kind_tests}
use Rattle.book.specs.Refusals.{length_holds, length_tests}
use Rattle.book.specs.Answers.{check_answer}
use Rattle.std.specs.Prelude.{Result, Ok, Err}
use Rattle.book.specs.declared.refusal.Refusal.{Refusal}
use Rattle.book.specs.declared.refusal.Refusal.TheVariants.{BookLength}
use Rattle.book.proofs.Answers.{append_refused, list_stopped, list_went_on}

module _ (book : List ℕ) where
  -- an accepting answer says that nothing is refused, and gives the number of rules
  pub accepted_passes : (n : ℕ) → check_answer book ≡ Ok n → BookAccepted book × (rule_count book ≡ n)
  unfolding check_answer answered refused_or
  accepted_passes n h = go (first_failing (book_tests book)) refl
    where
      go : (f : Outcome) → first_failing (book_tests book) ≡ f → BookAccepted book × (rule_count book ≡ n)
      go (Ok done) e =
          let a : ◌≡◌ {A = Result ℕ Refusal} (Ok (rule_count book)) (Ok n) = rw e at h in
          (e, cc)
      go (Err r) e =
          let a : ◌≡◌ {A = Result ℕ Refusal} (Err r) (Ok n) = rw e at h in
          let z : ◌≡◌ {A = ℕ} 0 1 = cc in
          absurd (omega arith)

-- The length, then the three passes

module _ (book : List ℕ) (r : Refusal) (outcome : Outcome) where
  abbrev checks : List Test
  checks = block_by_block book (check_tests book)

  abbrev kinds : List Test
  kinds = block_by_block book (kind_tests book)

  abbrev contents : List Test
  contents = block_by_block book (content_tests book)

  pub length_stopped : outcome ≡ Err r → first_failing ((BookLength, length_holds (length book)) ∷ []) ≡ Err r → outcome ≡ first_failing (book_tests book)
  unfolding book_tests length_tests
  length_stopped e h =
      list_stopped (length_tests book ++ checks ++ kinds) contents r outcome e
      (append_refused (length_tests book ++ checks) kinds r (append_refused (length_tests book) checks r h))

  pub checks_stopped :
      (found : Outcome)
      → outcome ≡ Err r
      → found ≡ Err r
      → found ≡ first_failing (flat (check_tests book) (up_to (block_count book)))
      → length_holds (length book) ≡ true
      → outcome ≡ first_failing (book_tests book)
  unfolding book_tests length_tests block_by_block first_failing
  checks_stopped found e is h long =
      list_stopped (length_tests book ++ checks ++ kinds) contents r outcome e
      (append_refused (length_tests book ++ checks) kinds r
      (sym (list_went_on (length_tests book) checks (Err r) (rw long) (sym is ∙ h))))

  pub kinds_stopped :
      (found : Outcome)
      → outcome ≡ Err r
      → found ≡ Err r
      → found ≡ first_failing (flat (kind_tests book) (up_to (block_count book)))
      → Passes (flat (check_tests book) (up_to (block_count book)))
      → length_holds (length book) ≡ true
      → outcome ≡ first_failing (book_tests book)
  unfolding book_tests length_tests block_by_block first_failing
  kinds_stopped found e is h p long =
      list_stopped (length_tests book ++ checks ++ kinds) contents r outcome e
      (sym
      (list_went_on (length_tests book ++ checks) kinds (Err r)
      (sym (list_went_on (length_tests book) checks (Ok tt) (rw long) (sym p))) (sym is ∙ h)))

pub contents_left :
    (book : List ℕ) (outcome : Outcome)
    → length_holds (length book) ≡ true
    → Passes (flat (check_tests book) (up_to (block_count book)))
    → Passes (flat (kind_tests book) (up_to (block_count book)))
    → outcome ≡ first_failing (flat (content_tests book) (up_to (block_count book)))
    → outcome ≡ first_failing (book_tests book)
unfolding book_tests length_tests block_by_block first_failing
contents_left book outcome long p q e =
    let checks = block_by_block book (check_tests book) in
    let kinds = block_by_block book (kind_tests book) in
    let contents = block_by_block book (content_tests book) in
    list_went_on (length_tests book ++ checks ++ kinds) contents outcome
    (sym
    (list_went_on (length_tests book ++ checks) kinds (Ok tt)
    (sym (list_went_on (length_tests book) checks (Ok tt) (rw long) (sym p))) (sym q))) e
