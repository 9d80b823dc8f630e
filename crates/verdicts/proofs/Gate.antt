-- What a mask that Judge answers says: book, user and plan are accepted, and demand 2 holds of it. Assumes nothing.
use Prim.Native.Nat.{ℕ}
use mathlib.Core.Path.{◌≡◌, refl, sym, ap, subst, ◌∙◌}
use mathlib.Core.List.{List}
use Rattle.book.specs.Blocks.{head_of}
use Rattle.std.specs.Prelude.{Ok, Err}
use Rattle.book.specs.Tests.{Outcome, first_failing}
use Rattle.book.proofs.Answers.{refused_passed}
use Rattle.verdicts.specs.Accesses.{accesses_of}
use Rattle.verdicts.specs.Answers.{Judged, broken, judge_tests, judge_answer}
use Rattle.verdicts.specs.Demand.{JudgeAccepted, Demand2}
use Rattle.verdicts.proofs.JudgeLaws.{judge_accepted, judge_refused}
use Rattle.verdicts.proofs.DemandLaws.{judge_promises}

-- an answer has one mask
mask_in : (default : ℕ) → Judged → ℕ
mask_in default (Ok judged) = judged.mask
mask_in default (Err r) = default

same_mask : (m n : ℕ) → broken m ≡ broken n → m ≡ n
unfolding mask_in
same_mask m n e = ap (mask_in m) e

module _ (book : List ℕ) (user : ℕ) (plan : List ℕ) (mask : ℕ)
    (answer : judge_answer book user plan ≡ broken mask) where
  pub judged_accepted : JudgeAccepted book user plan
  judged_accepted = go (first_failing (judge_tests book user plan)) refl
    where
      go : (f : Outcome) → first_failing (judge_tests book user plan) ≡ f → JudgeAccepted book user plan
      go (Ok done) e = judge_accepted book user plan e
      go (Err r) e = refused_passed r (record { mask = mask }) (judge_refused book user plan r e ∙ answer)

  pub judged_demand : Demand2 book user (accesses_of (head_of book) plan) mask
  judged_demand =
      let told = judge_promises book user plan (judge_answer book user plan) refl judged_accepted in
      subst (Demand2 book user (accesses_of (head_of book) plan)) (same_mask told.mask mask (sym told.answers ∙ answer))
      told.demand
