-- Demand 2: the mask of the broken rules tells, rule by rule, what a query does not satisfy in the sense of source
-- document 000. Assumes nothing.
use Prim.Native.Nat.{ℕ, ◌<◌}
use mathlib.Core.Path.{◌≡◌, refl, sym, ◌∙◌}
use mathlib.Core.Bool.{Bool, true, false, false≢true}
use mathlib.Core.List.{List}
use borrow.Author.Tests.{lt-ltb, le-ltb}
use Rattle.book.specs.Sets.{has}
use Rattle.book.specs.Blocks.{head_of, rule_at, rule_count}
use Rattle.book.proofs.Accepted.{accepted_head}
use Rattle.book.proofs.Members.{has_zero}
use Rattle.lineage.proofs.Accepted.{accepted_plan}
use Rattle.verdicts.specs.Accesses.{Access, Accesses, accesses_of}
use Rattle.verdicts.specs.Breaking.{breaks, broken_mask}
use Rattle.verdicts.specs.Semantics.{SatisfiesRule, SatisfiesPolicy}
use Rattle.verdicts.specs.Answers.{Judged, judge_answer}
use Rattle.verdicts.specs.Demand.{JudgeAccepted, Demand2, Judges}
use Rattle.verdicts.proofs.Held.{plan_operations}
use Rattle.verdicts.proofs.Semantic.{satisfies_not_broken, not_broken_satisfies}
use Rattle.verdicts.proofs.Verdict.{mask_bit, none_broken}
use Rattle.verdicts.proofs.JudgeLaws.{judge_answer_law, judge_passes}

-- A query whose operations are below 16

module _ (book : List ℕ) (user : ℕ) (query : Accesses) (low : (x : Access) → query x ≡ true → x.operation < 16) where
  mask : ℕ
  mask = broken_mask book user query

  -- the bit of a rule
  rule_bit : (r : ℕ) → r < rule_count book → has mask r ≡ breaks (head_of book) (rule_at book r) user query
  unfolding mask
  rule_bit r l = rw (lt-ltb r (rule_count book) l) at (mask_bit book user query r)

  clear :
      (r : ℕ) → r < rule_count book → has mask r ≡ false → SatisfiesRule (head_of book) (rule_at book r) user query
  clear r l h = not_broken_satisfies (head_of book) (rule_at book r) user query low (sym (rule_bit r l) ∙ h)

  satisfied : (r : ℕ) → r < rule_count book → SatisfiesRule (head_of book) (rule_at book r) user query → has mask r ≡ false
  satisfied r l s = rule_bit r l ∙ satisfies_not_broken (head_of book) (rule_at book r) user query s

  violated :
      (r : ℕ) → r < rule_count book → (SatisfiesRule (head_of book) (rule_at book r) user query → ⊥) → has mask r ≡ true
  violated r l v = go (has mask r) refl
    where
      go : (b : Bool) → has mask r ≡ b → b ≡ true
      go true e = refl
      go false e = absurd (v (clear r l e))

  all_satisfied : SatisfiesPolicy book user query → mask ≡ 0
  unfolding mask
  all_satisfied h =
      none_broken book user query (λ r l. satisfies_not_broken (head_of book) (rule_at book r) user query (h r l))

  pub query_demand : Demand2 book user query (broken_mask book user query)
  unfolding mask
  query_demand =
      record {
        set_violates = λ r l h s. false≢true (sym (satisfied r l s) ∙ h);
        violates_set = violated;
        clear_satisfies = clear;
        others_clear =
            λ r l. mask_bit book user query r ∙ rw (le-ltb r (rule_count book) l);
        zero_satisfies = λ e r l. clear r l (rw (e, has_zero r));
        satisfies_zero = all_satisfied;
      }

-- Judge's answer

-- an answer by the definition keeps demand 2
pub judge_promises :
    (book : List ℕ) (user : ℕ) (plan : List ℕ) (answer : Judged)
    → answer ≡ judge_answer book user plan
    → JudgeAccepted book user plan
    → Judges book user plan answer
judge_promises book user plan answer e given =
    let query = accesses_of (head_of book) plan in
    record {
      mask = broken_mask book user query;
      answers = e ∙ judge_answer_law book user plan (judge_passes book user plan given);
      demand =
          query_demand book user query
          (plan_operations (head_of book) plan (accepted_head book given.book_accepted)
          (accepted_plan (head_of book) plan given.plan_accepted));
    }
