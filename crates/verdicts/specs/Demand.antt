-- Demand 2, over source document 000's semantics and not over what the code computes: what Judge's mask says of an
-- accepted book, a user and an accepted plan, rule by rule. Assumes nothing.
use Rattle.std.specs.Prelude.{ℕ, ◌≤◌, ◌<◌, ◌≡◌, true, false}
use Rattle.book.specs.Sets.{has}
use Rattle.book.specs.Blocks.{Book, head_of, rule_at, rule_count}
use Rattle.book.specs.Head.{is_user}
use Rattle.book.specs.Refusals.{BookAccepted}
use Rattle.lineage.specs.Rows.{Plan}
use Rattle.lineage.specs.Answers.{PlanAccepted}
use Rattle.verdicts.specs.Accesses.{Accesses, accesses_of}
use Rattle.verdicts.specs.Semantics.{SatisfiesRule, SatisfiesPolicy}
use Rattle.verdicts.specs.Answers.{Judged, broken}

-- what Judge has to be given: an accepted book, a user of it, and a plan that is accepted for it
pub record JudgeAccepted (book : Book) (user : ℕ) (plan : Plan) : Type 0 where
  pub book_accepted : BookAccepted book
  pub a_user : is_user (head_of book) user ≡ true
  pub plan_accepted : PlanAccepted (head_of book) plan

pub record Demand2 (book : Book) (user : ℕ) (query : Accesses) (mask : ℕ) : Type 0 where
  -- "bit r for rule r": it is set exactly when the query does not satisfy the rule
  pub set_violates :
      (r : ℕ)
      → r < rule_count book
      → has mask r ≡ true
      → (SatisfiesRule (head_of book) (rule_at book r) user query → ⊥)
  pub violates_set :
      (r : ℕ)
      → r < rule_count book
      → (SatisfiesRule (head_of book) (rule_at book r) user query → ⊥)
      → has mask r ≡ true
  -- a clear bit is a rule that it does satisfy
  pub clear_satisfies :
      (r : ℕ) → r < rule_count book → has mask r ≡ false → SatisfiesRule (head_of book) (rule_at book r) user query
  -- no other bit is set
  pub others_clear : (r : ℕ) → rule_count book ≤ r → has mask r ≡ false
  -- the mask is 0 exactly when "q satisfies all rules in p"
  pub zero_satisfies : mask ≡ 0 → SatisfiesPolicy book user query
  pub satisfies_zero : SatisfiesPolicy book user query → mask ≡ 0

-- an answer that is a mask, of which demand 2 holds for the plan's accesses
pub record Judges (book : Book) (user : ℕ) (plan : Plan) (answer : Judged) : Type 0 where
  pub mask : ℕ
  pub answers : answer ≡ broken mask
  pub demand : Demand2 book user (accesses_of (head_of book) plan) mask
