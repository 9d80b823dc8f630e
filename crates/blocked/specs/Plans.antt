-- What open and closed say of plans, those that nobody has written yet among them. Document 02, N1 and N6; source
-- document 001, definition 4.6: inaccessible when no query with that association satisfies the rules. Assumes nothing.
use Rattle.std.specs.Prelude.{ℕ, ◌<◌, ◌≡◌, Bool, true}
use mathlib.Core.List.{List, Memᴰ}
use Rattle.book.specs.Sets.{has}
use Rattle.book.specs.Blocks.{Book, Head, head_of, rule_at, rule_count}
use Rattle.lineage.specs.Rows.{Plan}
use Rattle.lineage.specs.Answers.{PlanAccepted}
use Rattle.verdicts.specs.Accesses.{accesses_of}
use Rattle.verdicts.specs.Breaking.{breaks}
use Rattle.verdicts.specs.Answers.{broken, judge_answer}
use Rattle.blocked.specs.Associations.{Datum, Pair, access_to}
use Rattle.blocked.specs.Few.{with_asking}
use Rattle.blocked.specs.Demand.{Closed, InScope}
use Rattle.blocked.specs.Minimal.{ProperPart}

-- a plan has some access to each datum of an association, and may have others
abbrev pub Reads : (head : Head) (plan : Plan) (association : List Datum) → Type 0
Reads head plan association =
    (x : Datum) → Memᴰ x association → (k : ℕ) × (accesses_of head plan (access_to x k) ≡ true)

-- an accepted plan for which Judge answers the empty set
abbrev pub Passes : (book : Book) (user : ℕ) (plan : Plan) → Type 0
Passes book user plan = PlanAccepted (head_of book) plan × (judge_answer book user plan ≡ broken 0)

-- a plan breaks some rule of those that count
abbrev pub BreaksSome : (book : Book) (rules : ℕ → Bool) (user : ℕ) (plan : Plan) → Type 0
BreaksSome book rules user plan =
    (q : ℕ)
    × (q < rule_count book)
    × (rules q ≡ true)
    × (breaks (head_of book) (rule_at book q) user (accesses_of (head_of book) plan) ≡ true)

-- for the users and associations in the scope of a rule
pub record ForPlans (book : Book) (r : ℕ) : Type 0 where
  -- closed: no plan with some access to each datum passes
  pub closed_stops :
      (p : Pair)
      → InScope (head_of book) (rule_at book r) p
      → Closed book p
      → (plan : Plan)
      → Reads (head_of book) plan p.association
      → Passes book p.user plan
      → ⊥
  -- otherwise some such plan does
  pub open_passes :
      (p : Pair)
      → InScope (head_of book) (rule_at book r) p
      → (Closed book p → ⊥)
      → (plan : Plan) × Reads (head_of book) plan p.association × Passes book p.user plan

-- for the few rules behind a block
pub record FewForPlans (book : Book) (r : ℕ) (p : Pair) (mask : ℕ) : Type 0 where
  -- every accepted plan with some access to each datum breaks one of them, or the asking rule
  pub each_breaks :
      (plan : Plan)
      → PlanAccepted (head_of book) plan
      → Reads (head_of book) plan p.association
      → BreaksSome book (with_asking r (has mask)) p.user plan
  -- where one of them is left out, some such plan breaks none of the others, nor the asking rule
  pub some_spares :
      (fewer : ℕ → Bool)
      → ProperPart fewer mask
      → (plan : Plan)
      × PlanAccepted (head_of book) plan
      × Reads (head_of book) plan p.association
      × (BreaksSome book (with_asking r fewer) p.user plan → ⊥)
