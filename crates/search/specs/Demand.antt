-- Demand 3, over the definitions of paths and rules and not over the search: what an answer of Idle, for rule r of an
-- accepted book and a buffer that is long enough, says. Assumes nothing.
use Rattle.std.specs.Prelude.{ℕ, ◌*◌, ◌^◌, ◌≤◌, ◌<◌, ◌≡◌, ◌⊎◌, true, false, List, length, take, drop}
use Rattle.book.specs.Blocks.{Book, Head, Rule, head_of, rule_at, rule_count}
use Rattle.book.specs.Head.{is_user}
use Rattle.book.specs.Refusals.{BookAccepted}
use Rattle.lineage.specs.Rows.{Plan}
use Rattle.lineage.specs.Answers.{PlanAccepted}
use Rattle.verdicts.specs.Accesses.{Access}
use Rattle.verdicts.specs.Answers.{broken, judge_answer}
use Rattle.search.specs.Choices.{is_choice, candidate_before}
use Rattle.search.specs.Shown.{shown_plan}
use Rattle.search.specs.Alone.{plan_breaks_alone}
use Rattle.search.specs.Answers.{Idleness, idle, needed}

-- what Idle has to be given: an accepted book, a rule of it, a buffer of 36 bytes or more
pub record IdleAccepted (book : Book) (r : ℕ) (buffer : List ℕ) : Type 0 where
  pub book_accepted : BookAccepted book
  pub rule_there : r < rule_count book
  pub long : 36 ≤ length buffer

-- "no user and accepted plan of 0 to 64 rows break r alone"
abbrev pub NobodyAlone : (book : Book) (r : ℕ) → Type 0
NobodyAlone book r =
    (user : ℕ) (plan : Plan)
    → is_user (head_of book) user ≡ true
    → PlanAccepted (head_of book) plan
    → plan_breaks_alone book r user plan ≡ false

-- "This is the form that demand 3 speaks of": the plan is the shown one of a choice
pub record OfForm (head : Head) (rule : Rule) (plan : Plan) : Type 0 where
  pub choice : List Access
  pub chosen : is_choice head rule choice ≡ true
  pub rows : plan ≡ shown_plan head choice

-- one user and plan of the form come before another pair
abbrev pub Before :
    (head : Head) (rule : Rule) (user : ℕ) (plan : Plan)
    → OfForm head rule plan
    → (other : ℕ) (later : Plan)
    → OfForm head rule later
    → Type 0
Before head rule user plan form other later form' =
    candidate_before (record { user = user; choice = form.choice }) (record { user = other; choice = form'.choice })
    ≡ true

-- what is promised of a user and a plan that are shown
pub record ShownFirst (book : Book) (r user : ℕ) (plan : Plan) : Type 0 where
  pub a_user : is_user (head_of book) user ≡ true
  pub accepted : PlanAccepted (head_of book) plan
  pub form : OfForm (head_of book) (rule_at book r) plan
  pub alone : plan_breaks_alone book r user plan ≡ true
  -- "the first that breaks r alone is shown"
  pub first :
      (other : ℕ) (later : Plan) (form' : OfForm (head_of book) (rule_at book r) later)
      → is_user (head_of book) other ≡ true
      → plan_breaks_alone book r other later ≡ true
      → ((other ≡ user) × (later ≡ plan)) ⊎ Before (head_of book) (rule_at book r) user plan form other later form'
  -- "Judge [..] then accepts, and its mask is 2 to the power r"
  pub judged : judge_answer book user plan ≡ broken (2 ^ r)

-- the answer when a user and a plan are shown: at most nine rows at the buffer's front, "and the rest unchanged"
pub record ShownIn (book : Book) (r : ℕ) (before after : List ℕ) (user rows : ℕ) : Type 0 where
  pub few : rows ≤ 9
  pub long : length (take (4 * rows) after) ≡ 4 * rows
  pub rest : drop (4 * rows) after ≡ drop (4 * rows) before
  pub shows : ShownFirst book r user (take (4 * rows) after)

pub record Demand3 (book : Book) (r : ℕ) (before after : List ℕ) (answer : Idleness) : Type 0 where
  -- "Idle is answered exactly when no user and accepted plan of 0 to 64 rows break r alone"
  pub idle_nobody : answer ≡ idle → NobodyAlone book r
  pub nobody_idle : NobodyAlone book r → answer ≡ idle
  pub idle_keeps : answer ≡ idle → after ≡ before
  pub otherwise :
      (answer ≡ idle → ⊥) → (user rows : ℕ) × (answer ≡ needed user rows) × ShownIn book r before after user rows
