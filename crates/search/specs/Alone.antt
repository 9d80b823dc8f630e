-- Breaking a rule alone, and the first choice that does. Document 01, "Idle rules", its second paragraph.
-- Assumes nothing.
use Rattle.std.specs.Prelude.{ℕ, Bool, true, false, ◌&&◌, ◌||◌, not, List, [], ◌∷◌, eqb}
use Rattle.book.specs.Lists.{all, up_to}
use Rattle.book.specs.Blocks.{Book, head_of, rule_at, rule_count}
use Rattle.lineage.specs.Rows.{Plan}
use Rattle.verdicts.specs.Accesses.{Accesses, accesses_of}
use Rattle.verdicts.specs.Breaking.{breaks}
use Rattle.search.specs.Choices.{Candidate, candidates}
use Rattle.search.specs.Shown.{shown_plan}

-- "They break r alone when they break r and no other rule of the book"
unfoldable pub breaks_alone : (book : Book) (r user : ℕ) → Accesses → Bool
breaks_alone book r user accesses =
    breaks (head_of book) (rule_at book r) user accesses
    && all (λ q. eqb q r || not (breaks (head_of book) (rule_at book q) user accesses)) (up_to (rule_count book))

-- "A user and a plan break a rule when the user and the plan's accesses do."
unfoldable pub plan_breaks_alone : (book : Book) (r user : ℕ) (plan : Plan) → Bool
plan_breaks_alone book r user plan = breaks_alone book r user (accesses_of (head_of book) plan)

-- "a choice does so when its user and its shown plan do"
unfoldable pub candidate_alone : (book : Book) (r : ℕ) → Candidate → Bool
candidate_alone book r c = plan_breaks_alone book r c.user (shown_plan (head_of book) c.choice)

-- the first of a list that passes, if any does
pub data First (A : Type 0) : Type 0 where
  none : First A
  shown : A → First A

unfoldable pub first_in : {A : Type 0} → (A → Bool) → List A → First A
first_in f [] = none
first_in {A} f (x ∷ l) = elim (f x) as (λ b. First A) [ true ↦ shown x | false ↦ first_in f l ]

-- "the first that breaks r alone is shown"
unfoldable pub first_alone : (book : Book) (r : ℕ) → First Candidate
first_alone book r = first_in (candidate_alone book r) (candidates (head_of book) (rule_at book r))
