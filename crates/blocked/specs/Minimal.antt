-- N6, over the definitions of rules and accesses and not over the trials: what an answer of Culprits, for a rule with
-- restrictions of an accepted book, says. Document 02, N6. Assumes nothing.
use Rattle.std.specs.Prelude.{ℕ, ◌≤◌, ◌<◌, ◌≡◌, Bool, true, false, List}
use Rattle.book.specs.Sets.{has}
use Rattle.book.specs.Blocks.{Book, head_of, rule_at, rule_count}
use Rattle.verdicts.specs.Accesses.{Access}
use Rattle.blocked.specs.Associations.{Pair}
use Rattle.blocked.specs.Few.{with_asking}
use Rattle.blocked.specs.Answers.{Causes, blocked_answer, closed_answer, few_answer, unblocked}
use Rattle.blocked.specs.Demand.{Chooses, ClosedFirst, ClosedUnder, InScope, NoneClosed, SomeBroken}

-- some choice of operations breaks no rule that counts
abbrev pub OpenUnder : Book → (rules : ℕ → Bool) → Pair → Type 0
OpenUnder book rules p =
    (choice : List Access)
    × Chooses (head_of book) p.association choice
    × (SomeBroken book rules p.user choice → ⊥)

-- some rules, and not all of a mask
pub record ProperPart (fewer : ℕ → Bool) (mask : ℕ) : Type 0 where
  pub within : (q : ℕ) → fewer q ≡ true → has mask q ≡ true
  pub missing : (q : ℕ) × (has mask q ≡ true) × (fewer q ≡ false)

-- Source document 001, definition 4.9, for one user and one association: a set of rules is minimally inconsistent with
-- regard to the seed rule, here the asking one, when it is inconsistent with regard to it and each of its proper
-- subsets is consistent. There any user and association of the seed rule's scope may show the inconsistency, and a set
-- is minimal over all of them; here both halves are about the one pair that N1 gives.
pub record Minimal (book : Book) (r : ℕ) (p : Pair) (mask : ℕ) : Type 0 where
  -- "a mask of other rules"
  pub rules : (q : ℕ) → has mask q ≡ true → q < rule_count book
  pub asking : has mask r ≡ false
  -- "that, together with the asking rule, still leave that association closed"
  pub closed : ClosedUnder book (with_asking r (has mask)) p
  -- "while every proper subset of them leaves it open"
  pub opens : (fewer : ℕ → Bool) → ProperPart fewer mask → OpenUnder book (with_asking r fewer) p

-- "Rules are dropped by trial from the highest number down, which fixes the mask": of the masks whose rules, together
-- with the asking rule, leave the association closed, it is the least number
abbrev pub Lowest : (book : Book) (r : ℕ) (p : Pair) (mask : ℕ) → Type 0
Lowest book r p mask = (other : ℕ) → ClosedUnder book (with_asking r (has other)) p → mask ≤ other

-- what is promised of a mask that is given
pub record Behind (book : Book) (r : ℕ) (p : Pair) (mask : ℕ) : Type 0 where
  -- "For the user and association of N1"
  pub first : ClosedFirst book r p
  pub minimal : Minimal book r p mask
  pub lowest : Lowest book r p mask

pub record Caused (book : Book) (r : ℕ) (answer : Causes) : Type 0 where
  -- "An unblocked rule gets that reply and no mask."
  pub unblocked_none : answer ≡ unblocked → NoneClosed book r
  pub none_unblocked : NoneClosed book r → answer ≡ unblocked
  pub otherwise : (answer ≡ unblocked → ⊥) → (p : Pair) × (mask : ℕ) × (answer ≡ few_answer mask) × Behind book r p mask
  -- whoever reads Blocked's numbers as a user and an association of the scope has the mask of that pair
  pub named :
      (p : Pair) (mask : ℕ)
      → InScope (head_of book) (rule_at book r) p
      → blocked_answer book r ≡ closed_answer p
      → answer ≡ few_answer mask
      → Behind book r p mask
