-- N1, over the definitions of rules and accesses and not over the search: what an answer of Blocked, for a rule with
-- restrictions of an accepted book, says. Document 02, N1. Assumes nothing.
use Rattle.std.specs.Prelude.{ℕ, ◌<◌, ◌≡◌, ◌⊎◌, Bool, true, List, map}
use Rattle.book.specs.Lists.{all}
use Rattle.book.specs.Blocks.{Book, Head, Rule, head_of, rule_at, rule_count}
use Rattle.book.specs.Rule.{covers_user, restriction_count}
use Rattle.book.specs.Refusals.{BookAccepted}
use Rattle.verdicts.specs.Accesses.{Access, members}
use Rattle.verdicts.specs.Breaking.{breaks}
use Rattle.search.specs.Obtainable.{can_be_had}
use Rattle.blocked.specs.Associations.{Datum, Pair, datum_of, is_association, pair_before}
use Rattle.blocked.specs.Answers.{Blocking, closed_answer, open_answer}

-- what Blocked has to be given: an accepted book, a rule of it, with a restriction
pub record BlockedAccepted (book : Book) (r : ℕ) : Type 0 where
  pub book_accepted : BookAccepted book
  pub rule_there : r < rule_count book
  pub restricts : 0 < restriction_count (rule_at book r)

-- "some covered user and some association in its scope"
pub record InScope (head : Head) (rule : Rule) (p : Pair) : Type 0 where
  pub covered : covers_user head rule p.user ≡ true
  pub association : is_association head rule p.association ≡ true

-- a "choice of operations" for an association: "Operations are those that can be had."
pub record Chooses (head : Head) (association : List Datum) (choice : List Access) : Type 0 where
  pub to : map datum_of choice ≡ association
  pub had : all (can_be_had head) choice ≡ true

-- some rule of the book that counts is broken by a user and the accesses chosen
abbrev pub SomeBroken : (book : Book) (rules : ℕ → Bool) (user : ℕ) (choice : List Access) → Type 0
SomeBroken book rules user choice =
    (q : ℕ)
    × (q < rule_count book)
    × (rules q ≡ true)
    × (breaks (head_of book) (rule_at book q) user (members choice) ≡ true)

-- "admit[s] no choice of operations under which no rule is broken", of the rules that count
abbrev pub ClosedUnder : Book → (rules : ℕ → Bool) → Pair → Type 0
ClosedUnder book rules p =
    (choice : List Access)
    → Chooses (head_of book) p.association choice
    → SomeBroken book rules p.user choice

-- Every rule of the book counts. Source document 001, definition 4.8: the book is inconsistent with regard to the rule
-- asked about when a user and an associated data access of its scope are inaccessible under all rules, the asking one
-- among them; that rule is the seed rule, and as there it does not forbid. Other than there, a user is a leaf, a datum
-- is a leaf that some column carries, an operation has to be one that can be had, and a choice has one access for each
-- reference.
abbrev pub Closed : Book → Pair → Type 0
Closed book = ClosedUnder book (λ q. true)

-- what is promised of a user and an association that are given
pub record ClosedFirst (book : Book) (r : ℕ) (p : Pair) : Type 0 where
  pub scope : InScope (head_of book) (rule_at book r) p
  pub closed : Closed book p
  -- "The first such user and association is given"
  pub first :
      (other : Pair)
      → InScope (head_of book) (rule_at book r) other
      → Closed book other
      → (other ≡ p) ⊎ (pair_before p other ≡ true)

-- no user and association of the rule's scope are closed
abbrev pub NoneClosed : (book : Book) (r : ℕ) → Type 0
NoneClosed book r = (p : Pair) → InScope (head_of book) (rule_at book r) p → Closed book p → ⊥

pub record Blocked (book : Book) (r : ℕ) (answer : Blocking) : Type 0 where
  -- "a rule with restrictions is blocked exactly when some [..] admit no choice"
  pub open_none : answer ≡ open_answer → NoneClosed book r
  pub none_open : NoneClosed book r → answer ≡ open_answer
  pub otherwise : (answer ≡ open_answer → ⊥) → (p : Pair) × (answer ≡ closed_answer p) × ClosedFirst book r p
  -- whoever reads the answer's numbers as a user and an association of the scope has read that pair
  pub named :
      (p : Pair) → InScope (head_of book) (rule_at book r) p → answer ≡ closed_answer p → ClosedFirst book r p
