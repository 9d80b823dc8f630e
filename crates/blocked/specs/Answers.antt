-- The tests of Blocked and Culprits in document 02's order, and what they answer, whole. Document 02, N1 and N6.
-- Assumes nothing.
use Rattle.std.specs.Prelude.{ℕ, zero, suc, ◌+◌, ◌*◌, List, [], ◌∷◌, ◌++◌, ltb, Option, Some, None, Result, Ok, Err}
use Rattle.book.specs.Blocks.{Book, Rule, rule_at}
use Rattle.book.specs.Rule.{restriction_count}
use Rattle.book.specs.Tests.{Test, answered}
use Rattle.book.specs.Refusals.{book_tests}
use Rattle.book.specs.declared.refusal.Refusal.{Refusal}
use Rattle.book.specs.declared.refusal.Refusal.TheVariants.{RuleForbids}
use Rattle.search.specs.Alone.{First, none, shown}
use Rattle.search.specs.Answers.{rule_tests}
use Rattle.blocked.specs.Associations.{Datum, Pair}
use Rattle.blocked.specs.Open.{first_closed}
use Rattle.blocked.specs.Few.{few_rules}
use Rattle.blocked.specs.declared.Closed.{Closed}

-- 26: "if the rule forbids"
unfoldable pub forbid_tests : Rule → List Test
forbid_tests rule = (RuleForbids, ltb 0 (restriction_count rule)) ∷ []

-- "book refusals, 24, then 26"
unfoldable pub blocked_tests : (book : Book) (r : ℕ) → List Test
blocked_tests book r = book_tests book ++ rule_tests book r ++ forbid_tests (rule_at book r)

-- reference i of an association as 128 + 64 × action + leaf; 0 for an absent reference
unfoldable pub datum_byte : List Datum → (reference : ℕ) → ℕ
datum_byte [] i = 0
datum_byte (x ∷ association) zero = 128 + 64 * x.channel + x.leaf
datum_byte (x ∷ association) (suc i) = datum_byte association i

-- an answer of Blocked: nothing is closed, or a user and an association, or a refusal
abbrev pub Blocking : Type 0
Blocking = Result (Option Closed) Refusal

-- nothing is closed
abbrev pub open_answer : Blocking
open_answer = Ok None

-- a user and an association that stay closed
unfoldable pub closed_answer : Pair → Blocking
closed_answer p =
    Ok
    (Some
    (record {
      user = p.user;
      first = datum_byte p.association 0;
      second = datum_byte p.association 1;
      third = datum_byte p.association 2;
    }))

unfoldable pub blocking_of : First Pair → Blocking
blocking_of none = open_answer
blocking_of (shown p) = closed_answer p

unfoldable pub blocked_answer : (book : Book) (r : ℕ) → Blocking
blocked_answer book r = answered (blocked_tests book r) Err (blocking_of (first_closed book r))

-- an answer of Culprits: nothing is closed, or a mask, or a refusal
abbrev pub Causes : Type 0
Causes = Result (Option ℕ) Refusal

abbrev pub unblocked : Causes
unblocked = Ok None

abbrev pub few_answer : (mask : ℕ) → Causes
few_answer mask = Ok (Some mask)

-- "An unblocked rule gets that reply and no mask."
unfoldable pub causes_of : (book : Book) (r : ℕ) → First Pair → Causes
causes_of book r none = unblocked
causes_of book r (shown p) = few_answer (few_rules book r p)

-- "The refusals are N1's." "For the user and association of N1"
unfoldable pub culprits_answer : (book : Book) (r : ℕ) → Causes
culprits_answer book r = answered (blocked_tests book r) Err (causes_of book r (first_closed book r))
