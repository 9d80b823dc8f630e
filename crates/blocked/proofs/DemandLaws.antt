-- N1: what Blocked has tested, and what its answer says for every accepted book and rule of it with restrictions.
-- Assumes nothing.
use Prim.Native.Nat.{ℕ, ◌<◌}
use native.Mathlib.Omega.{arith}
use mathlib.Core.Path.{◌≡◌, refl, sym, subst, ◌∙◌}
use mathlib.Core.Bool.{Bool, true, false≢true}
use mathlib.Core.List.{List, ◌++◌}
use Rattle.std.specs.Prelude.{Ok, Err}
use lib.Dec.{ltb}
use borrow.Author.Tests.{lt-ltb, ltb-true}
use Rattle.book.specs.Blocks.{head_of, rule_at, rule_count}
use Rattle.book.specs.Rule.{restriction_count}
use Rattle.book.specs.Tests.{Outcome, Passes, first_failing}
use Rattle.book.specs.Refusals.{BookAccepted, book_tests}
use Rattle.book.specs.declared.refusal.Refusal.{Refusal}
use Rattle.book.specs.declared.refusal.Refusal.TheVariants.{NoRule, RuleForbids}
use Rattle.book.proofs.Accepted.{accepted_head, accepted_rule}
use Rattle.book.proofs.Answers.{answered_passed, answered_refused, append_passed, last_passed}
use Rattle.book.proofs.Calls.{passed_both}
use Rattle.search.specs.Alone.{First, none, shown}
use Rattle.search.specs.Answers.{rule_tests}
use Rattle.blocked.specs.Associations.{Pair}
use Rattle.blocked.specs.Open.{first_closed}
use Rattle.blocked.specs.Answers.{Blocking, blocked_answer, blocked_tests, blocking_of, closed_answer, forbid_tests}
use Rattle.blocked.specs.Answers.{open_answer}
use Rattle.blocked.specs.Demand.{Blocked, BlockedAccepted, ClosedFirst, InScope, NoneClosed}
use Rattle.blocked.proofs.ScopeLaws.{first_closed_law, none_closed}
use Rattle.blocked.proofs.OpenLaws.{closed_means, means_closed}
use Rattle.blocked.proofs.Names.{answer_names}

-- The tests

module _ (book : List ℕ) (r : ℕ) where
  -- what Blocked has tested when it accepts
  pub blocked_accepted : Passes (blocked_tests book r) → BlockedAccepted book r
  unfolding blocked_tests rule_tests forbid_tests
  blocked_accepted h =
      let rule = rule_at book r in
      let last = append_passed (book_tests book ++ rule_tests book r) (forbid_tests rule) h in
      let first = append_passed (book_tests book) (rule_tests book r) last.0 in
      record {
        book_accepted = first.0;
        rule_there = ltb-true r (rule_count book) (last_passed NoRule (ltb r (rule_count book)) first.1);
        restricts =
            ltb-true 0 (restriction_count rule) (last_passed RuleForbids (ltb 0 (restriction_count rule)) last.1);
      }

  rule_passes : r < rule_count book → Passes (rule_tests book r)
  unfolding rule_tests first_failing
  rule_passes there = rw (lt-ltb r (rule_count book) there)

  forbid_passes : 0 < restriction_count (rule_at book r) → Passes (forbid_tests (rule_at book r))
  unfolding forbid_tests first_failing
  forbid_passes restricts = rw (lt-ltb 0 (restriction_count (rule_at book r)) restricts)

  -- and the other way
  pub blocked_passes : BlockedAccepted book r → Passes (blocked_tests book r)
  unfolding blocked_tests
  blocked_passes given =
      passed_both (book_tests book ++ rule_tests book r) (forbid_tests (rule_at book r))
      (passed_both (book_tests book) (rule_tests book r) given.book_accepted (rule_passes given.rule_there))
      (forbid_passes given.restricts)

  -- the answer where it accepts, and where it refuses
  pub blocked_answer_law : Passes (blocked_tests book r) → blocked_answer book r ≡ blocking_of (first_closed book r)
  unfolding blocked_answer
  blocked_answer_law h = answered_passed (blocked_tests book r) Err (blocking_of (first_closed book r)) h

  pub blocked_refused :
      (x : Refusal) → first_failing (blocked_tests book r) ≡ Err x → Err x ≡ blocked_answer book r
  unfolding blocked_answer
  blocked_refused x h =
      sym (answered_refused (blocked_tests book r) Err (blocking_of (first_closed book r)) x h)

  -- an answer that is no refusal was given to an accepted call
  pub blocked_told : ((x : Refusal) → blocked_answer book r ≡ Err x → ⊥) → BlockedAccepted book r
  blocked_told told = go (first_failing (blocked_tests book r)) refl
    where
      go : (f : Outcome) → first_failing (blocked_tests book r) ≡ f → BlockedAccepted book r
      go (Ok done) e = blocked_accepted e
      go (Err x) e = absurd (told x (sym (blocked_refused x e)))

-- The demand

unlike : (p : Pair) → closed_answer p ≡ open_answer → ⊥
unfolding closed_answer
unlike p e =
    let z : ◌≡◌ {A = ℕ} 0 1 = cc in
    omega arith

abbrev every : ℕ → Bool
every q = true

-- what is found means what is asked
module _ (book : List ℕ) (r : ℕ) where
  pub none_means : first_closed book r ≡ none → NoneClosed book r
  none_means e p within closed = false≢true (sym (none_closed book r e p within) ∙ means_closed book every p closed)

  pub first_means : (p : Pair) → BookAccepted book → first_closed book r ≡ shown p → ClosedFirst book r p
  first_means p accepted e =
      let s = first_closed_law book r p e in
      record {
        scope = s.0;
        closed = closed_means book every p accepted s.1;
        first = λ other within also. s.2 other within (means_closed book every other also);
      }

  -- Blocked's numbers name one pair of the scope
  pub one_named :
      (p q : Pair)
      → BlockedAccepted book r
      → InScope (head_of book) (rule_at book r) p
      → InScope (head_of book) (rule_at book r) q
      → closed_answer p ≡ closed_answer q
      → p ≡ q
  one_named p q given =
      answer_names (head_of book) (rule_at book r) (accepted_head book given.book_accepted).data_most
      (accepted_rule book given.book_accepted r given.rule_there).references_most p q

pub demand : (book : List ℕ) (r : ℕ) → BlockedAccepted book r → Blocked book r (blocked_answer book r)
unfolding blocking_of
demand book r given =
    rw (blocked_answer_law book r (blocked_passes book r given)) (go (first_closed book r) refl)
  where
    go : (f : First Pair) → first_closed book r ≡ f → Blocked book r (blocking_of f)
    go none e =
        record {
          open_none = λ i. none_means book r e;
          none_open = λ h. refl;
          otherwise = λ h. absurd (h refl);
          named = λ p within f. absurd (unlike p (sym f));
        }
    go (shown p) e =
        let first = first_means book r p given.book_accepted e in
        record {
          open_none = λ i. absurd (unlike p i);
          none_open = λ h. absurd (h p first.scope first.closed);
          otherwise = λ h. (p, refl, first);
          named = λ q within f.
              subst (ClosedFirst book r) (one_named book r p q given first.scope within f) first;
        }

-- an answer by the definition keeps it
pub blocked_promises :
    (book : List ℕ) (r : ℕ) (answer : Blocking)
    → answer ≡ blocked_answer book r
    → BlockedAccepted book r
    → Blocked book r answer
blocked_promises book r answer e given = rw e (demand book r given)
