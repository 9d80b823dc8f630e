-- Laws of Blocked: its outcome by its tests, the answer for three cells, and the whole answer. Assumes nothing.
use Prim.Native.Nat.{ℕ, ◌+◌, ◌*◌, ◌/◌, ◌%◌, ◌≤◌, ◌<◌}
use native.Mathlib.Omega.{arith}
use mathlib.Core.Path.{◌≡◌, sym, ap, ◌∙◌}
use mathlib.Core.List.{List, ◌++◌}
use lib.Dec.{ltb}
use borrow.Author.Tests.{ltb-true}
use Rattle.book.specs.Sets.{WordOf}
use Rattle.book.specs.Blocks.{head_of, rule_at, rule_count}
use Rattle.book.specs.Rule.{reference_count}
use Rattle.book.specs.Tests.{Passes, first_failing}
use Rattle.book.specs.Refusals.{BookAccepted, book_tests}
use Rattle.book.specs.declared.refusal.Refusal.{Refusal}
use Rattle.book.specs.declared.refusal.Refusal.TheVariants.{NoRule}
use Rattle.book.proofs.Answers.{append_refused, last_passed}
use Rattle.book.proofs.Calls.{after_passed, passed_both}
use Rattle.verdicts.specs.Inner.Words.{RuleSound}
use Rattle.verdicts.proofs.Sound.{few_rules_law}
use Rattle.search.specs.Answers.{rule_tests}
use Rattle.search.specs.Inner.Places.{PlacesOf}
use Rattle.search.specs.Inner.Table.{CoversHold, HadHolds, TableHolds}
use Rattle.search.specs.Inner.Search.{candidate}
use Rattle.search.specs.declared.tables.RuleTable.{RuleTable}
use Rattle.blocked.specs.Open.{first_closed}
use Rattle.blocked.specs.Answers.{blocked_answer, blocked_tests, blocking_of, causes_of, closed_answer, culprits_answer}
use Rattle.blocked.specs.Answers.{datum_byte, forbid_tests, open_answer}
use Rattle.blocked.specs.Inner.Pairs.{MetHolds}
use Rattle.blocked.specs.Inner.First.{AnswerAt, FirstDenied, Standing, association_at, datum_at, no_cell, pair_at}
use Rattle.blocked.specs.Inner.Start.{Started}
use Rattle.blocked.specs.declared.Closed.{Closed}
use Rattle.std.specs.Prelude.{Option, Some, None, Ok, Err}
use Rattle.blocked.specs.declared.users.Denial.{Denial}
use Rattle.blocked.proofs.DemandLaws.{blocked_accepted, blocked_answer_law}
use Rattle.blocked.proofs.FewLaws.{culprits_answer_law}
use Rattle.blocked.proofs.AssociationLaws.{data_absent, data_present}

-- The outcome

-- a rule that is there is below 32, so its number's low byte is its number
pub low_byte : (book : List ℕ) (r : ℕ) → BookAccepted book → r < rule_count book → r % 256 ≡ r
low_byte book r accepted l =
    let few : rule_count book ≤ 32 = few_rules_law book accepted in
    omega arith

module _ (book : List ℕ) (r : ℕ) where
  -- the refusal of a book is that of the call
  pub book_refused :
      (x : Refusal) → first_failing (book_tests book) ≡ Err x → first_failing (blocked_tests book r) ≡ Err x
  unfolding blocked_tests
  book_refused x h =
      append_refused (book_tests book ++ rule_tests book r) (forbid_tests (rule_at book r)) x
      (append_refused (book_tests book) (rule_tests book r) x h)

  -- that of a rule is, where the book is accepted
  pub rule_refused :
      (x : Refusal)
      → BookAccepted book
      → first_failing (rule_tests book r) ≡ Err x
      → first_failing (blocked_tests book r) ≡ Err x
  unfolding blocked_tests
  rule_refused x accepted h =
      append_refused (book_tests book ++ rule_tests book r) (forbid_tests (rule_at book r)) x
      (after_passed (book_tests book) (rule_tests book r) accepted ∙ h)

  -- where the book is accepted and the rule there, its restrictions decide
  pub forbids_decide :
      BookAccepted book
      → Passes (rule_tests book r)
      → first_failing (blocked_tests book r) ≡ first_failing (forbid_tests (rule_at book (r % 256)))
  unfolding blocked_tests rule_tests
  forbids_decide accepted there =
      let l : r < rule_count book = ltb-true r (rule_count book) (last_passed NoRule (ltb r (rule_count book)) there) in
      rw (low_byte book r accepted l)
      (after_passed (book_tests book ++ rule_tests book r) (forbid_tests (rule_at book r))
      (passed_both (book_tests book) (rule_tests book r) accepted there))

-- The answer

abbrev closed_at : (user first second third : ℕ) → Closed
closed_at user first second third = record { user = user; first = first; second = second; third = third }

byte_of : (c : ℕ) → c < no_cell → 128 + 64 * (c / 64) + c % 64 ≡ 128 + c % 128
byte_of c l = omega arith

module _ (u l m n : ℕ) (stands : Standing l m n) where
  pub answer_one :
      128 ≤ m
      → (first : ℕ)
      → first ≡ 128 + n % 128
      → Ok (Some (closed_at u first 0 0)) ≡ closed_answer (pair_at u l m n)
  unfolding closed_answer datum_byte association_at datum_at
  answer_one absent first e =
      let most = stands.second in
      rw (data_absent l (stands.absent absent), data_absent m (omega arith), data_present n stands.third, byte_of n stands.third, e)

  pub answer_two :
      m < 128
      → 128 ≤ l
      → (first second : ℕ)
      → first ≡ 128 + m % 128
      → second ≡ 128 + n % 128
      → Ok (Some (closed_at u first second 0)) ≡ closed_answer (pair_at u l m n)
  unfolding closed_answer datum_byte association_at datum_at
  answer_two there absent first second e f =
      let most = stands.first in
      rw (
        data_absent l (omega arith),
        data_present m there,
        data_present n stands.third,
        byte_of m there,
        byte_of n stands.third,
        e,
        f,
      )

  pub answer_three :
      m < 128
      → l < 128
      → (first second third : ℕ)
      → first ≡ 128 + l % 128
      → second ≡ 128 + m % 128
      → third ≡ 128 + n % 128
      → Ok (Some (closed_at u first second third)) ≡ closed_answer (pair_at u l m n)
  unfolding closed_answer datum_byte association_at datum_at
  answer_three there too first second third e f g =
      rw (
        data_present l too,
        data_present m there,
        data_present n stands.third,
        byte_of l too,
        byte_of m there,
        byte_of n stands.third,
        e,
        f,
        g,
      )

-- The tables

-- they say what the book says
pub started :
    (book : List ℕ)
    → ((q : ℕ) → q < rule_count book → RuleSound (head_of book) (rule_at book q))
    → (r : ℕ) (rule head : List ℕ)
    → rule ≡ rule_at book r
    → head ≡ head_of book
    → (references : ℕ)
    → references ≡ reference_count rule
    → (t : List RuleTable) (met : List (List ℕ)) (had covered firsts seconds thirds : List ℕ) (all : ℕ)
    → TableHolds book (rule_count book) t
    → HadHolds head had
    → CoversHold book (rule_count book) covered
    → PlacesOf (candidate t r references had 0) firsts
    → PlacesOf (candidate t r references had 1) seconds
    → PlacesOf (candidate t r references had 2) thirds
    → MetHolds t met
    → WordOf (λ q. ltb q (rule_count book)) all
    → Started book r
    (record {
      rules = t;
      met = met;
      all = all;
      covered = covered;
      scope = record { firsts = firsts; seconds = seconds; thirds = thirds };
    })
started
    book sound r rule head re he references ne t met had covered firsts seconds thirds all tables hads covers first
    second third holds rules =
    let m : references ≡ reference_count (rule_at book r) = ne ∙ ap reference_count re in
    record {
      sound = sound;
      tables = tables;
      met_holds = holds;
      all_rules = rules;
      covers = covers;
      had = had;
      hads = rw he at hads;
      first = rw m at first;
      second = rw m at second;
      third = rw m at third;
    }

-- The whole answer

module _ (book : List ℕ) (r : ℕ) (passes : Passes (blocked_tests book r)) where
  -- the rule by its number
  told : {A : Type 0} (x : A) (f : ℕ → A) → (r % 256 < rule_count book → x ≡ f (r % 256)) → x ≡ f r
  told x f h =
      let accepted = blocked_accepted book r passes in
      let l : r < rule_count book = accepted.rule_there in
      let e = low_byte book r accepted.book_accepted l in
      rw e at (h (rw e l))

  pub blocked_told_answer :
      (found : Option Closed)
      → (r % 256 < rule_count book → Ok found ≡ blocking_of (first_closed book (r % 256)))
      → Ok found ≡ blocked_answer book r
  blocked_told_answer found h =
      told (Ok found) (λ q. blocking_of (first_closed book q)) h ∙ sym (blocked_answer_law book r passes)

  pub culprits_told_answer :
      (found : Option ℕ)
      → (r % 256 < rule_count book → Ok found ≡ causes_of book (r % 256) (first_closed book (r % 256)))
      → Ok found ≡ culprits_answer book r
  culprits_told_answer found h =
      told (Ok found) (λ q. causes_of book q (first_closed book q)) h ∙ sym (culprits_answer_law book r passes)

-- what was found is what is answered
module _ (book : List ℕ) (r : ℕ) (found : Option Denial) (says : FirstDenied book r found) where
  pub nobody_answer : found ≡ None → open_answer ≡ blocking_of (first_closed book r)
  unfolding FirstDenied blocking_of
  nobody_answer e = sym (ap blocking_of (rw e at says))

  pub user_answer :
      (d : Denial) (answer : Closed)
      → found ≡ Some d
      → AnswerAt d.user d.first d.second d.third answer
      → Ok (Some answer) ≡ blocking_of (first_closed book r)
  unfolding FirstDenied blocking_of
  user_answer d answer e said =
      let first = rw e at says in
      said first.1 ∙ sym (ap blocking_of first.0)
