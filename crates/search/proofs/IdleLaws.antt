-- Laws of Idle: its answer and the buffer on leaving by what the tests and the search say. Assumes nothing.
use Prim.Native.Nat.{ℕ, ◌*◌, ◌%◌, ◌≤◌, ◌<◌}
use native.Mathlib.Omega.{arith}
use mathlib.Core.Path.{◌≡◌, refl, sym, ap, ◌∙◌}
use mathlib.Core.List.{List, ◌++◌}
use lib.ListN.{length, take, drop}
use lib.Seq.{length-take-le}
use lib.Dec.{ltb, leb}
use borrow.Author.Tests.{ltb-true, leb-true}
use Rattle.book.specs.Blocks.{head_of, rule_at, rule_count}
use Rattle.book.specs.Rule.{reference_count}
use Rattle.book.specs.Tests.{Outcome, Passes, first_failing, refused_or, answered}
use Rattle.book.specs.Refusals.{BookAccepted, book_tests}
use Rattle.book.specs.declared.refusal.Refusal.{Refusal}
use Rattle.book.specs.declared.refusal.Refusal.TheVariants.{NoRule, BufferLength}
use Rattle.book.proofs.Answers.{answered_refused, append_passed, append_refused, last_passed}
use Rattle.book.proofs.Calls.{after_passed, passed_both}
use Rattle.lineage.specs.Rows.{row_count}
use Rattle.verdicts.specs.Inner.Words.{RuleSound}
use Rattle.search.specs.Shown.{shown_plan}
use Rattle.search.specs.Alone.{first_alone}
use Rattle.search.specs.Answers.{rule_tests, buffer_tests, idle_tests, Idleness, idle, needed, idleness_of, idle_answer}
use Rattle.search.specs.Answers.{written, idle_buffer}
use Rattle.verdicts.specs.Accesses.{Access}
use Rattle.search.specs.Inner.Places.{choice_at, rows_for}
use Rattle.search.specs.Inner.Table.{TableHolds, HadHolds, CoversHold}
use Rattle.search.specs.Inner.Search.{NeedsFirst}
use Rattle.search.specs.Inner.Weight.{lighter_places}
use Rattle.search.specs.Inner.First.{found_of, FirstNeeds, answer_of, buffer_of}
use Rattle.std.specs.Prelude.{Option, Some, None, Ok, Err}
use Rattle.search.specs.declared.users.Witness.{Witness}
use Rattle.verdicts.proofs.Sound.{few_rules_law}
use Rattle.search.specs.Demand.{IdleAccepted, Demand3}
use Rattle.search.proofs.DemandLaws.{demand}
use Rattle.search.proofs.Lifting.{lifted}
use Rattle.search.specs.declared.tables.RuleTable.{RuleTable}

-- What the search finds

pub needs_first :
    (book : List ℕ)
    → BookAccepted book
    → ((q : ℕ) → q < rule_count book → RuleSound (head_of book) (rule_at book q))
    → (r : ℕ)
    → r < rule_count book
    → (rule head : List ℕ)
    → rule ≡ rule_at book r
    → head ≡ head_of book
    → (references : ℕ)
    → references ≡ reference_count rule
    → (t : List RuleTable) (had covered : List ℕ)
    → TableHolds book (rule_count book) t
    → HadHolds head had
    → CoversHold book (rule_count book) covered
    → (found : Option Witness)
    → NeedsFirst lighter_places t r references had covered found
    → FirstNeeds book r found
needs_first book accepted sound r l rule head re he references ne t had covered tables hads covers found h =
    let m : references ≡ reference_count (rule_at book r) = ne ∙ ap reference_count re in
    lifted book accepted sound r l t had covered tables (rw he at hads) covers found (rw m at h)

-- The whole answer

module _ (book : List ℕ) (r : ℕ) (buffer : List ℕ) where
  -- what Idle has tested when it accepts
  pub idle_accepted : Passes (idle_tests book r buffer) → IdleAccepted book r buffer
  unfolding idle_tests rule_tests buffer_tests
  idle_accepted h =
      let last = append_passed (book_tests book ++ rule_tests book r) (buffer_tests buffer) h in
      let first = append_passed (book_tests book) (rule_tests book r) last.0 in
      record {
        book_accepted = first.0;
        rule_there = ltb-true r (rule_count book) (last_passed NoRule (ltb r (rule_count book)) first.1);
        long = leb-true 36 (length buffer) (last_passed BufferLength (leb 36 (length buffer)) last.1);
      }

  -- what a refusal answers, and leaves
  abbrev pub RefusedBy : Refusal → Type 0
  RefusedBy x = (Err x ≡ idle_answer book r buffer) × (buffer ≡ idle_buffer book r buffer)

  pub idle_refused : (x : Refusal) → first_failing (idle_tests book r buffer) ≡ Err x → RefusedBy x
  unfolding idle_answer idle_buffer
  idle_refused x h =
      let found = first_alone book r in (
        sym (answered_refused (idle_tests book r buffer) Err (idleness_of (head_of book) found) x h),
        sym (answered_refused (idle_tests book r buffer) (λ refusal. buffer) (written (head_of book) found buffer) x h),
      )

  -- the first list that refuses is that of the book, of the rule, of the buffer
  pub book_refused : (x : Refusal) → first_failing (book_tests book) ≡ Err x → RefusedBy x
  unfolding idle_tests
  book_refused x h =
      idle_refused x
      (append_refused (book_tests book ++ rule_tests book r) (buffer_tests buffer) x
      (append_refused (book_tests book) (rule_tests book r) x h))

  pub rule_refused : (x : Refusal) → BookAccepted book → first_failing (rule_tests book r) ≡ Err x → RefusedBy x
  unfolding idle_tests
  rule_refused x accepted h =
      idle_refused x
      (append_refused (book_tests book ++ rule_tests book r) (buffer_tests buffer) x
      (after_passed (book_tests book) (rule_tests book r) accepted ∙ h))

  pub buffer_refused :
      (x : Refusal)
      → BookAccepted book
      → Passes (rule_tests book r)
      → first_failing (buffer_tests buffer) ≡ Err x
      → RefusedBy x
  unfolding idle_tests
  buffer_refused x accepted there h =
      idle_refused x
      (after_passed (book_tests book ++ rule_tests book r) (buffer_tests buffer)
      (passed_both (book_tests book) (rule_tests book r) accepted there)
      ∙ h)

  all_passed :
      BookAccepted book → Passes (rule_tests book r) → Passes (buffer_tests buffer) → Passes (idle_tests book r buffer)
  unfolding idle_tests
  all_passed accepted there long =
      passed_both (book_tests book ++ rule_tests book r) (buffer_tests buffer)
      (passed_both (book_tests book) (rule_tests book r) accepted there) long

  -- an answer that is no refusal was given to an accepted call
  pub idle_told : ((x : Refusal) → idle_answer book r buffer ≡ Err x → ⊥) → IdleAccepted book r buffer
  idle_told told = go (first_failing (idle_tests book r buffer)) refl
    where
      go : (f : Outcome) → first_failing (idle_tests book r buffer) ≡ f → IdleAccepted book r buffer
      go (Ok done) e = idle_accepted e
      go (Err x) e = absurd (told x (sym (idle_refused x e).0))

  -- what was found, shown
  pub idle_shown :
      (found : Option Witness)
      → Passes (idle_tests book r buffer)
      → FirstNeeds book r found
      → (answer_of (head_of book) found ≡ idle_answer book r buffer)
      × (buffer_of (head_of book) found buffer ≡ idle_buffer book r buffer)
  unfolding idle_answer answered refused_or idle_buffer FirstNeeds answer_of buffer_of
  idle_shown found h first = (rw (h, first), rw (h, first))

-- an answer by the definitions keeps demand 3
pub idle_promises :
    (book : List ℕ) (r : ℕ) (before after : List ℕ) (answer : Idleness)
    → answer ≡ idle_answer book r before
    → after ≡ idle_buffer book r before
    → IdleAccepted book r before
    → Demand3 book r before after answer
idle_promises book r before after answer ea eb accepted = rw (ea, eb) (demand book r before accepted)

-- the answer for what the search found, of the rule by its number's low byte
pub idle_found :
    (book : List ℕ) (r : ℕ) (before after head : List ℕ) (answer : Idleness) (found : Option Witness)
    → BookAccepted book
    → Passes (rule_tests book r)
    → Passes (buffer_tests before)
    → head ≡ head_of book
    → (r % 256 < rule_count book → FirstNeeds book (r % 256) found)
    → answer ≡ answer_of head found
    → (36 ≤ length before → after ≡ buffer_of head found before)
    → (answer ≡ idle_answer book r before) × (after ≡ idle_buffer book r before)
idle_found book r before after head answer found checked there room he first told wrote =
    let h = all_passed book r before checked there room in
    let accepted = idle_accepted book r before h in
    let few : rule_count book ≤ 32 = few_rules_law book accepted.book_accepted in
    let l : r < rule_count book = accepted.rule_there in
    let e : r % 256 ≡ r = omega arith in
    let needs : FirstNeeds book r found = rw e at (first (omega arith)) in
    let shows = idle_shown book r before found h needs in
    ((rw he at told) ∙ shows.0, (rw he at (wrote accepted.long)) ∙ shows.1)

-- The shown plan in a buffer

pub nobody_shown :
    (head buffer : List ℕ) (found : Option Witness)
    → found ≡ None
    → (idle ≡ answer_of head found) × (buffer ≡ buffer_of head found buffer)
unfolding answer_of buffer_of found_of idleness_of written
nobody_shown head buffer found e = (rw e, rw e)

module _ (head plan buffer : List ℕ) (w : Witness) where
  abbrev rows_shown : ℕ
  rows_shown = rows_for w.places.first w.places.second w.places.third

  abbrev choice : List Access
  choice = choice_at w.places.first w.places.second w.places.third

  module _
      (rows : ℕ)
      (e : rows ≡ rows_shown)
      (few : rows ≤ 9)
      (size : length plan ≡ 36)
      (p : take (4 * rows_shown) plan ≡ shown_plan head choice)
    where
      shown_length : length (shown_plan head choice) ≡ 4 * rows_shown
      shown_length = ap length (sym p) ∙ length-take-le (4 * rows_shown) plan (omega (arith, size, e, few))

      pub shown_answer : needed w.user rows ≡ answer_of head (Some w)
      unfolding answer_of found_of idleness_of
      shown_answer =
          let m : row_count (shown_plan head choice) ≡ rows = omega (arith, shown_length, e) in
          rw m

      pub shown_buffer :
          (after : List ℕ)
          → after ≡ take (4 * rows) plan ++ drop (4 * rows) buffer
          → after ≡ buffer_of head (Some w) buffer
      unfolding buffer_of found_of written
      shown_buffer after h = h ∙ rw (e, p, shown_length)
