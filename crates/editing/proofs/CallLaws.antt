-- Laws of the two calls: what they reply and leave by what their tests and the marks say, and what that promises.
-- Assumes nothing.
use Prim.Native.Nat.{ℕ, suc, ◌+◌, ◌-◌, ◌*◌, ◌≤◌, ◌<◌}
use native.Mathlib.Numerals.{add-one}
use native.Mathlib.Omega.{arith}
use mathlib.Core.Path.{◌≡◌, sym, ap, ◌∙◌}
use mathlib.Core.List.{List, ◌++◌}
use lib.ListN.{length, take}
use Rattle.book.specs.Blocks.{head_of, rule_count}
use Rattle.book.specs.Tests.{Passes, first_failing}
use Rattle.book.specs.Refusals.{BookAccepted, book_tests}
use Rattle.book.specs.Inner.Words.{HeadWords}
use Rattle.book.specs.declared.refusal.Refusal.{Refusal}
use Rattle.book.specs.declared.words.Words.{Words}
use Rattle.book.proofs.Answers.{answered_passed, answered_refused, append_refused, list_went_on}
use Rattle.std.specs.Prelude.{Result, Ok, Err}
use Rattle.editing.specs.Books.{with_rule, without_rule}
use Rattle.editing.specs.Marks.{arrival_marks, departure_marks}
use Rattle.editing.specs.Record.{book_in, laid}
use Rattle.editing.specs.Answers.{arrival_tests, new_block_tests, room_tests}
use Rattle.editing.specs.Answers.{arrive_tests, arrive_answer, arrive_blocks, arrive_marks, arrive_rules}
use Rattle.editing.specs.Answers.{depart_tests, depart_answer, depart_blocks, depart_marks, depart_rules}
use Rattle.editing.specs.Edits.{Arrive, Depart, edited}
use Rattle.editing.specs.Demand.{ArriveAccepted, Arrives, Continues, DepartAccepted, Departs, OpenedIsMarked}
use Rattle.editing.proofs.Accepting.{append_passes}
use Rattle.editing.proofs.Books.{less_accepted, less_head, less_length, more_count, more_length}
use Rattle.editing.proofs.EditLaws.{arrives, book_count, book_head, book_whole, continues}
use Rattle.editing.proofs.EditLaws.{arrive_passes, depart_accepted, departs, early_accepted, laid_book, laid_marked}
use Rattle.editing.proofs.MarkLaws.{arrival_afresh}

-- An arrival

module _ (blocks : List ℕ) (rules marks : ℕ) (block : List ℕ) where
  abbrev pub ArriveEquals : (answer : Result ℕ Refusal) (blocks' : List ℕ) (rules' marks' : ℕ) → Type 0
  ArriveEquals answer blocks' rules' marks' =
      (answer ≡ arrive_answer blocks rules block marks)
      × (blocks' ≡ arrive_blocks blocks rules block)
      × (rules' ≡ arrive_rules blocks rules block)
      × (marks' ≡ arrive_marks blocks rules block marks)

  -- a refusal changes nothing
  pub arrive_refused :
      (x : Refusal)
      → first_failing (arrive_tests blocks rules block) ≡ Err x
      → ArriveEquals (Err x) blocks rules marks
  unfolding arrive_answer arrive_blocks arrive_rules arrive_marks
  arrive_refused x h =
      let tests = arrive_tests blocks rules block in
      let after = with_rule (book_in blocks rules) block in
      let mask = arrival_marks after rules marks in (
        sym (answered_refused tests Err (Ok mask) x h),
        sym (answered_refused tests (λ refusal. blocks) (laid after) x h),
        sym (answered_refused tests (λ refusal. rules) (rules + 1) x h),
        sym (answered_refused tests (λ refusal. marks) mask x h),
      )

  pub arrive_passed :
      Passes (arrive_tests blocks rules block)
      → ArriveEquals (Ok (arrival_marks (with_rule (book_in blocks rules) block) rules marks))
      (laid (with_rule (book_in blocks rules) block)) (rules + 1)
      (arrival_marks (with_rule (book_in blocks rules) block) rules marks)
  unfolding arrive_answer arrive_blocks arrive_rules arrive_marks
  arrive_passed h =
      let tests = arrive_tests blocks rules block in
      let after = with_rule (book_in blocks rules) block in
      let mask = arrival_marks after rules marks in (
        sym (answered_passed tests Err (Ok mask) h),
        sym (answered_passed tests (λ refusal. blocks) (laid after) h),
        sym (answered_passed tests (λ refusal. rules) (rules + 1) h),
        sym (answered_passed tests (λ refusal. marks) mask h),
      )

  -- what refuses before the new book is built ends the call
  pub early_refused :
      (x : Refusal)
      → first_failing (room_tests rules ++ new_block_tests block) ≡ Err x
      → first_failing (arrive_tests blocks rules block) ≡ Err x
  unfolding arrive_tests arrival_tests
  early_refused x h =
      append_refused (room_tests rules ++ new_block_tests block) (book_tests (with_rule (book_in blocks rules) block)) x h

  module _ (size : length blocks ≡ 18432) where
    -- the new book as it is laid, and what its tests say of the call's
    module _ (early : Passes (room_tests rules ++ new_block_tests block)) (next : List ℕ)
        (lies : next ≡ laid (with_rule (book_in blocks rules) block)) where
      arrival_book : take (512 * (5 + rules)) next ≡ with_rule (book_in blocks rules) block
      unfolding book_in
      arrival_book =
          let given = early_accepted rules block early in
          let old = book_in blocks rules in
          let whole : length old ≡ 512 * (4 + rules) = book_whole blocks rules size (omega (arith, given.0)) in
          let n : 4 + suc rules ≡ 5 + rules = omega arith in
          ap (take (512 * (5 + rules))) lies
          ∙ ap (λ (k : ℕ). take (512 * k) (laid (with_rule old block))) (sym n)
          ∙ laid_book (with_rule old block) (suc rules) (more_length old block rules whole given.1)

      pub late_refused :
          (x : Refusal)
          → first_failing (book_tests (take (512 * (5 + rules)) next)) ≡ Err x
          → first_failing (arrive_tests blocks rules block) ≡ Err x
      unfolding arrive_tests arrival_tests
      late_refused x h =
          sym
          (list_went_on (room_tests rules ++ new_block_tests block) (book_tests (with_rule (book_in blocks rules) block))
          (Err x) early (sym (rw arrival_book at h)))

      pub late_passed : BookAccepted (take (512 * (5 + rules)) next) → Passes (arrive_tests blocks rules block)
      unfolding arrive_tests arrival_tests
      late_passed h =
          append_passes (room_tests rules ++ new_block_tests block) (book_tests (with_rule (book_in blocks rules) block))
          early (rw arrival_book at h)

      -- the marks of the new book
      pub arrive_marked :
          (mask : ℕ)
          → (rule_count (take (512 * (5 + rules)) next) ≡ suc rules
          → mask ≡ arrival_marks (take (512 * (5 + rules)) next) rules marks)
          → mask ≡ arrival_marks (with_rule (book_in blocks rules) block) rules marks
      arrive_marked mask marked =
          let given = early_accepted rules block early in
          let old = book_in blocks rules in
          let whole : length old ≡ 512 * (4 + rules) = book_whole blocks rules size (omega (arith, given.0)) in
          (rw arrival_book at marked) (more_count old block rules whole given.1)

    -- what the equations promise
    pub arrive_says :
        (mask : ℕ)
        → mask ≡ arrive_marks blocks rules block marks
        → ArriveAccepted blocks rules block
        → Arrives blocks rules marks block mask
    arrive_says mask e given = rw e (arrives blocks rules marks block size given)

  pub arrive_continues :
      (left : List ℕ) (count mask : ℕ)
      → left ≡ arrive_blocks blocks rules block
      → count ≡ arrive_rules blocks rules block
      → mask ≡ arrive_marks blocks rules block marks
      → Continues (Arrive block) (record { blocks = blocks; rules = rules; marks = marks })
      (record { blocks = left; rules = count; marks = mask })
  unfolding edited
  arrive_continues left count mask eb er em =
      rw (eb, er, em) (continues (Arrive block) (record { blocks = blocks; rules = rules; marks = marks }))

-- a book is opened with its marks by the arrival of its last rule
pub opened_marked : OpenedIsMarked
unfolding edited
opened_marked blocks rules block size given =
    let e = arrive_passed blocks rules 0 block (arrive_passes blocks rules block given) in
    let after = with_rule (book_in blocks rules) block in
    let whole = book_whole blocks rules size (omega (arith, given.room)) in
    let count = more_count (book_in blocks rules) block rules whole given.long in
    laid_marked (edited (record { blocks = blocks; rules = rules; marks = 0 }) (Arrive block)) after (sym e.1)
    given.book_accepted (sym e.2 ∙ add-one rules ∙ sym count) (sym e.3 ∙ arrival_afresh after rules count)

-- A departure

module _ (blocks : List ℕ) (rules marks r : ℕ) where
  abbrev pub DepartEquals : (answer : Result ℕ Refusal) (blocks' : List ℕ) (rules' marks' : ℕ) → Type 0
  DepartEquals answer blocks' rules' marks' =
      (answer ≡ depart_answer blocks rules r marks)
      × (blocks' ≡ depart_blocks blocks rules r)
      × (rules' ≡ depart_rules blocks rules r)
      × (marks' ≡ depart_marks blocks rules r marks)

  pub depart_refused :
      (x : Refusal)
      → first_failing (depart_tests blocks rules r) ≡ Err x
      → DepartEquals (Err x) blocks rules marks
  unfolding depart_answer depart_blocks depart_rules depart_marks
  depart_refused x h =
      let tests = depart_tests blocks rules r in
      let after = without_rule (book_in blocks rules) r in
      let mask = departure_marks after r marks in (
        sym (answered_refused tests Err (Ok mask) x h),
        sym (answered_refused tests (λ refusal. blocks) (laid after) x h),
        sym (answered_refused tests (λ refusal. rules) (rules - 1) x h),
        sym (answered_refused tests (λ refusal. marks) mask x h),
      )

  pub depart_passed :
      Passes (depart_tests blocks rules r)
      → DepartEquals (Ok (departure_marks (without_rule (book_in blocks rules) r) r marks))
      (laid (without_rule (book_in blocks rules) r)) (rules - 1)
      (departure_marks (without_rule (book_in blocks rules) r) r marks)
  unfolding depart_answer depart_blocks depart_rules depart_marks
  depart_passed h =
      let tests = depart_tests blocks rules r in
      let after = without_rule (book_in blocks rules) r in
      let mask = departure_marks after r marks in (
        sym (answered_passed tests Err (Ok mask) h),
        sym (answered_passed tests (λ refusal. blocks) (laid after) h),
        sym (answered_passed tests (λ refusal. rules) (rules - 1) h),
        sym (answered_passed tests (λ refusal. marks) mask h),
      )

  module _ (size : length blocks ≡ 18432) where
    -- what is accepted has a rule to leave
    pub depart_there : Passes (depart_tests blocks rules r) → (rules ≤ 32) × (r < rules)
    depart_there passes =
        let given = depart_accepted blocks rules r passes in
        let count = book_count blocks rules size given.few in
        (given.few, omega (arith, given.rule_there))

    -- the new book as it is laid
    module _ (passes : Passes (depart_tests blocks rules r)) (next : List ℕ)
        (lies : next ≡ laid (without_rule (book_in blocks rules) r)) where
      departure_book : take (512 * (3 + rules)) next ≡ without_rule (book_in blocks rules) r
      unfolding book_in
      departure_book =
          let given = depart_accepted blocks rules r passes in
          let old = book_in blocks rules in
          let l = (depart_there passes).1 in
          let whole : length old ≡ 512 * (4 + rules) = book_whole blocks rules size given.few in
          let n : 4 + (rules - 1) ≡ 3 + rules = omega arith in
          ap (take (512 * (3 + rules))) lies
          ∙ ap (λ (k : ℕ). take (512 * k) (laid (without_rule old r))) (sym n)
          ∙ laid_book (without_rule old r) (rules - 1) (less_length old rules whole r l)

      -- it has the old book's head, and is accepted
      pub departure_told :
          (words : Words)
          → HeadWords (head_of blocks) words
          → HeadWords (head_of (take (512 * (3 + rules)) next)) words
      departure_told words held =
          let given = depart_accepted blocks rules r passes in
          let old = book_in blocks rules in
          let whole : length old ≡ 512 * (4 + rules) = book_whole blocks rules size given.few in
          rw (departure_book, less_head old rules whole r (depart_there passes).1, book_head blocks rules) held

      pub departure_accepted : BookAccepted (take (512 * (3 + rules)) next)
      departure_accepted =
          let given = depart_accepted blocks rules r passes in
          rw departure_book (less_accepted (book_in blocks rules) r given.book_accepted given.rule_there)

      -- the marks of the new book
      pub depart_marked :
          (mask : ℕ)
          → mask ≡ departure_marks (take (512 * (3 + rules)) next) r marks
          → mask ≡ departure_marks (without_rule (book_in blocks rules) r) r marks
      depart_marked mask marked = rw departure_book at marked

  -- what the equations promise
  pub depart_says :
      (mask : ℕ)
      → mask ≡ depart_marks blocks rules r marks
      → DepartAccepted blocks rules r
      → Departs blocks rules marks r mask
  depart_says mask e given = rw e (departs blocks rules marks r given)

  pub depart_continues :
      (left : List ℕ) (count mask : ℕ)
      → left ≡ depart_blocks blocks rules r
      → count ≡ depart_rules blocks rules r
      → mask ≡ depart_marks blocks rules r marks
      → Continues (Depart r) (record { blocks = blocks; rules = rules; marks = marks })
      (record { blocks = left; rules = count; marks = mask })
  unfolding edited
  depart_continues left count mask eb er em =
      rw (eb, er, em) (continues (Depart r) (record { blocks = blocks; rules = rules; marks = marks }))
