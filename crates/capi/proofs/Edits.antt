-- Arrive and Depart for C: the number is the answer's, the answer is had again from it, and what it says of the record
-- and of Idle. Assumes nothing.
use Prim.Native.Nat.{ℕ, ◌<◌}
use native.Mathlib.Omega.{arith}
use mathlib.Core.Path.{◌≡◌, refl, sym, ◌∙◌}
use mathlib.Core.List.{List}
use Rattle.std.specs.Prelude.{Ok, Err}
use Rattle.book.specs.Tests.{Outcome, Passes, first_failing}
use Rattle.book.specs.declared.refusal.Refusal.{Refusal}
use Rattle.book.proofs.Accepted.{accepted_length}
use Rattle.book.proofs.Answers.{refused_passed}
use Rattle.editing.specs.Books.{with_rule, without_rule}
use Rattle.editing.specs.Marks.{arrival_marks, departure_marks}
use Rattle.editing.specs.Record.{book_in}
use Rattle.editing.specs.Answers.{arrive_tests, arrive_answer, arrive_blocks, arrive_marks, arrive_rules}
use Rattle.editing.specs.Answers.{depart_tests, depart_answer, depart_blocks, depart_marks, depart_rules}
use Rattle.editing.specs.Edits.{Arrive, Depart}
use Rattle.editing.specs.Demand as editing
use Rattle.editing.specs.Demand.{ArriveAccepted, Arrives, DepartAccepted, Departs}
use Rattle.editing.proofs.Books.{less_accepted}
use Rattle.editing.proofs.MarkLaws.{arrival_fits, departure_fits}
use Rattle.editing.proofs.EditLaws.{arrive_accepted, arrive_passes, depart_accepted, depart_passes}
use Rattle.editing.proofs.CallLaws.{arrive_passed, arrive_refused, depart_passed, depart_refused}
use Rattle.capi.specs.Packing.{packed, refusal_packed, edit_packed, number_value}
use Rattle.capi.specs.Demands.{ArriveSays, DepartSays}
use Rattle.capi.proofs.Bounds.{arrive_bounded, depart_bounded, refused_small, value_refused}
use Rattle.capi.proofs.Unpacking.{Parts, Refuses, packed_parts, refusal_parts, refusal_past}

-- Arrive

module _ (blocks : List ℕ) (rules marks : ℕ) (block : List ℕ) where
  -- a refusal, or the mask, comes back from the number
  pub arrive_refused_parts :
      (x : Refusal)
      → arrive_answer blocks rules block marks ≡ Err x
      → Refuses (edit_packed (arrive_answer blocks rules block marks)) x
  unfolding arrive_answer edit_packed
  arrive_refused_parts x h =
      rw h
      (refusal_parts x
      (refused_small (arrive_tests blocks rules block) _ (value_refused _) (arrive_bounded blocks rules block) x h))

  pub arrive_parts :
      (mask : ℕ)
      → arrive_answer blocks rules block marks ≡ Ok mask
      → Parts (edit_packed (arrive_answer blocks rules block marks)) 0 0 mask
  unfolding edit_packed number_value
  arrive_parts mask h = rw h (go (first_failing (arrive_tests blocks rules block)) refl)
    where
      go : (f : Outcome) → first_failing (arrive_tests blocks rules block) ≡ f → Parts (packed 0 0 mask) 0 0 mask
      go (Ok done) e =
          let said = (arrive_passed blocks rules marks block e).0 ∙ h in
          let same : arrival_marks (with_rule (book_in blocks rules) block) rules marks ≡ mask = cc in
          let room = (arrive_accepted blocks rules block e).room in
          let low = arrival_fits (with_rule (book_in blocks rules) block) rules marks room in
          packed_parts 0 0 mask (omega arith) (omega arith)
      go (Err x) e = absurd (value_refused mask x (sym ((arrive_refused blocks rules marks block x e).0 ∙ h)))

  -- what the number says
  pub arrive_promised :
      (answer : ℕ) (left : List ℕ) (count mask : ℕ)
      → answer ≡ edit_packed (arrive_answer blocks rules block marks)
      → left ≡ arrive_blocks blocks rules block
      → count ≡ arrive_rules blocks rules block
      → mask ≡ arrive_marks blocks rules block marks
      → (ArriveAccepted blocks rules block → Arrives blocks rules marks block mask)
      → editing.Continues (Arrive block) (record { blocks = blocks; rules = rules; marks = marks })
      (record { blocks = left; rules = count; marks = mask })
      → ArriveSays (record { blocks = blocks; rules = rules; marks = marks })
      (record { blocks = left; rules = count; marks = mask }) block answer
  unfolding edit_packed number_value packed
  arrive_promised answer left count mask ea el ec em told continues =
      go (first_failing (arrive_tests blocks rules block)) refl
    where
      go :
          (f : Outcome)
          → first_failing (arrive_tests blocks rules block) ≡ f
          → ArriveSays (record { blocks = blocks; rules = rules; marks = marks })
          (record { blocks = left; rules = count; marks = mask }) block answer
      go (Ok done) h =
          let e = arrive_passed blocks rules marks block h in
          let given = arrive_accepted blocks rules block h in
          let low = arrival_fits (with_rule (book_in blocks rules) block) rules marks given.room in
          let value : answer ≡ arrival_marks (with_rule (book_in blocks rules) block) rules marks =
          ea ∙ rw (← e.0) (omega arith) in
          let stands : mask ≡ answer = em ∙ sym e.3 ∙ sym value in
          record {
            accepted = λ l. given;
            accepts = λ g. omega arith;
            blocks = λ l. el ∙ sym e.1;
            rules = λ l. ec ∙ sym e.2;
            mask = λ l. stands;
            marks = λ l. rw stands at (told given);
            refused_keeps = λ l. absurd (omega arith);
            continues = continues;
          }
      go (Err x) h =
          let e = arrive_refused blocks rules marks block x h in
          let past = refusal_past x (arrive_bounded blocks rules block x h) in
          let value : answer ≡ refusal_packed x = ea ∙ rw (← e.0) in
          record {
            accepted = λ l. absurd (omega arith);
            accepts = λ g. refused_passed x tt (sym h ∙ arrive_passes blocks rules block g);
            blocks = λ l. absurd (omega arith);
            rules = λ l. absurd (omega arith);
            mask = λ l. absurd (omega arith);
            marks = λ l. absurd (omega arith);
            refused_keeps = λ l. rw (el ∙ sym e.1, ec ∙ sym e.2, em ∙ sym e.3);
            continues = continues;
          }

-- Depart

module _ (blocks : List ℕ) (rules marks r : ℕ) where
  pub depart_refused_parts :
      (x : Refusal)
      → depart_answer blocks rules r marks ≡ Err x
      → Refuses (edit_packed (depart_answer blocks rules r marks)) x
  unfolding depart_answer edit_packed
  depart_refused_parts x h =
      rw h
      (refusal_parts x
      (refused_small (depart_tests blocks rules r) _ (value_refused _) (depart_bounded blocks rules r) x h))

  -- the new mask has 32 bits
  low_mask :
      Passes (depart_tests blocks rules r) → departure_marks (without_rule (book_in blocks rules) r) r marks < 4294967296
  low_mask h =
      let given = depart_accepted blocks rules r h in
      let after = without_rule (book_in blocks rules) r in
      departure_fits after r marks
      (accepted_length after (less_accepted (book_in blocks rules) r given.book_accepted given.rule_there)).1

  pub depart_parts :
      (mask : ℕ)
      → depart_answer blocks rules r marks ≡ Ok mask
      → Parts (edit_packed (depart_answer blocks rules r marks)) 0 0 mask
  unfolding edit_packed number_value
  depart_parts mask h = rw h (go (first_failing (depart_tests blocks rules r)) refl)
    where
      go : (f : Outcome) → first_failing (depart_tests blocks rules r) ≡ f → Parts (packed 0 0 mask) 0 0 mask
      go (Ok done) e =
          let said = (depart_passed blocks rules marks r e).0 ∙ h in
          let same : departure_marks (without_rule (book_in blocks rules) r) r marks ≡ mask = cc in
          let low = low_mask e in
          packed_parts 0 0 mask (omega arith) (omega arith)
      go (Err x) e = absurd (value_refused mask x (sym ((depart_refused blocks rules marks r x e).0 ∙ h)))

  -- what the number says
  pub depart_promised :
      (answer : ℕ) (left : List ℕ) (count mask : ℕ)
      → answer ≡ edit_packed (depart_answer blocks rules r marks)
      → left ≡ depart_blocks blocks rules r
      → count ≡ depart_rules blocks rules r
      → mask ≡ depart_marks blocks rules r marks
      → (DepartAccepted blocks rules r → Departs blocks rules marks r mask)
      → editing.Continues (Depart r) (record { blocks = blocks; rules = rules; marks = marks })
      (record { blocks = left; rules = count; marks = mask })
      → DepartSays (record { blocks = blocks; rules = rules; marks = marks })
      (record { blocks = left; rules = count; marks = mask }) r answer
  unfolding edit_packed number_value packed
  depart_promised answer left count mask ea el ec em told continues =
      go (first_failing (depart_tests blocks rules r)) refl
    where
      go :
          (f : Outcome)
          → first_failing (depart_tests blocks rules r) ≡ f
          → DepartSays (record { blocks = blocks; rules = rules; marks = marks })
          (record { blocks = left; rules = count; marks = mask }) r answer
      go (Ok done) h =
          let e = depart_passed blocks rules marks r h in
          let given = depart_accepted blocks rules r h in
          let book = book_in blocks rules in
          let low = low_mask h in
          let value : answer ≡ departure_marks (without_rule book r) r marks = ea ∙ rw (← e.0) (omega arith) in
          let stands : mask ≡ answer = em ∙ sym e.3 ∙ sym value in
          record {
            accepted = λ l. given;
            accepts = λ g. omega arith;
            blocks = λ l. el ∙ sym e.1;
            rules = λ l. ec ∙ sym e.2;
            mask = λ l. stands;
            marks = λ l. rw stands at (told given);
            refused_keeps = λ l. absurd (omega arith);
            continues = continues;
          }
      go (Err x) h =
          let e = depart_refused blocks rules marks r x h in
          let past = refusal_past x (depart_bounded blocks rules r x h) in
          let value : answer ≡ refusal_packed x = ea ∙ rw (← e.0) in
          record {
            accepted = λ l. absurd (omega arith);
            accepts = λ g. refused_passed x tt (sym h ∙ depart_passes blocks rules r g);
            blocks = λ l. absurd (omega arith);
            rules = λ l. absurd (omega arith);
            mask = λ l. absurd (omega arith);
            marks = λ l. absurd (omega arith);
            refused_keeps = λ l. rw (el ∙ sym e.1, ec ∙ sym e.2, em ∙ sym e.3);
            continues = continues;
          }
