-- Laws of the edits: what an accepted edit has tested and the marks that it leaves; and that every list of edits from an
-- accepted book without rules and a zero mask leaves the book that it makes and the mask that Idle gives. Assumes nothing.
use Prim.Native.Nat.{ℕ, suc, ◌+◌, ◌*◌, ◌-◌, ◌≤◌, ◌<◌}
use native.Mathlib.Omega.{arith}
use mathlib.Core.Path.{◌≡◌, refl, sym, ap, subst, ◌∙◌}
use mathlib.Core.Bool.{false}
use mathlib.Core.List.{List, [], ◌∷◌, ◌++◌}
use lib.ListN.{length, replicate, length-append, length-replicate}
use lib.Seq.{length-take-le, take_at, take-take}
use lib.Dec.{eqb, leb, ltb}
use borrow.Author.Tests.{eqb-true, eq-eqb, leb-true, le-leb, lt-ltb, le-ltb, ltb-true}
use Rattle.book.specs.Sets.{has}
use Rattle.book.specs.Blocks.{head_of, rule_count}
use Rattle.std.specs.Prelude.{Ok, Err}
use Rattle.book.specs.Tests.{Outcome, Passes, first_failing, refused_or, answered}
use Rattle.book.specs.Refusals.{BookAccepted, book_tests}
use Rattle.book.specs.declared.refusal.Refusal.TheVariants.{BookLength, NoRule, RulesFull}
use Rattle.book.proofs.Lists.{and_false}
use Rattle.book.proofs.Accepted.{accepted_length}
use Rattle.book.proofs.Answers.{answered_passed, append_passed, last_passed}
use Rattle.search.specs.Answers.{rule_tests}
use Rattle.editing.specs.Books.{with_rule, without_rule}
use Rattle.editing.specs.Marks.{idle_at, marks_of, arrival_marks, departure_marks}
use Rattle.editing.specs.Record.{Record, book_in, laid}
use Rattle.editing.specs.Answers.{room_tests, new_block_tests, number_tests, arrival_tests, departure_tests}
use Rattle.editing.specs.Answers.{arrive_tests, arrive_blocks, arrive_rules, arrive_marks}
use Rattle.editing.specs.Answers.{depart_tests, depart_blocks, depart_rules, depart_marks}
use Rattle.editing.specs.Edits.{Edit, Arrive, Depart, Marked, edited, record_after, book_with, book_after}
use Rattle.editing.specs.Demand.{ArriveAccepted, Arrives, DepartAccepted, Departs, Promise, Continues, made}
use Rattle.editing.specs.Demand.{EveryList, EveryListFromMarked, FreshIsMarked}
use Rattle.editing.proofs.Accepting.{append_passes, one_passes}
use Rattle.editing.proofs.Books.{less_accepted, less_count, more_count}
use Rattle.editing.proofs.MarkLaws.{arrival_bit, arrival_marks_law, call_idle, departure_bit, departure_marks_law}
use Rattle.editing.proofs.MarkLaws.{idle_call, mark_tells, marks_bit, marks_none}

-- The book in the blocks

module _ (blocks : List ℕ) (rules : ℕ) where
  pub book_whole : length blocks ≡ 18432 → rules ≤ 32 → length (book_in blocks rules) ≡ 512 * (4 + rules)
  unfolding book_in
  book_whole size few = length-take-le (512 * (4 + rules)) blocks (omega arith)

  pub book_count : length blocks ≡ 18432 → rules ≤ 32 → rule_count (book_in blocks rules) ≡ rules
  book_count size few =
      let e = book_whole size few in
      omega arith

  pub book_head : head_of (book_in blocks rules) ≡ head_of blocks
  unfolding book_in
  book_head = take-take 2048 (512 * (4 + rules)) blocks (omega arith)

-- a book laid out with zeros behind it
module _ (book : List ℕ) (n : ℕ) (whole : length book ≡ 512 * (4 + n)) where
  pub laid_length : n ≤ 32 → length (laid book) ≡ 18432
  unfolding laid
  laid_length few =
      let a = length-append book (replicate (18432 - length book) 0) in
      let b = length-replicate {A = ℕ} (18432 - length book) 0 in
      omega arith

  pub laid_book : book_in (laid book) n ≡ book
  unfolding laid book_in
  laid_book = take_at book (replicate (18432 - length book) 0) (512 * (4 + n)) whole

-- What an accepted edit has tested

-- before the book: there is room for a rule, and the block is one
pub early_accepted :
    (rules : ℕ) (block : List ℕ)
    → Passes (room_tests rules ++ new_block_tests block)
    → (rules < 32) × (length block ≡ 512)
unfolding room_tests new_block_tests
early_accepted rules block h =
    let first = append_passed (room_tests rules) (new_block_tests block) h in (
      ltb-true rules 32 (last_passed RulesFull (ltb rules 32) first.0),
      eqb-true (length block) 512 (last_passed BookLength (eqb (length block) 512) first.1),
    )

module _ (blocks : List ℕ) (rules : ℕ) (block : List ℕ) where
  pub arrive_accepted : Passes (arrive_tests blocks rules block) → ArriveAccepted blocks rules block
  unfolding arrive_tests arrival_tests
  arrive_accepted h =
      let after = with_rule (book_in blocks rules) block in
      let last = append_passed (room_tests rules ++ new_block_tests block) (book_tests after) h in
      let first = early_accepted rules block last.0 in
      record { room = first.0; long = first.1; book_accepted = last.1 }

  pub arrive_passes : ArriveAccepted blocks rules block → Passes (arrive_tests blocks rules block)
  unfolding arrive_tests arrival_tests room_tests new_block_tests
  arrive_passes given =
      append_passes (room_tests rules ++ new_block_tests block) (book_tests (with_rule (book_in blocks rules) block))
      (append_passes (room_tests rules) (new_block_tests block)
      (one_passes RulesFull (ltb rules 32) (lt-ltb rules 32 given.room))
      (one_passes BookLength (eqb (length block) 512) (eq-eqb (length block) 512 given.long)))
      given.book_accepted

module _ (blocks : List ℕ) (rules r : ℕ) where
  pub depart_accepted : Passes (depart_tests blocks rules r) → DepartAccepted blocks rules r
  unfolding depart_tests departure_tests number_tests rule_tests
  depart_accepted h =
      let book = book_in blocks rules in
      let last = append_passed (number_tests rules ++ book_tests book) (rule_tests book r) h in
      let first = append_passed (number_tests rules) (book_tests book) last.0 in
      record {
        few = leb-true rules 32 (last_passed BookLength (leb rules 32) first.0);
        book_accepted = first.1;
        rule_there = ltb-true r (rule_count book) (last_passed NoRule (ltb r (rule_count book)) last.1);
      }

  pub depart_passes : DepartAccepted blocks rules r → Passes (depart_tests blocks rules r)
  unfolding depart_tests departure_tests number_tests rule_tests
  depart_passes given =
      let book = book_in blocks rules in
      append_passes (number_tests rules ++ book_tests book) (rule_tests book r)
      (append_passes (number_tests rules) (book_tests book)
      (one_passes BookLength (leb rules 32) (le-leb rules 32 given.few)) given.book_accepted)
      (one_passes NoRule (ltb r (rule_count book)) (lt-ltb r (rule_count book) given.rule_there))

-- The marks that an accepted edit leaves, from any marks

module _ (blocks : List ℕ) (rules marks : ℕ) (block : List ℕ) where
  arrival_left :
      length blocks ≡ 18432
      → ArriveAccepted blocks rules block
      → Arrives blocks rules marks block (arrival_marks (with_rule (book_in blocks rules) block) rules marks)
  arrival_left size given =
      let after = with_rule (book_in blocks rules) block in
      let left = arrival_marks after rules marks in
      let bit = arrival_bit after rules marks in
      let room = given.room in
      let whole = book_whole blocks rules size (omega arith) in
      let count : rule_count after ≡ suc rules = more_count (book_in blocks rules) block rules whole given.long in
      record {
        keeps = λ q l h. bit q ∙ rw (lt-ltb q (suc rules) (omega arith), lt-ltb q rules l, h);
        afresh =
            λ q l h.
            mark_tells after given.book_accepted q (omega arith) left
            (bit q ∙ rw (lt-ltb q (suc rules) (omega arith), lt-ltb q rules l, h));
        new =
            mark_tells after given.book_accepted rules (omega arith) left
            (bit rules ∙ rw (lt-ltb rules (suc rules) (omega arith), le-ltb rules rules (omega arith)));
        past = λ q l. bit q ∙ rw (le-ltb q (suc rules) (omega arith));
      }

  pub arrives :
      length blocks ≡ 18432
      → ArriveAccepted blocks rules block
      → Arrives blocks rules marks block (arrive_marks blocks rules block marks)
  unfolding arrive_marks
  arrives size given =
      rw (answered_passed (arrive_tests blocks rules block) (λ refusal. marks)
      (arrival_marks (with_rule (book_in blocks rules) block) rules marks) (arrive_passes blocks rules block given))
      (arrival_left size given)

module _ (blocks : List ℕ) (rules marks r : ℕ) where
  departure_left :
      DepartAccepted blocks rules r
      → Departs blocks rules marks r (departure_marks (without_rule (book_in blocks rules) r) r marks)
  departure_left given =
      let after = without_rule (book_in blocks rules) r in
      let left = departure_marks after r marks in
      let bit = departure_bit after r marks in
      let accepted = less_accepted (book_in blocks rules) r given.book_accepted given.rule_there in
      record {
        keeps = λ q h. bit q ∙ rw h (and_false (ltb q (rule_count after)));
        afresh =
            λ q l h.
            mark_tells after accepted q l left (bit q ∙ rw (lt-ltb q (rule_count after) l, h));
        past = λ q l. bit q ∙ rw (le-ltb q (rule_count after) l);
      }

  pub departs : DepartAccepted blocks rules r → Departs blocks rules marks r (depart_marks blocks rules r marks)
  unfolding depart_marks
  departs given =
      rw (answered_passed (depart_tests blocks rules r) (λ refusal. marks)
      (departure_marks (without_rule (book_in blocks rules) r) r marks) (depart_passes blocks rules r given))
      (departure_left given)

-- One edit

abbrev book_of : Record → List ℕ
book_of s = book_in s.blocks s.rules

abbrev arrived : Record → List ℕ → Record
arrived s block =
    record {
      blocks = laid (with_rule (book_of s) block);
      rules = s.rules + 1;
      marks = arrival_marks (with_rule (book_of s) block) s.rules s.marks;
    }

abbrev departed : Record → ℕ → Record
departed s r =
    record {
      blocks = laid (without_rule (book_of s) r);
      rules = s.rules - 1;
      marks = departure_marks (without_rule (book_of s) r) r s.marks;
    }

-- what is so of the record and its book where an edit is accepted and where it is refused
every_edit :
    (s : Record) (P : Record → List ℕ → Type 0)
    → rule_count (book_of s) ≡ s.rules
    → P s (book_of s)
    → ((block : List ℕ)
    → ArriveAccepted s.blocks s.rules block
    → P (arrived s block) (with_rule (book_of s) block))
    → ((r : ℕ) → DepartAccepted s.blocks s.rules r → P (departed s r) (without_rule (book_of s) r))
    → (e : Edit)
    → P (edited s e) (book_with (book_of s) e)
unfolding edited book_with answered refused_or arrive_blocks arrive_rules arrive_marks arrive_tests depart_blocks depart_rules
    depart_marks depart_tests
every_edit s P count same more less (Arrive block) =
    rw count (go (first_failing (arrive_tests s.blocks s.rules block)) refl)
  where
    go :
        (f : Outcome)
        → first_failing (arrive_tests s.blocks s.rules block) ≡ f
        → P
        (record {
          blocks = refused_or f (λ refusal. s.blocks) (arrived s block).blocks;
          rules = refused_or f (λ refusal. s.rules) (arrived s block).rules;
          marks = refused_or f (λ refusal. s.marks) (arrived s block).marks;
        })
        (refused_or f (λ refusal. book_of s) (with_rule (book_of s) block))
    go (Ok done) e = more block (arrive_accepted s.blocks s.rules block e)
    go (Err x) e = same
every_edit s P count same more less (Depart r) =
    rw count (go (first_failing (depart_tests s.blocks s.rules r)) refl)
  where
    go :
        (f : Outcome)
        → first_failing (depart_tests s.blocks s.rules r) ≡ f
        → P
        (record {
          blocks = refused_or f (λ refusal. s.blocks) (departed s r).blocks;
          rules = refused_or f (λ refusal. s.rules) (departed s r).rules;
          marks = refused_or f (λ refusal. s.marks) (departed s r).marks;
        })
        (refused_or f (λ refusal. book_of s) (without_rule (book_of s) r))
    go (Ok done) e = less r (depart_accepted s.blocks s.rules r e)
    go (Err x) e = same

-- What every edit keeps

-- a record that holds this book with Idle's marks, zeros behind it if it was so at the start
record Keeps (start s : Record) (book : List ℕ) : Type 0 where
  holds : book_of s ≡ book
  whole : length s.blocks ≡ 18432
  accepted : BookAccepted book
  counted : s.rules ≡ rule_count book
  behind : start.blocks ≡ laid (book_of start) → s.blocks ≡ laid book
  mask : s.marks ≡ marks_of book

laid_keeps :
    (start s : Record) (book : List ℕ)
    → s.blocks ≡ laid book
    → BookAccepted book
    → s.rules ≡ rule_count book
    → s.marks ≡ marks_of book
    → Keeps start s book
laid_keeps start s book lies accepted counted mask =
    let l = accepted_length book accepted in
    record {
      holds = rw (lies, counted) (laid_book book (rule_count book) l.0);
      whole = rw lies (laid_length book (rule_count book) l.0 l.1);
      accepted = accepted;
      counted = counted;
      behind = λ h. lies;
      mask = mask;
    }

module _ (start s : Record) (keeps : Keeps start s (book_of s)) where
  arrived_keeps :
      (block : List ℕ)
      → ArriveAccepted s.blocks s.rules block
      → Keeps start (arrived s block) (with_rule (book_of s) block)
  arrived_keeps block given =
      let room = given.room in
      let whole = book_whole s.blocks s.rules keeps.whole (omega arith) in
      let count = more_count (book_of s) block s.rules whole given.long in
      laid_keeps start (arrived s block) (with_rule (book_of s) block) refl given.book_accepted (omega arith)
      (ap (arrival_marks (with_rule (book_of s) block) s.rules) keeps.mask
      ∙ arrival_marks_law (book_of s) block s.rules whole given.long given.book_accepted)

  departed_keeps :
      (r : ℕ) → DepartAccepted s.blocks s.rules r → Keeps start (departed s r) (without_rule (book_of s) r)
  departed_keeps r given =
      let n = rule_count (book_of s) in
      let there = given.rule_there in
      let counted = keeps.counted in
      let count = less_count (book_of s) n (accepted_length (book_of s) given.book_accepted).0 r there in
      laid_keeps start (departed s r) (without_rule (book_of s) r) refl
      (less_accepted (book_of s) r given.book_accepted there) (omega arith)
      (ap (departure_marks (without_rule (book_of s) r) r) keeps.mask
      ∙ departure_marks_law (book_of s) given.book_accepted r there)

edit_keeps :
    (start s : Record) (book : List ℕ) (e : Edit) → Keeps start s book → Keeps start (edited s e) (book_with book e)
edit_keeps start s book e keeps =
    let own : Keeps start s (book_of s) = subst (λ b. Keeps start s b) (sym keeps.holds) keeps in
    subst (λ b. Keeps start (edited s e) (book_with b e)) keeps.holds
    (every_edit s (λ t b. Keeps start t b) (sym own.counted) own (arrived_keeps start s own)
    (departed_keeps start s own) e)

-- Every list of edits

pub fresh_marked : FreshIsMarked
fresh_marked s given =
    let count = book_count s.blocks 0 given.whole (omega arith) in
    record {
      whole = given.whole;
      accepted = rw given.no_rules given.accepted;
      counted = rw given.no_rules (sym count);
      mask = given.no_marks ∙ rw given.no_rules (sym (marks_none (book_in s.blocks 0) count));
    }

-- a record that holds an accepted book laid out, with Idle's marks
pub laid_marked :
    (s : Record) (book : List ℕ)
    → s.blocks ≡ laid book
    → BookAccepted book
    → s.rules ≡ rule_count book
    → s.marks ≡ marks_of book
    → Marked s
laid_marked s book lies accepted counted mask =
    let keeps = laid_keeps s s book lies accepted counted mask in
    let same = keeps.holds in
    record { whole = keeps.whole; accepted = rw same accepted; counted = rw same counted; mask = rw same mask }

start_keeps : (start : Record) → Marked start → Keeps start start (book_of start)
start_keeps start given =
    record {
      holds = refl;
      whole = given.whole;
      accepted = given.accepted;
      counted = given.counted;
      behind = λ h. h;
      mask = given.mask;
    }

list_keeps :
    (start : Record)
    → Marked start
    → (list : List Edit)
    → Keeps start (record_after start list) (made start list)
unfolding record_after book_after
list_keeps start given [] = start_keeps start given
list_keeps start given (e ∷ earlier) =
    edit_keeps start (record_after start earlier) (made start earlier) e (list_keeps start given earlier)

module _ (start s : Record) (book : List ℕ) (keeps : Keeps start s book) where
  kept_bit : (r : ℕ) → r < s.rules → has s.marks r ≡ idle_at book r
  kept_bit r l =
      let c = keeps.counted in
      rw keeps.mask (marks_bit book r ∙ rw (lt-ltb r (rule_count book) (omega arith)))

  kept_past : (r : ℕ) → s.rules ≤ r → has s.marks r ≡ false
  kept_past r l =
      let c = keeps.counted in
      rw keeps.mask (marks_bit book r ∙ rw (le-ltb r (rule_count book) (omega arith)))

pub from_marked : EveryListFromMarked
from_marked start list given =
    let book = made start list in
    let s = record_after start list in
    let keeps = list_keeps start given list in
    let count = keeps.counted in
    let bit = kept_bit start s book keeps in
    record {
      holds = keeps.holds;
      whole = keeps.whole;
      accepted = keeps.accepted;
      counted = count;
      behind = keeps.behind;
      mask = keeps.mask;
      marks = λ r l. mark_tells book keeps.accepted r (omega arith) s.marks (bit r l);
      set_call =
          λ r buffer l long h. idle_call book keeps.accepted r (omega arith) buffer long (sym (bit r l) ∙ h);
      call_set =
          λ r buffer l long h. bit r l ∙ call_idle book keeps.accepted r (omega arith) buffer long h;
      past = kept_past start s book keeps;
    }

pub every_list : EveryList
every_list start list given = from_marked start list (fresh_marked start given)

pub continues : (e : Edit) (s : Record) → Continues e s (edited s e)
unfolding record_after
continues e s start list given before =
    let next : record_after start (e ∷ list) ≡ edited s e = ap (λ (t : Record). edited t e) before in
    (next, subst (λ t. Promise start (e ∷ list) t) next (from_marked start (e ∷ list) given))
