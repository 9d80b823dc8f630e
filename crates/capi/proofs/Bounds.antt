-- Every refusal that a call can give has a number from 1 to 255 and a place below 256; the number and the mask of an
-- ask fit 32 bits. Assumes nothing.
use Prim.Native.Nat.{ℕ, zero, suc, ◌+◌, ◌≤◌, ◌<◌}
use native.Mathlib.Omega.{arith}
use mathlib.Core.Path.{◌≡◌, refl, sym, subst, ◌∙◌}
use mathlib.Core.Bool.{Bool, true, false, cond}
use mathlib.Core.List.{List, [], ◌∷◌, ◌++◌}
use lib.ListN.{length}
use lib.Dec.{eqb}
use Rattle.book.specs.Lists.{flat, from, up_to}
use Rattle.book.specs.Blocks.{head_of, block_at, block_count, rule_at, rule_count}
use Rattle.std.specs.Prelude.{Result, Ok, Err}
use Rattle.std.specs.Result.{result_and}
use Rattle.book.specs.Tests.{Test, Outcome, Passes, first_failing, refused_or, answered}
use Rattle.book.specs.Numbers.{number_of, place_of}
use Rattle.book.specs.declared.refusal.Refusal.{Refusal}
use Rattle.book.specs.declared.refusal.Refusal.TheVariants.{BookLength, BlockCheck, BlockKind, CountOrZero, ParentOrOwn}
use Rattle.book.specs.declared.refusal.Refusal.TheVariants.{LabelOrFunction, RuleNumber, SharedLeaf, MaskOperation}
use Rattle.book.specs.declared.refusal.Refusal.TheVariants.{BlockLength, NoUser, PlanLength, FaultyRow, WordCount, NoRule}
use Rattle.book.specs.declared.refusal.Refusal.TheVariants.{BufferLength, RuleForbids, LedgerLength, CountsFull}
use Rattle.book.specs.declared.refusal.Refusal.TheVariants.{NoValueRow, TreeSize, PlacesFull, NotHeld, RulesFull}
use Rattle.ledger.specs.declared.Asked.{Asked}
use Rattle.ledger.specs.declared.Asked.TheVariants.{Held, Declined}
use Rattle.book.specs.Refusals.{users_block_tests, data_block_tests, columns_block_tests, functions_block_tests}
use Rattle.book.specs.Refusals.{rule_block_tests, block_tests, check_tests, kind_tests, content_tests, block_by_block}
use Rattle.book.specs.Refusals.{length_holds, length_tests, book_tests, seal_tests}
use Rattle.book.specs.Answers.{check_answer, seal_answer}
use Rattle.book.proofs.Answers.{append_passed, first_append, last_passed, refused_passed}
use Rattle.book.proofs.Tests.{length_true}
use Rattle.lineage.specs.Rows.{row_count}
use Rattle.lineage.specs.Answers.{plan_length_holds, row_tests, plan_tests, words_tests, flows_tests, flows_answer}
use Rattle.lineage.proofs.PlanLaws.{plan_length_law}
use Rattle.verdicts.specs.Answers.{user_tests, judge_tests, judge_answer}
use Rattle.verdicts.proofs.Sound.{mask_fits}
use Rattle.ledger.specs.Answers.{ledger_tests, count_tests, place_tests, number_tests, given_to}
use Rattle.ledger.specs.Answers.{ask_tests, ask_accesses, ask_mask, ask_answer, settle_tests, settle_answer}
use Rattle.ledger.specs.declared.Tally.{Tally}
use Rattle.ledger.specs.declared.Holds.{Holds}
use Rattle.ledger.proofs.CallLaws.{ask_cases, given_few, settle_cases}
use Rattle.search.specs.Answers.{rule_tests, buffer_tests, idle_tests, idleness_of, idle_answer}
use Rattle.search.specs.Alone.{First, none, shown, first_alone}
use Rattle.search.specs.Choices.{Candidate}
use Rattle.blocked.specs.Associations.{Pair}
use Rattle.blocked.specs.Open.{first_closed}
use Rattle.blocked.specs.Answers.{forbid_tests, blocked_tests, closed_answer, blocking_of, blocked_answer}
use Rattle.blocked.specs.Answers.{causes_of, culprits_answer}
use Rattle.editing.specs.Answers.{arrive_tests, arrival_tests, depart_tests, departure_tests}
use Rattle.editing.specs.Answers as edits
use Rattle.editing.specs.Books.{with_rule}
use Rattle.editing.specs.Record.{book_in}
use Rattle.trees.specs.Answers.{value_tests, room_tests, tree_row_tests, tree_tests, drawn, tree_answer}

-- a refusal that fits one byte for its number and one for its place
pub record Small (x : Refusal) : Type 0 where
  pub number_some : 1 ≤ number_of x
  pub number_small : number_of x < 256
  pub place_small : place_of x < 256

-- the numbers are 1 to 33
numbers : (x : Refusal) → (1 ≤ number_of x) × (number_of x < 256)
unfolding number_of
numbers BookLength = (omega arith, omega arith)
numbers (BlockCheck i) = (omega arith, omega arith)
numbers (BlockKind i) = (omega arith, omega arith)
numbers (CountOrZero i) = (omega arith, omega arith)
numbers (ParentOrOwn i) = (omega arith, omega arith)
numbers (LabelOrFunction i) = (omega arith, omega arith)
numbers (RuleNumber i) = (omega arith, omega arith)
numbers (SharedLeaf i) = (omega arith, omega arith)
numbers (MaskOperation i) = (omega arith, omega arith)
numbers BlockLength = (omega arith, omega arith)
numbers NoUser = (omega arith, omega arith)
numbers PlanLength = (omega arith, omega arith)
numbers (FaultyRow i) = (omega arith, omega arith)
numbers WordCount = (omega arith, omega arith)
numbers NoRule = (omega arith, omega arith)
numbers BufferLength = (omega arith, omega arith)
numbers RuleForbids = (omega arith, omega arith)
numbers LedgerLength = (omega arith, omega arith)
numbers CountsFull = (omega arith, omega arith)
numbers NoValueRow = (omega arith, omega arith)
numbers TreeSize = (omega arith, omega arith)
numbers PlacesFull = (omega arith, omega arith)
numbers NotHeld = (omega arith, omega arith)
numbers RulesFull = (omega arith, omega arith)

-- a list of tests that refuses so
abbrev pub Bounded : List Test → Type 0
Bounded tests = (x : Refusal) → first_failing tests ≡ Err x → Small x

-- The ways to build a list of tests

none_bounded : Bounded []
unfolding first_failing
none_bounded x h = refused_passed x tt (sym h)

-- what follows counts only where the test is passed
test_bounded :
    (refusal : Refusal) (passed : Bool) (tests : List Test)
    → place_of refusal < 256
    → (passed ≡ true → Bounded tests)
    → Bounded ((refusal, passed) ∷ tests)
unfolding first_failing
test_bounded refusal passed tests p rest x h = go passed refl h
  where
    go : (b : Bool) → passed ≡ b → cond b (first_failing tests) (Err refusal) ≡ Err x → Small x
    go true e a = rest e x a
    go false e a =
        let same : refusal ≡ x = cc in
        let n = numbers x in
        record { number_some = n.0; number_small = n.1; place_small = rw same at p }

last_bounded : (refusal : Refusal) (passed : Bool) → place_of refusal < 256 → Bounded ((refusal, passed) ∷ [])
last_bounded refusal passed p = test_bounded refusal passed [] p (λ e. none_bounded)

append_bounded : (a b : List Test) → Bounded a → (Passes a → Bounded b) → Bounded (a ++ b)
append_bounded a b first rest x h = go (first_failing a) refl (sym (first_append a b) ∙ h)
  where
    go : (f : Outcome) → first_failing a ≡ f → result_and f (first_failing b) ≡ Err x → Small x
    go (Ok done) e k = rest e x k
    go (Err r) e k = first x (e ∙ k)

module _ (tests : ℕ → List Test) where
  flat_bounded_from :
      (i n : ℕ) → ((j : ℕ) → j < i + n → Bounded (tests j)) → Bounded (flat tests (from i n))
  unfolding flat from
  flat_bounded_from i zero h = none_bounded
  flat_bounded_from i (suc n) h =
      append_bounded (tests i) (flat tests (from (suc i) n)) (h i (omega arith))
      (λ e. flat_bounded_from (suc i) n (λ j l. h j (omega arith)))

  flat_bounded : (n : ℕ) → ((j : ℕ) → j < n → Bounded (tests j)) → Bounded (flat tests (up_to n))
  unfolding up_to
  flat_bounded n h = flat_bounded_from 0 n (λ j l. h j (omega arith))

-- The tests of the book check: 1 to 9, at a block of a book whose length holds

two_bounded :
    (r s : Refusal) (a b : Bool) → place_of r < 256 → place_of s < 256 → Bounded ((r, a) ∷ (s, b) ∷ [])
two_bounded r s a b p q = test_bounded r a ((s, b) ∷ []) p (λ e. last_bounded s b q)

rule_bounded : (head rule : List ℕ) (i : ℕ) → i < 256 → Bounded (rule_block_tests head rule i)
unfolding rule_block_tests place_of
rule_bounded head rule i l = test_bounded _ _ _ l (λ e. test_bounded _ _ _ l (λ f. two_bounded _ _ _ _ l l))

block_bounded : (head block : List ℕ) (i : ℕ) → i < 256 → Bounded (block_tests head block i)
unfolding block_tests users_block_tests data_block_tests columns_block_tests functions_block_tests place_of
block_bounded head block zero l =
    two_bounded _ _ _ _ (omega arith) (omega arith)
block_bounded head block (suc zero) l =
    two_bounded _ _ _ _ (omega arith) (omega arith)
block_bounded head block (suc (suc zero)) l =
    two_bounded _ _ _ _ (omega arith) (omega arith)
block_bounded head block (suc (suc (suc zero))) l =
    two_bounded _ _ _ _ (omega arith) (omega arith)
block_bounded head block (suc (suc (suc (suc r)))) l = rule_bounded head block (4 + r) (omega arith)

module _ (book : List ℕ) where
  length_bounded : Bounded (length_tests book)
  unfolding length_tests place_of
  length_bounded = last_bounded BookLength (length_holds (length book)) (omega arith)

  few_blocks : Passes (length_tests book) → block_count book ≤ 256
  unfolding length_tests
  few_blocks h =
      let holds = length_true (length book) (last_passed BookLength (length_holds (length book)) h) in
      omega (arith, holds.2)

  by_block : (tests : ℕ → List Test) → block_count book ≤ 256 → ((i : ℕ) → i < 256 → Bounded (tests i)) → Bounded (block_by_block book tests)
  unfolding block_by_block
  by_block tests few h = flat_bounded tests (block_count book) (λ i l. h i (omega arith))

  pub book_bounded : Bounded (book_tests book)
  unfolding book_tests check_tests kind_tests content_tests place_of
  book_bounded =
      let checks = block_by_block book (check_tests book) in
      let kinds = block_by_block book (kind_tests book) in
      append_bounded (length_tests book ++ checks ++ kinds) (block_by_block book (content_tests book))
      (append_bounded (length_tests book ++ checks) kinds
      (append_bounded (length_tests book) checks length_bounded
      (λ e. by_block (check_tests book) (few_blocks e) (λ i l. last_bounded _ _ l)))
      (λ e.
      by_block (kind_tests book) (few_blocks (append_passed (length_tests book) checks e).0)
      (λ i l. last_bounded _ _ l)))
      (λ e.
      by_block (content_tests book)
      (few_blocks (append_passed (length_tests book) checks (append_passed (length_tests book ++ checks) kinds e).0).0)
      (λ i l. block_bounded (head_of book) (block_at book i) i l))

-- 21; 22 with a row of the plan, of which a plan whose length holds has at most 64
plan_bounded : (head plan : List ℕ) → Bounded (plan_tests head plan)
unfolding plan_tests row_tests place_of
plan_bounded head plan =
    test_bounded PlanLength (plan_length_holds (length plan)) (flat (row_tests head plan) (up_to (row_count plan)))
    (omega arith)
    (λ e.
    let short = plan_length_law (length plan) e in
    flat_bounded (row_tests head plan) (row_count plan)
    (λ i l. last_bounded _ _ (omega (arith, short.1))))

-- The thirteen calls

-- an answer is a refusal only where a test refuses
pub refused_small :
    {A : Type 0} (tests : List Test) (value : Result A Refusal)
    → ((x : Refusal) → value ≡ Err x → ⊥)
    → Bounded tests
    → (x : Refusal)
    → answered tests Err value ≡ Err x
    → Small x
unfolding answered refused_or
refused_small tests value other small x h = go (first_failing tests) refl h
  where
    go : (f : Outcome) → first_failing tests ≡ f → refused_or f Err value ≡ Err x → Small x
    go (Ok done) e k = absurd (other x k)
    go (Err r) e k = let same : r ≡ x = cc in small x (rw same at e)

-- a value is no refusal
pub value_refused : {A : Type 0} (value : A) (x : Refusal) → ◌≡◌ {A = Result A Refusal} (Ok value) (Err x) → ⊥
value_refused value x e = refused_passed x value (sym e)

pub check_small : (book : List ℕ) (x : Refusal) → check_answer book ≡ Err x → Small x
unfolding check_answer
check_small book =
    refused_small (book_tests book) (Ok (rule_count book)) (value_refused (rule_count book)) (book_bounded book)

pub seal_small : (block : List ℕ) (x : Refusal) → seal_answer block ≡ Err x → Small x
unfolding seal_answer seal_tests place_of
seal_small block =
    refused_small (seal_tests block) (Ok tt) (value_refused tt)
    (last_bounded BlockLength (eqb (length block) 512) (omega arith))

pub no_refusal : (head : List ℕ) (f : First Candidate) (x : Refusal) → idleness_of head f ≡ Err x → ⊥
unfolding idleness_of
no_refusal head none x e = value_refused _ x e
no_refusal head (shown c) x e = value_refused _ x e

pub never_refused : (f : First Pair) (x : Refusal) → blocking_of f ≡ Err x → ⊥
unfolding blocking_of closed_answer
never_refused none x e = value_refused _ x e
never_refused (shown p) x e = value_refused _ x e

pub no_cause_refused : (book : List ℕ) (r : ℕ) (f : First Pair) (x : Refusal) → causes_of book r f ≡ Err x → ⊥
unfolding causes_of
no_cause_refused book r none x e = value_refused _ x e
no_cause_refused book r (shown p) x e = value_refused _ x e

module _ (book : List ℕ) where
  pub flows_small : (plan words : List ℕ) (x : Refusal) → flows_answer book plan words ≡ Err x → Small x
  unfolding flows_answer flows_tests words_tests place_of
  flows_small plan words =
      refused_small (flows_tests book plan words) (Ok tt) (value_refused tt)
      (append_bounded (book_tests book ++ plan_tests (head_of book) plan) (words_tests words)
      (append_bounded (book_tests book) (plan_tests (head_of book) plan) (book_bounded book)
      (λ e. plan_bounded (head_of book) plan))
      (λ e. last_bounded _ _ (omega arith)))

  user_bounded : (user : ℕ) → Bounded (book_tests book ++ user_tests (head_of book) user)
  unfolding user_tests place_of
  user_bounded user =
      append_bounded (book_tests book) (user_tests (head_of book) user) (book_bounded book)
      (λ e. last_bounded _ _ (omega arith))

  judge_bounded : (user : ℕ) (plan : List ℕ) → Bounded (judge_tests book user plan)
  unfolding judge_tests
  judge_bounded user plan =
      append_bounded (book_tests book ++ user_tests (head_of book) user) (plan_tests (head_of book) plan)
      (user_bounded user) (λ e. plan_bounded (head_of book) plan)

  pub judge_small : (user : ℕ) (plan : List ℕ) (x : Refusal) → judge_answer book user plan ≡ Err x → Small x
  unfolding judge_answer
  judge_small user plan =
      refused_small (judge_tests book user plan) _ (value_refused _) (judge_bounded user plan)

  pub ask_bounded :
      (user : ℕ) (plan ledger : List ℕ) (tally : Tally) (holds : Holds)
      → Bounded (ask_tests book user plan ledger tally holds)
  unfolding ask_tests ledger_tests count_tests place_tests place_of
  ask_bounded user plan ledger tally holds =
      append_bounded (judge_tests book user plan ++ ledger_tests ledger ++ count_tests user tally holds) (place_tests holds)
      (append_bounded (judge_tests book user plan ++ ledger_tests ledger) (count_tests user tally holds)
      (append_bounded (judge_tests book user plan) (ledger_tests ledger) (judge_bounded user plan)
      (λ e. last_bounded _ _ (omega arith)))
      (λ e. last_bounded _ _ (omega arith)))
      (λ e. last_bounded _ _ (omega arith))

  pub settle_bounded :
      (user number : ℕ) (ledger : List ℕ) (holds : Holds) → Bounded (settle_tests book user number ledger holds)
  unfolding settle_tests ledger_tests number_tests place_of
  settle_bounded user number ledger holds =
      append_bounded (book_tests book ++ user_tests (head_of book) user ++ ledger_tests ledger)
      (number_tests user number holds)
      (append_bounded (book_tests book ++ user_tests (head_of book) user) (ledger_tests ledger) (user_bounded user)
      (λ e. last_bounded _ _ (omega arith)))
      (λ e. last_bounded _ _ (omega arith))

  pub idle_small : (r : ℕ) (buffer : List ℕ) (x : Refusal) → idle_answer book r buffer ≡ Err x → Small x
  unfolding idle_answer idle_tests rule_tests buffer_tests place_of
  idle_small r buffer =
      refused_small (idle_tests book r buffer) (idleness_of (head_of book) (first_alone book r))
      (no_refusal (head_of book) (first_alone book r))
      (append_bounded (book_tests book ++ rule_tests book r) (buffer_tests buffer)
      (append_bounded (book_tests book) (rule_tests book r) (book_bounded book)
      (λ e. last_bounded _ _ (omega arith)))
      (λ e. last_bounded _ _ (omega arith)))

  blocked_bounded : (r : ℕ) → Bounded (blocked_tests book r)
  unfolding blocked_tests rule_tests forbid_tests place_of
  blocked_bounded r =
      append_bounded (book_tests book ++ rule_tests book r) (forbid_tests (rule_at book r))
      (append_bounded (book_tests book) (rule_tests book r) (book_bounded book)
      (λ e. last_bounded _ _ (omega arith)))
      (λ e. last_bounded _ _ (omega arith))

  pub blocked_small : (r : ℕ) (x : Refusal) → blocked_answer book r ≡ Err x → Small x
  unfolding blocked_answer
  blocked_small r =
      refused_small (blocked_tests book r) (blocking_of (first_closed book r))
      (never_refused (first_closed book r)) (blocked_bounded r)

  pub culprits_small : (r : ℕ) (x : Refusal) → culprits_answer book r ≡ Err x → Small x
  unfolding culprits_answer
  culprits_small r =
      refused_small (blocked_tests book r) (causes_of book r (first_closed book r))
      (no_cause_refused book r (first_closed book r)) (blocked_bounded r)

  pub tree_small :
      (plan : List ℕ) (row : ℕ) (buffer : List ℕ) (x : Refusal)
      → tree_answer book plan row buffer ≡ Err x
      → Small x
  unfolding tree_answer tree_tests tree_row_tests value_tests room_tests place_of
  tree_small plan row buffer =
      refused_small (tree_tests book plan row buffer) (Ok (drawn plan row)) (value_refused (drawn plan row))
      (append_bounded (tree_row_tests book plan row) (room_tests plan row buffer)
      (append_bounded (book_tests book ++ plan_tests (head_of book) plan) (value_tests plan row)
      (append_bounded (book_tests book) (plan_tests (head_of book) plan) (book_bounded book)
      (λ e. plan_bounded (head_of book) plan))
      (λ e. last_bounded _ _ (omega arith)))
      (λ e. last_bounded _ _ (omega arith)))

-- 33; 1 for the new block; then those of the book with it
pub arrive_bounded : (blocks : List ℕ) (rules : ℕ) (block : List ℕ) → Bounded (arrive_tests blocks rules block)
unfolding arrive_tests arrival_tests edits.room_tests edits.new_block_tests place_of
arrive_bounded blocks rules block =
    append_bounded (edits.room_tests rules ++ edits.new_block_tests block) (book_tests (with_rule (book_in blocks rules) block))
    (append_bounded (edits.room_tests rules) (edits.new_block_tests block)
    (last_bounded _ _ (omega arith))
    (λ e. last_bounded _ _ (omega arith)))
    (λ e. book_bounded (with_rule (book_in blocks rules) block))

-- 1 for the number of rules; those of the book; 24
pub depart_bounded : (blocks : List ℕ) (rules r : ℕ) → Bounded (depart_tests blocks rules r)
unfolding depart_tests departure_tests edits.number_tests rule_tests place_of
depart_bounded blocks rules r =
    let book = book_in blocks rules in
    append_bounded (edits.number_tests rules ++ book_tests book) (rule_tests book r)
    (append_bounded (edits.number_tests rules) (book_tests book)
    (last_bounded _ _ (omega arith))
    (λ e. book_bounded book))
    (λ e. last_bounded _ _ (omega arith))

-- The replies of the three calls of the ledger, by cases

module _ (book : List ℕ) (user : ℕ) (plan ledger : List ℕ) (tally : Tally) (holds : Holds) where
  -- a refusal, a number from 1 to 1,000,000, or a mask of 32 bits that is not 0
  pub ask_replies :
      (P : Result Asked Refusal → Type 0)
      → ((x : Refusal) → Small x → P (Err x))
      → ((number : ℕ) → 1 ≤ number → number ≤ 1000000 → P (Ok (Held number)))
      → ((mask : ℕ) → 0 < mask → mask < 4294967296 → P (Ok (Declined mask)))
      → P (ask_answer book user plan ledger tally holds)
  unfolding ask_answer answered refused_or ask_mask
  ask_replies P refused held declined =
      ask_cases book user plan ledger tally holds
      (λ t b.
      P
      (refused_or t Err
      (Ok
      (cond b (Held (given_to user tally holds + 1))
      (Declined (ask_mask book user plan ledger tally holds))))))
      (λ x b e. refused x (ask_bounded book user plan ledger tally holds x e))
      (λ given zero.
      let few = given_few book user plan ledger tally holds given in
      held (given_to user tally holds + 1) (omega arith) (omega arith))
      (λ given some.
      declined (ask_mask book user plan ledger tally holds) (omega (arith, some))
      (mask_fits book given.judge_accepted.book_accepted user (ask_accesses book user plan ledger tally holds)))

  pub ask_small : (x : Refusal) → ask_answer book user plan ledger tally holds ≡ Err x → Small x
  ask_small x =
      ask_replies (λ a. a ≡ Err x → Small x)
      (λ y s e. let same : y ≡ x = cc in subst Small same s)
      (λ n some most e. absurd (value_refused (Held n) x e))
      (λ m some low e. absurd (value_refused (Declined m) x e))

module _ (book : List ℕ) (user number : ℕ) (ledger : List ℕ) (holds : Holds) where
  -- a refusal, or the number given
  pub settle_replies :
      (P : Result ℕ Refusal → Type 0)
      → ((x : Refusal) → Small x → P (Err x))
      → P (Ok number)
      → P (settle_answer book user number ledger holds)
  unfolding settle_answer answered refused_or
  settle_replies P refused settled =
      settle_cases book user number ledger holds (λ t. P (refused_or t Err (Ok number)))
      (λ x e. refused x (settle_bounded book user number ledger holds x e)) (λ given. settled)

  pub settle_small : (x : Refusal) → settle_answer book user number ledger holds ≡ Err x → Small x
  settle_small x =
      settle_replies (λ a. a ≡ Err x → Small x) (λ y s e. let same : y ≡ x = cc in subst Small same s)
      (λ e. absurd (value_refused number x e))
