-- A call's number can be taken apart again: the refusal's number, its place and the value are the answer's own, so two
-- different answers are never one number. Assumes nothing.
use Prim.Native.Nat.{ℕ, zero, suc, ◌+◌, ◌-◌, ◌*◌, ◌/◌, ◌%◌, ◌^◌, ◌≤◌, ◌<◌}
use native.Mathlib.Omega.{arith}
use mathlib.Core.Path.{◌≡◌, refl, sym, ap, ◌∙◌}
use mathlib.Core.Bool.{Bool, true, false, cond, false≢true}
use mathlib.Core.List.{List, [], ◌∷◌, ◌++◌}
use lib.ListN.{length, length-append}
use lib.Dec.{eqb}
use Rattle.std.specs.Prelude.{Some, Result, Ok, Err}
use Rattle.book.specs.Sets.{has}
use Rattle.book.specs.Blocks.{head_of, rule_at, rule_count}
use Rattle.book.specs.Head.{data_count, user_count}
use Rattle.book.specs.Rule.{reference_count}
use Rattle.book.specs.Answers.{check_answer, seal_answer}
use Rattle.book.specs.Numbers.{number_of, place_of}
use Rattle.book.specs.declared.refusal.Refusal.{Refusal}
use Rattle.book.specs.declared.refusal.Refusal.TheVariants.{BookLength, BlockCheck, BlockKind, CountOrZero, ParentOrOwn}
use Rattle.book.specs.declared.refusal.Refusal.TheVariants.{LabelOrFunction, RuleNumber, SharedLeaf, MaskOperation}
use Rattle.book.specs.declared.refusal.Refusal.TheVariants.{BlockLength, NoUser, PlanLength, FaultyRow, WordCount, NoRule}
use Rattle.book.specs.declared.refusal.Refusal.TheVariants.{BufferLength, RuleForbids, LedgerLength, CountsFull}
use Rattle.book.specs.declared.refusal.Refusal.TheVariants.{NoValueRow, TreeSize, PlacesFull, NotHeld, RulesFull}
use Rattle.book.proofs.Accepted.{accepted_head, accepted_length, accepted_rule}
use Rattle.book.proofs.CheckLaws.{accepted_passes}
use Rattle.book.proofs.Lists.{and_both}
use Rattle.lineage.specs.Rows.{row_count}
use Rattle.lineage.specs.Answers.{flows_answer}
use Rattle.verdicts.specs.Accesses.{Access, accesses_of}
use Rattle.verdicts.specs.Breaking.{broken_mask}
use Rattle.verdicts.specs.Answers.{broken, judge_answer}
use Rattle.verdicts.specs.declared.Broken.{Broken}
use Rattle.verdicts.proofs.Gate.{judged_accepted}
use Rattle.verdicts.proofs.JudgeLaws.{judge_answer_law, judge_passes}
use Rattle.verdicts.proofs.Sound.{mask_fits}
use Rattle.verdicts.proofs.Users.{user_below}
use Rattle.ledger.specs.Answers.{ask_answer, settle_answer}
use Rattle.ledger.specs.declared.Tally.{Tally}
use Rattle.ledger.specs.declared.Holds.{Holds}
use Rattle.ledger.specs.declared.Asked.{Asked}
use Rattle.ledger.specs.declared.Asked.TheVariants.{Held, Declined}
use Rattle.search.specs.Choices.{Candidate, is_choice, is_choice_from}
use Rattle.search.specs.Shown.{shown_plan, shown_from, access_rows, column_row, apply_row, last_row, rows_of}
use Rattle.search.specs.Alone.{First, none, shown, first_alone}
use Rattle.search.specs.Answers.{idleness_of, idle_answer, needed}
use Rattle.search.specs.declared.Shown.{Shown}
use Rattle.search.specs.Demand.{IdleAccepted}
use Rattle.search.proofs.DemandLaws.{idle_answer_law}
use Rattle.search.proofs.IdleLaws.{idle_told}
use Rattle.search.proofs.Orders.{shown_alone}
use Rattle.search.proofs.ShownPlans.{shown_few}
use Rattle.blocked.specs.Associations.{Datum, Pair, in_scope_at, is_association, is_association_from}
use Rattle.blocked.specs.Few.{with_asking}
use Rattle.blocked.specs.Answers.{Blocking, datum_byte, closed_answer, blocked_answer, culprits_answer, few_answer}
use Rattle.blocked.specs.declared.Closed.{Closed}
use Rattle.blocked.specs.Demand.{InScope}
use Rattle.blocked.proofs.DemandLaws.{blocked_told, demand}
use Rattle.blocked.proofs.ScopeLaws.{covers_user_law, datum_bounds}
use Rattle.blocked.proofs.FewLaws.{culprits_mask}
use Rattle.trees.specs.Answers.{tree_answer}
use Rattle.trees.proofs.DemandLaws.{answer_draws}
use Rattle.capi.specs.Packing.{packed, refusal_packed, check_packed, seal_packed, flows_packed, judge_packed, judge_value}
use Rattle.capi.specs.Packing.{idle_packed, idle_value, blocked_packed, blocked_value, culprits_packed, culprits_value}
use Rattle.capi.specs.Packing.{reply_packed, asked_value, settle_packed, number_value, tree_packed, tree_value}
use Rattle.capi.proofs.Bounds.{Small, check_small, seal_small, flows_small, judge_small, idle_small}
use Rattle.capi.proofs.Bounds.{blocked_small, culprits_small, ask_small, settle_small, tree_small}
use Rattle.capi.proofs.Bounds.{ask_replies, settle_replies, value_refused}
use Rattle.capi.proofs.Masks.{asking_bits, asking_fits, asking_some}

-- what is taken out of r: the bits from 40 on, the 8 bits from 32 on, the low 32 bits
pub record Parts (r number place value : ℕ) : Type 0 where
  pub number_part : r / 1099511627776 ≡ number
  pub place_part : r / 4294967296 % 256 ≡ place
  pub value_part : r % 4294967296 ≡ value

pub packed_parts :
    (number place value : ℕ) → place < 256 → value < 4294967296 → Parts (packed number place value) number place value
unfolding packed
packed_parts number place value p v =
    record { number_part = omega arith; place_part = omega arith; value_part = omega arith }

-- Refusals: the number is not 0, so r is no other answer's

-- r is a refusal's
abbrev pub Refuses : ℕ → Refusal → Type 0
Refuses r x = Parts r (number_of x) (place_of x) 0 × (1 ≤ number_of x)

pub refusal_parts : (x : Refusal) → Small x → Refuses (refusal_packed x) x
unfolding refusal_packed
refusal_parts x s = (packed_parts (number_of x) (place_of x) 0 s.place_small (omega arith), s.number_some)

-- the least refusal has number 1 and place 0
pub refusal_past : (x : Refusal) → Small x → 1099511627776 ≤ refusal_packed x
unfolding refusal_packed packed
refusal_past x s = let n = s.number_some in omega arith

module _ (x : Refusal) where
  pub check_refused_parts :
      (book : List ℕ) → check_answer book ≡ Err x → Refuses (check_packed (check_answer book)) x
  unfolding check_packed
  check_refused_parts book h = rw h (refusal_parts x (check_small book x h))

  pub seal_refused_parts :
      (block : List ℕ) → seal_answer block ≡ Err x → Refuses (seal_packed (seal_answer block)) x
  unfolding seal_packed
  seal_refused_parts block h = rw h (refusal_parts x (seal_small block x h))

  pub flows_refused_parts :
      (book plan words : List ℕ)
      → flows_answer book plan words ≡ Err x
      → Refuses (flows_packed (flows_answer book plan words)) x
  unfolding flows_packed
  flows_refused_parts book plan words h = rw h (refusal_parts x (flows_small book plan words x h))

  pub judge_refused_parts :
      (book : List ℕ) (user : ℕ) (plan : List ℕ)
      → judge_answer book user plan ≡ Err x
      → Refuses (judge_packed (judge_answer book user plan)) x
  unfolding judge_packed
  judge_refused_parts book user plan h = rw h (refusal_parts x (judge_small book user plan x h))

  pub idle_refused_parts :
      (book : List ℕ) (r : ℕ) (buffer : List ℕ)
      → idle_answer book r buffer ≡ Err x
      → Refuses (idle_packed (idle_answer book r buffer)) x
  unfolding idle_packed
  idle_refused_parts book r buffer h = rw h (refusal_parts x (idle_small book r buffer x h))

  pub blocked_refused_parts :
      (book : List ℕ) (r : ℕ)
      → blocked_answer book r ≡ Err x
      → Refuses (blocked_packed (blocked_answer book r)) x
  unfolding blocked_packed
  blocked_refused_parts book r h = rw h (refusal_parts x (blocked_small book r x h))

  pub culprits_refused_parts :
      (book : List ℕ) (r : ℕ)
      → culprits_answer book r ≡ Err x
      → Refuses (culprits_packed r (culprits_answer book r)) x
  unfolding culprits_packed
  culprits_refused_parts book r h = rw h (refusal_parts x (culprits_small book r x h))

  pub ask_refused_parts :
      (book : List ℕ) (user : ℕ) (plan ledger : List ℕ) (tally : Tally) (holds : Holds)
      → ask_answer book user plan ledger tally holds ≡ Err x
      → Refuses (reply_packed (ask_answer book user plan ledger tally holds)) x
  unfolding reply_packed
  ask_refused_parts book user plan ledger tally holds h =
      rw h (refusal_parts x (ask_small book user plan ledger tally holds x h))

  pub settle_refused_parts :
      (book : List ℕ) (user number : ℕ) (ledger : List ℕ) (holds : Holds)
      → settle_answer book user number ledger holds ≡ Err x
      → Refuses (settle_packed (settle_answer book user number ledger holds)) x
  unfolding settle_packed
  settle_refused_parts book user number ledger holds h =
      rw h (refusal_parts x (settle_small book user number ledger holds x h))

  pub tree_refused_parts :
      (book plan : List ℕ) (row : ℕ) (buffer : List ℕ)
      → tree_answer book plan row buffer ≡ Err x
      → Refuses (tree_packed (tree_answer book plan row buffer)) x
  unfolding tree_packed
  tree_refused_parts book plan row buffer h = rw h (refusal_parts x (tree_small book plan row buffer x h))

-- Book check: the number of rules

pub check_parts :
    (book : List ℕ) (n : ℕ)
    → check_answer book ≡ Ok n
    → Parts (check_packed (check_answer book)) 0 0 n × (n ≤ 32)
unfolding check_packed number_value
check_parts book n h =
    let told = accepted_passes book n h in
    let most = (accepted_length book told.0).1 in
    let e = told.1 in
    (rw h (packed_parts 0 0 n (omega arith) (omega arith)), omega arith)

-- Judge: the mask has 32 bits

-- answers that are the same say the same
same_mask : (a b : ℕ) → broken a ≡ broken b → a ≡ b
same_mask a b e = let same : ◌≡◌ {A = Broken} (record { mask = a }) (record { mask = b }) = cc in ap (λ (x : Broken). x.mask) same

pub same_shown : (u n v m : ℕ) → needed u n ≡ needed v m → (u ≡ v) × (n ≡ m)
same_shown u n v m e =
    let same : ◌≡◌ {A = Shown} (record { user = u; rows = n }) (record { user = v; rows = m }) = cc in
    (ap (λ (x : Shown). x.user) same, ap (λ (x : Shown). x.rows) same)

pub judge_mask :
    (book : List ℕ) (user : ℕ) (plan : List ℕ) (mask : ℕ)
    → judge_answer book user plan ≡ broken mask
    → mask < 4294967296
judge_mask book user plan mask h =
    let given = judged_accepted book user plan mask h in
    let same : mask ≡ broken_mask book user (accesses_of (head_of book) plan) =
    same_mask mask _ (sym h ∙ judge_answer_law book user plan (judge_passes book user plan given)) in
    rw same (mask_fits book given.book_accepted user (accesses_of (head_of book) plan))

pub judge_parts :
    (book : List ℕ) (user : ℕ) (plan : List ℕ) (mask : ℕ)
    → judge_answer book user plan ≡ broken mask
    → Parts (judge_packed (judge_answer book user plan)) 0 0 mask
unfolding judge_packed judge_value
judge_parts book user plan mask h = rw h (packed_parts 0 0 mask (omega arith) (judge_mask book user plan mask h))

-- Idle: user and rows are small, and there are rows, so that r is not idle's 0

row_there : (b : Bool) (x y rest : List ℕ) → 4 ≤ length x → 4 ≤ length y → 4 ≤ length (cond b x y ++ rest)
row_there true x y rest hx hy = rw length-append (omega arith)
row_there false x y rest hx hy = rw length-append (omega arith)

-- an access has a Column row and one that names it
rows_some :
    (head rule : List ℕ) (choice : List Access)
    → 1 ≤ reference_count rule
    → is_choice head rule choice ≡ true
    → 2 ≤ row_count (shown_plan head choice)
unfolding is_choice is_choice_from shown_plan shown_from access_rows column_row apply_row last_row
rows_some head rule choice some h = go (reference_count rule) choice some h
  where
    go : (n : ℕ) (c : List Access) → 1 ≤ n → is_choice_from head rule n 0 c ≡ true → 2 ≤ row_count (shown_from head 0 c)
    go zero c l e = absurd (omega arith)
    go (suc n) [] l e = absurd (false≢true e)
    go (suc n) (x ∷ c) l e =
        let next =
        row_there (eqb x.operation 0) (last_row 0 x.channel)
        (apply_row head 0 x.operation ++ last_row 1 x.channel) (shown_from head (0 + rows_of x) c) (omega arith)
        (omega arith) in
        omega arith

pub idle_parts :
    (book : List ℕ) (r : ℕ) (buffer : List ℕ) (user rows : ℕ)
    → idle_answer book r buffer ≡ needed user rows
    → Parts (idle_packed (idle_answer book r buffer)) 0 0 (256 * user + rows)
    × (user < 32)
    × (2 ≤ rows)
    × (rows ≤ 9)
unfolding idle_packed idle_value idleness_of
idle_parts book r buffer user rows h =
    let given = idle_told book r buffer (λ x e. value_refused _ x (sym h ∙ e)) in
    let s = go (first_alone book r) refl given (sym (idle_answer_law book r buffer given) ∙ h) in
    (rw h (packed_parts 0 0 (256 * user + rows) (omega arith) (omega arith)), s.0, s.1, s.2)
  where
    go :
        (f : First Candidate)
        → first_alone book r ≡ f
        → IdleAccepted book r buffer
        → idleness_of (head_of book) f ≡ needed user rows
        → (user < 32) × (2 ≤ rows) × (rows ≤ 9)
    go none g given a = let z : ◌≡◌ {A = ℕ} 0 1 = cc in absurd (omega arith)
    go (shown c) g given a =
        let k = same_shown c.user (row_count (shown_plan (head_of book) c.choice)) user rows a in
        let eu = k.0 in
        let er = k.1 in
        let accepted = given.book_accepted in
        let there : r < rule_count book = given.rule_there in
        let rule = accepted_rule book accepted r there in
        let head = accepted_head book accepted in
        let s = shown_alone book accepted r there c g in
        let below = user_below (head_of book) c.user s.0 in
        let most : user_count (head_of book) ≤ 32 = head.users_most in
        let some = rows_some (head_of book) (rule_at book r) c.choice rule.references_some s.1 in
        let few = shown_few (head_of book) (rule_at book r) head rule.references_most c.choice s.1 in
        (omega arith, omega arith, omega arith)

-- Blocked: the user is small, each byte is one, and the first is not 0, so that r is not open's 0

module _ (head rule : List ℕ) (most : data_count head ≤ 64) where
  bytes_small :
      (n i : ℕ) (a : List Datum) → is_association_from head rule n i a ≡ true → (j : ℕ) → datum_byte a j < 256
  unfolding is_association_from datum_byte
  bytes_small n i [] h j = omega arith
  bytes_small zero i (x ∷ a) h j = absurd (false≢true h)
  bytes_small (suc n) i (x ∷ a) h zero =
      let b = and_both (in_scope_at head rule i x) (is_association_from head rule n (suc i) a) h in
      let bounds = datum_bounds head rule i x b.0 in
      omega arith
  bytes_small (suc n) i (x ∷ a) h (suc j) =
      bytes_small n (suc i) a (and_both (in_scope_at head rule i x) (is_association_from head rule n (suc i) a) h).1 j

first_some :
    (head rule : List ℕ) (n : ℕ) (a : List Datum)
    → 1 ≤ n
    → is_association_from head rule n 0 a ≡ true
    → 128 ≤ datum_byte a 0
unfolding is_association_from datum_byte
first_some head rule zero a l h = absurd (omega arith)
first_some head rule (suc n) [] l h = absurd (false≢true h)
first_some head rule (suc n) (x ∷ a) l h = omega arith

-- the answer of a user and three bytes
abbrev pub closed : (user first second third : ℕ) → Blocking
closed user first second third = Ok (Some (record { user = user; first = first; second = second; third = third }))

pub same_closed :
    (user first second third : ℕ) (p : Pair)
    → closed user first second third ≡ closed_answer p
    → (user ≡ p.user)
    × (first ≡ datum_byte p.association 0)
    × (second ≡ datum_byte p.association 1)
    × (third ≡ datum_byte p.association 2)
unfolding closed_answer
same_closed user first second third p e =
    let same : ◌≡◌ {A = Closed}
    (record { user = user; first = first; second = second; third = third })
    (record {
      user = p.user;
      first = datum_byte p.association 0;
      second = datum_byte p.association 1;
      third = datum_byte p.association 2;
    }) = cc in (
      ap (λ (x : Closed). x.user) same,
      ap (λ (x : Closed). x.first) same,
      ap (λ (x : Closed). x.second) same,
      ap (λ (x : Closed). x.third) same,
    )

-- a user and three bytes that go apart again
pub record Bytes (user first second third : ℕ) : Type 0 where
  pub user_small : user < 32
  pub first_there : 128 ≤ first
  pub first_small : first < 256
  pub second_small : second < 256
  pub third_small : third < 256

pub blocked_bytes :
    (book : List ℕ) (r user first second third : ℕ)
    → blocked_answer book r ≡ closed user first second third
    → Bytes user first second third
unfolding closed_answer is_association
blocked_bytes book r user first second third h =
    let given = blocked_told book r (λ x e. value_refused _ x (sym h ∙ e)) in
    let told =
    (demand book r given).otherwise (λ e. let k = sym h ∙ e in let z : ◌≡◌ {A = ℕ} 0 1 = cc in omega arith) in
    let p : Pair = told.0 in
    let k : closed user first second third ≡ closed_answer p = sym h ∙ told.1 in
    let same = same_closed user first second third p k in
    let within : InScope (head_of book) (rule_at book r) p = told.2.scope in
    let rule = accepted_rule book given.book_accepted r given.rule_there in
    let head = accepted_head book given.book_accepted in
    let covered = covers_user_law (head_of book) (rule_at book r) p.user within.covered in
    let below = user_below (head_of book) p.user covered in
    let most : user_count (head_of book) ≤ 32 = head.users_most in
    let small =
    bytes_small (head_of book) (rule_at book r) head.data_most (reference_count (rule_at book r)) 0 p.association
    within.association in
    let some =
    first_some (head_of book) (rule_at book r) (reference_count (rule_at book r)) p.association rule.references_some
    within.association in
    let eu : user ≡ p.user = same.0 in
    let ea : first ≡ datum_byte p.association 0 = same.1 in
    let eb : second ≡ datum_byte p.association 1 = same.2 in
    let ec : third ≡ datum_byte p.association 2 = same.3 in
    record {
      user_small = omega arith;
      first_there = rw ea some;
      first_small = rw ea (small 0);
      second_small = rw eb (small 1);
      third_small = rw ec (small 2);
    }

pub blocked_parts :
    (book : List ℕ) (r user first second third : ℕ)
    → blocked_answer book r ≡ closed user first second third
    → Parts (blocked_packed (blocked_answer book r)) 0 0 (16777216 * user + first + 256 * second + 65536 * third)
    × Bytes user first second third
unfolding blocked_packed blocked_value
blocked_parts book r user first second third h =
    let b = blocked_bytes book r user first second third h in
    (rw h (packed_parts 0 0 (16777216 * user + first + 256 * second + 65536 * third) (omega arith) (omega arith)), b)

-- Culprits: the rules have 32 bits, and the asking one is among them, so that r is not unblocked's 0

pub culprits_parts :
    (book : List ℕ) (r mask : ℕ)
    → culprits_answer book r ≡ few_answer mask
    → Parts (culprits_packed r (culprits_answer book r)) 0 0 (mask + 2 ^ r)
    × (0 < mask + 2 ^ r)
    × ((q : ℕ) → has (mask + 2 ^ r) q ≡ with_asking r (has mask) q)
unfolding culprits_packed culprits_value
culprits_parts book r mask h =
    let m = culprits_mask book r mask h in (
      rw h (packed_parts 0 0 (mask + 2 ^ r) (omega arith) (asking_fits mask r m.2 m.1 m.3)),
      asking_some mask r m.2 m.1 m.3,
      asking_bits mask r m.2 m.1 m.3,
    )

-- Ask: a held plan has bit 32 and a number from 1 to 1,000,000, a declined one a mask of 32 bits that is not 0

module _ (book : List ℕ) (user : ℕ) (plan ledger : List ℕ) (tally : Tally) (holds : Holds) where
  pub held_parts :
      (number : ℕ)
      → ask_answer book user plan ledger tally holds ≡ Ok (Held number)
      → Parts (reply_packed (ask_answer book user plan ledger tally holds)) 0 1 number
      × (1 ≤ number)
      × (number ≤ 1000000)
  unfolding reply_packed asked_value
  held_parts number =
      ask_replies book user plan ledger tally holds
      (λ a. a ≡ Ok (Held number) → Parts (reply_packed a) 0 1 number × (1 ≤ number) × (number ≤ 1000000))
      (λ x s e. let z : ◌≡◌ {A = ℕ} 0 1 = cc in absurd (omega arith))
      (λ n some most e.
      let same : n ≡ number = cc in
      rw same (packed_parts 0 1 number (omega arith) (omega arith), omega arith, omega arith))
      (λ m some low e. let z : ◌≡◌ {A = ℕ} 0 1 = cc in absurd (omega arith))

  pub declined_parts :
      (mask : ℕ)
      → ask_answer book user plan ledger tally holds ≡ Ok (Declined mask)
      → Parts (reply_packed (ask_answer book user plan ledger tally holds)) 0 0 mask × (0 < mask)
  unfolding reply_packed asked_value
  declined_parts mask =
      ask_replies book user plan ledger tally holds
      (λ a. a ≡ Ok (Declined mask) → Parts (reply_packed a) 0 0 mask × (0 < mask))
      (λ x s e. let z : ◌≡◌ {A = ℕ} 0 1 = cc in absurd (omega arith))
      (λ n some most e. let z : ◌≡◌ {A = ℕ} 0 1 = cc in absurd (omega arith))
      (λ m some low e.
      let same : m ≡ mask = cc in
      rw same (packed_parts 0 0 mask (omega arith) (omega arith), omega arith))

-- the refusal of a number and a place
unfoldable pub refusal_at : (number place : ℕ) → Refusal
refusal_at number place =
    cond (eqb number 1) BookLength
    (cond (eqb number 2) (BlockCheck place)
    (cond (eqb number 3) (BlockKind place)
    (cond (eqb number 4) (CountOrZero place)
    (cond (eqb number 5) (ParentOrOwn place)
    (cond (eqb number 6) (LabelOrFunction place)
    (cond (eqb number 7) (RuleNumber place)
    (cond (eqb number 8) (SharedLeaf place)
    (cond (eqb number 9) (MaskOperation place)
    (cond (eqb number 10) BlockLength
    (cond (eqb number 20) NoUser
    (cond (eqb number 21) PlanLength
    (cond (eqb number 22) (FaultyRow place)
    (cond (eqb number 23) WordCount
    (cond (eqb number 24) NoRule
    (cond (eqb number 25) BufferLength
    (cond (eqb number 26) RuleForbids
    (cond (eqb number 27) LedgerLength
    (cond (eqb number 28) CountsFull
    (cond (eqb number 29) NoValueRow
    (cond (eqb number 30) TreeSize
    (cond (eqb number 31) PlacesFull
    (cond (eqb number 32) NotHeld RulesFull))))))))))))))))))))))

-- each refusal is that of its own
refusal_back : (x : Refusal) → refusal_at (number_of x) (place_of x) ≡ x
unfolding refusal_at number_of place_of
refusal_back BookLength = refl
refusal_back (BlockCheck i) = refl
refusal_back (BlockKind i) = refl
refusal_back (CountOrZero i) = refl
refusal_back (ParentOrOwn i) = refl
refusal_back (LabelOrFunction i) = refl
refusal_back (RuleNumber i) = refl
refusal_back (SharedLeaf i) = refl
refusal_back (MaskOperation i) = refl
refusal_back BlockLength = refl
refusal_back NoUser = refl
refusal_back PlanLength = refl
refusal_back (FaultyRow i) = refl
refusal_back WordCount = refl
refusal_back NoRule = refl
refusal_back BufferLength = refl
refusal_back RuleForbids = refl
refusal_back LedgerLength = refl
refusal_back CountsFull = refl
refusal_back NoValueRow = refl
refusal_back TreeSize = refl
refusal_back PlacesFull = refl
refusal_back NotHeld = refl
refusal_back RulesFull = refl

-- a refusal, as it is read from its number
abbrev pub read_refusal : ℕ → Refusal
read_refusal answer = refusal_at (answer / 1099511627776) (answer / 4294967296 % 256)

-- an answer says a refusal: the one that is read, whose number and place are those that stand in the answer
abbrev pub ReadRefused : {A : Type 0} (answer : ℕ) (said : Result A Refusal) → Type 0
ReadRefused answer said =
    (said ≡ Err (read_refusal answer))
    × (number_of (read_refusal answer) ≡ answer / 1099511627776)
    × (place_of (read_refusal answer) ≡ answer / 4294967296 % 256)

refusal_read : {A : Type 0} (x : Refusal) → Small x → ReadRefused {A = A} (refusal_packed x) (Err x)
refusal_read x s =
    let p = (refusal_parts x s).0 in
    let same : read_refusal (refusal_packed x) ≡ x = rw (p.number_part, p.place_part) (refusal_back x) in
    (ap Err (sym same), ap number_of same ∙ sym p.number_part, ap place_of same ∙ sym p.place_part)

-- the reply, as it is read from the number of pspec_ask
pub record AskRead (answer : ℕ) (said : Result Asked Refusal) : Type 0 where
  -- below 2^32: declined, with the number itself as the mask, which is not 0
  pub declined : answer < 4294967296 → (said ≡ Ok (Declined answer)) × (0 < answer)
  -- bit 32 and none above it: held, with the low 32 bits as the hold's number
  pub held :
      answer / 4294967296 ≡ 1
      → (said ≡ Ok (Held (answer % 4294967296)))
      × (1 ≤ answer % 4294967296)
      × (answer % 4294967296 ≤ 1000000)
  -- from 2^40 on: refused
  pub refused : 1099511627776 ≤ answer → ReadRefused answer said
  -- and there is no other number
  pub no_other : answer < 1099511627776 → answer / 4294967296 ≤ 1

pub ask_read :
    (book : List ℕ) (user : ℕ) (plan ledger : List ℕ) (tally : Tally) (holds : Holds)
    → AskRead (reply_packed (ask_answer book user plan ledger tally holds))
    (ask_answer book user plan ledger tally holds)
unfolding reply_packed asked_value
ask_read book user plan ledger tally holds =
    ask_replies book user plan ledger tally holds (λ a. AskRead (reply_packed a) a)
    (λ x s.
    let past = refusal_past x s in
    record {
      declined = λ l. absurd (omega arith);
      held = λ e. absurd (omega arith);
      refused = λ l. refusal_read x s;
      no_other = λ l. absurd (omega arith);
    })
    (λ n some most.
    let p = packed_parts 0 1 n (omega arith) (omega arith) in
    let quotient = p.number_part in
    let place = p.place_part in
    let value = p.value_part in
    record {
      declined = λ l. absurd (omega arith);
      held = λ e. (rw value, rw value (omega arith), rw value (omega arith));
      refused = λ l. absurd (omega arith);
      no_other = λ l. omega arith;
    })
    (λ m some low.
    let p = packed_parts 0 0 m (omega arith) (omega arith) in
    let quotient = p.number_part in
    let place = p.place_part in
    let value = p.value_part in
    let same : packed 0 0 m ≡ m = omega arith in
    record {
      declined = λ l. rw same (refl, some);
      held = λ e. absurd (omega arith);
      refused = λ l. absurd (omega arith);
      no_other = λ l. omega arith;
    })

-- Commit and Drop: a number of 32 bits

-- the reply, as it is read from the number of pspec_commit or pspec_drop
pub record SettleRead (answer : ℕ) (said : Result ℕ Refusal) : Type 0 where
  -- below 2^32: done, with the number itself as the hold's
  pub settled : answer < 4294967296 → said ≡ Ok answer
  -- from there on: refused
  pub refused : 4294967296 ≤ answer → ReadRefused answer said

module _ (book : List ℕ) (user number : ℕ) (ledger : List ℕ) (holds : Holds) (fits : number < 4294967296) where
  pub settled_parts :
      settle_answer book user number ledger holds ≡ Ok number
      → Parts (settle_packed (settle_answer book user number ledger holds)) 0 0 number
  unfolding settle_packed number_value
  settled_parts h = rw h (packed_parts 0 0 number (omega arith) fits)

  pub settle_read :
      SettleRead (settle_packed (settle_answer book user number ledger holds))
      (settle_answer book user number ledger holds)
  unfolding settle_packed number_value packed
  settle_read =
      settle_replies book user number ledger holds (λ a. SettleRead (settle_packed a) a)
      (λ x s.
      let past = refusal_past x s in
      record { settled = λ l. absurd (omega arith); refused = λ l. refusal_read x s })
      (let same : packed 0 0 number ≡ number = omega arith in
      record { settled = λ l. rw same; refused = λ l. absurd (omega arith) })

-- Tree: 1 to 4,096 nodes of at most 136 bytes, which go apart again

module _ (book plan : List ℕ) (row : ℕ) (buffer : List ℕ) (nodes length : ℕ)
    (h : tree_answer book plan row buffer ≡ Ok (record { nodes = nodes; length = length })) where
  abbrev value : ℕ
  value = 1048576 * (nodes - 1) + length

  pub tree_parts :
      Parts (tree_packed (tree_answer book plan row buffer)) 0 0 value
      × (value < 4294967296)
      × (value / 1048576 + 1 ≡ nodes)
      × (value % 1048576 ≡ length)
  unfolding tree_packed tree_value
  tree_parts =
      let d = answer_draws book plan row buffer nodes length h in
      let some = d.some in
      let most = d.most in
      let short = d.short in
      (rw h (packed_parts 0 0 value (omega arith) (omega arith)), omega arith, omega arith, omega arith)
