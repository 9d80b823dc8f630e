-- Laws of the shown plan: it is accepted, has at most nine rows, each of its Apply rows has one row, and its accesses
-- are the chosen ones. Assumes nothing.
use Prim.Native.Nat.{ℕ, zero, suc, ◌+◌, ◌*◌, ◌%◌, ◌≤◌, ◌<◌}
use native.Mathlib.Omega.{arith}
use mathlib.Core.Path.{◌≡◌, refl, sym, ap, ◌∙◌}
use mathlib.Core.Bool.{Bool, true, false, ◌&&◌, ◌||◌, cond, false≢true}
use mathlib.Core.List.{List, [], ◌∷◌, ◌++◌, append_assoc, append-nil}
use lib.ListN.{length}
use lib.Dec.{eqb, ltb, leb}
use borrow.Author.Tests.{ltb-true, lt-ltb, eqb-true, le-leb, eq-eqb}
use Rattle.book.specs.Lists.{any, all, up_to}
use Rattle.book.specs.Head.{column_count, function_count, operation, supports}
use Rattle.book.specs.Rule.{reference_count}
use Rattle.book.specs.Tests.{first_failing}
use Rattle.book.proofs.Lists.{and_true, and_both, or_rest, or_assoc, or_end, any_none}
use Rattle.book.proofs.Answers.{flat_passed}
use Rattle.book.proofs.Accepted.{HeadHolds}
use Rattle.lineage.specs.Rows.{Apply, row_count, kind_at, row_a, row_c}
use Rattle.lineage.specs.Paths.{labels, takes}
use Rattle.lineage.specs.Accesses.{gives, reaches, is_access}
use Rattle.lineage.specs.Answers.{PlanAccepted, plan_length_holds, row_tests}
use Rattle.lineage.proofs.PlanLaws.{plan_rows}
use Rattle.lineage.proofs.Accepted.{apply_within}
use Rattle.lineage.proofs.Mixing.{access_before, as_before}
use Rattle.verdicts.specs.Accesses.{Access, accesses_of, fits, same}
use Rattle.verdicts.proofs.Accesses.{fits_bounds}
use Rattle.search.specs.Obtainable.{labelled, operated, can_be_had}
use Rattle.search.specs.Choices.{is_choice, is_choice_from}
use Rattle.search.specs.Shown.{lowest, column_for, function_for, column_row, apply_row, last_row, rows_of, access_rows}
use Rattle.search.specs.Shown.{shown_from, shown_plan}
use Rattle.search.proofs.PlaceLaws.{rows_few}
use Rattle.search.proofs.LowestLaws.{lowest_passes}
use Rattle.search.proofs.RowMore.{Standing, Reaching, standing_none, after_column, after_apply, after_last}
use Rattle.search.proofs.RowMore.{raw_path, carries_raw, carries_operated}

-- One access

-- an access that can be had, as a projection or a condition
unfoldable showable : List ℕ → Access → Bool
showable head x = can_be_had head x && ltb x.channel 2

module _ (head : List ℕ) (x : Access) (h : showable head x ≡ true) where
  had : (labelled head x.leaf ≡ true) × (operated head x.leaf x.operation ≡ true) × (x.channel < 2)
  unfolding showable can_be_had
  had =
      let a = and_both (can_be_had head x) (ltb x.channel 2) h in
      let b = and_both (labelled head x.leaf) (operated head x.leaf x.operation) a.0 in
      (b.0, b.1, ltb-true x.channel 2 a.1)

  had_column :
      (column_for head x.leaf < column_count head)
      × (any (eqb x.leaf) (labels head (column_for head x.leaf)) ≡ true)
  unfolding labelled column_for
  had_column = lowest_passes (λ c. any (eqb x.leaf) (labels head c)) (column_count head) had.0

  had_function :
      eqb x.operation 0 ≡ false
      → (function_for head x.operation < function_count head)
      × (operation head (function_for head x.operation) ≡ x.operation)
      × (takes head x.leaf x.operation ≡ true)
  unfolding operated function_for takes
  had_function e =
      let k = x.operation in
      let supported = supports head x.leaf k in
      let f : ℕ → Bool = λ f. eqb (operation head f) k in
      let some = any f (up_to (function_count head)) in
      let b = and_both supported some (or_rest (eqb k 0) (supported && some) had.1 e) in
      let r = lowest_passes f (function_count head) b.1 in
      (r.0, eqb-true (operation head (lowest f (up_to (function_count head)))) k r.1, rw (e, b.0))

  -- a plan q of n rows gives what p gives, and the access
  abbrev Adds : List ℕ → List ℕ → ℕ → Type 0
  Adds p q n =
      Standing head q n × ((y : Access) → accesses_of head q y ≡ (accesses_of head p y || same y x))

  adds_as : (p q r : List ℕ) (m n : ℕ) → Adds p q m → q ≡ r → m ≡ n → Adds p r n
  adds_as p q r m n a e l = rw (← e, ← l) a

  module _ (p : List ℕ) (n : ℕ) (stands : Standing head p n) where
    abbrev column : ℕ
    column = column_for head x.leaf

    first : Reaching head p (p ++ column_row head x.leaf) n (raw_path column)
    unfolding column_row
    first = after_column head p n column stands had_column.0

    plain_shown :
        x.operation ≡ 0 → Adds p (p ++ column_row head x.leaf ++ last_row n x.channel) (suc (suc n))
    unfolding accesses_of same
    plain_shown e =
        let q = p ++ column_row head x.leaf in
        let r =
        after_last head p q n x.leaf 0 x.channel first (carries_raw head x.leaf column had_column.1)
        had.2 in
        (r.0, λ y. rw e (r.1 y.channel y.leaf y.operation))

    applied_shown :
        n < 255
        → eqb x.operation 0 ≡ false
        → Adds p (p ++ column_row head x.leaf ++ apply_row head n x.operation ++ last_row (suc n) x.channel)
        (suc (suc (suc n)))
    unfolding accesses_of same apply_row
    applied_shown few e =
        let f = had_function e in
        let q = p ++ column_row head x.leaf in
        let function = function_for head x.operation in
        let second = after_apply head p q n column function first few f.0 in
        let r =
        after_last head p (q ++ apply_row head n x.operation) (suc n) x.leaf x.operation x.channel second
        (carries_operated head x.leaf column had_column.1 function x.operation f.1 f.2) had.2 in
        (r.0, λ y. r.1 y.channel y.leaf y.operation)

    access_shown : n < 255 → Adds p (p ++ access_rows head n x) (n + rows_of x)
    unfolding access_rows rows_of
    access_shown few = go (eqb x.operation 0) refl
      where
        go :
            (b : Bool)
            → eqb x.operation 0 ≡ b
            → Adds p
            (p
            ++ (column_row head x.leaf
            ++ cond b (last_row n x.channel)
            (apply_row head n x.operation ++ last_row (suc n) x.channel)))
            (n + cond b 2 3)
        go true e =
            adds_as p (p ++ column_row head x.leaf ++ last_row n x.channel)
            (p ++ (column_row head x.leaf ++ last_row n x.channel)) (suc (suc n)) (n + 2)
            (plain_shown (eqb-true x.operation 0 e)) (simp append_assoc) (omega arith)
        go false e =
            adds_as p
            (p ++ column_row head x.leaf ++ apply_row head n x.operation ++ last_row (suc n) x.channel)
            (p ++ (column_row head x.leaf ++ (apply_row head n x.operation ++ last_row (suc n) x.channel)))
            (suc (suc (suc n))) (n + 3)
            (applied_shown few e) (simp append_assoc) (omega arith)

-- All of them

-- a plan q that stands, has at most nine rows, and gives what p gives and the accesses of a choice
record Shows (head p q : List ℕ) (choice : List Access) : Type 0 where
  count : ℕ
  stands : Standing head q count
  few : count ≤ 9
  given : (y : Access) → accesses_of head q y ≡ (accesses_of head p y || any (same y) choice)

module _ (head : List ℕ) where
  shows_none : (p : List ℕ) (n : ℕ) → Standing head p n → n ≤ 9 → Shows head p (p ++ []) []
  unfolding any
  shows_none p n h few =
      rw append-nil (record { count = n; stands = h; few = few; given = λ y. sym (or_end (accesses_of head p y)) })

  all_shown :
      (choice : List Access) (p : List ℕ) (n : ℕ)
      → all (showable head) choice ≡ true
      → Standing head p n
      → n + 3 * length choice ≤ 9
      → Shows head p (p ++ shown_from head n choice) choice
  unfolding all any shown_from
  all_shown [] p n h stands few = shows_none p n stands (omega arith)
  all_shown (x ∷ choice) p n h stands few =
      let b = and_both (showable head x) (all (showable head) choice) h in
      let q = p ++ access_rows head n x in
      let one = access_shown head x b.0 p n stands (omega arith) in
      let rest = all_shown choice q (n + rows_of x) b.1 one.0 (omega (arith, (rows_few x).1)) in
      rw (← append_assoc)
      (record {
        count = rest.count;
        stands = rest.stands;
        few = rest.few;
        given = λ y.
            rest.given y
            ∙ rw (one.1 y) (or_assoc (accesses_of head p y) (same y x) (any (same y) choice));
      })

-- a choice holds one access for each reference, and each can be shown
choice_shown :
    (head rule : List ℕ) (n i : ℕ) (choice : List Access)
    → is_choice_from head rule n i choice ≡ true
    → (all (showable head) choice ≡ true) × (length choice ≡ n)
unfolding is_choice_from all showable
choice_shown head rule zero i [] h = (refl, refl)
choice_shown head rule zero i (x ∷ choice) h = absurd (false≢true h)
choice_shown head rule (suc n) i [] h = absurd (false≢true h)
choice_shown head rule (suc n) i (x ∷ choice) h =
    let a = and_both (can_be_had head x && fits head rule i x) (is_choice_from head rule n (suc i) choice) h in
    let b = and_both (can_be_had head x) (fits head rule i x) a.0 in
    let c = fits_bounds head rule i x b.1 in
    let rest = choice_shown head rule n (suc i) choice a.1 in
    (rw (b.0, lt-ltb x.channel 2 c.0) rest.0, ap suc rest.1)

module _
    (head rule : List ℕ)
    (holds : HeadHolds head)
    (few : reference_count rule ≤ 3)
    (choice : List Access)
    (chosen : is_choice head rule choice ≡ true)
  where
    shows : Shows head [] (shown_plan head choice) choice
    unfolding is_choice shown_plan
    shows =
        let c = choice_shown head rule (reference_count rule) 0 choice chosen in
        all_shown head choice [] 0 c.0 (standing_none head) (omega (arith, c.1))

    pub shown_accepted : PlanAccepted head (shown_plan head choice)
    unfolding plan_length_holds row_tests first_failing
    shown_accepted =
        let plan = shown_plan head choice in
        let n = row_count plan in
        let w = shows.stands.whole in
        let l = shows.few in
        plan_rows head plan
        (and_true (eqb (length plan % 4) 0) (leb (length plan) 256)
        (eq-eqb (length plan % 4) 0 (omega arith)) (le-leb (length plan) 256 (omega arith)))
        ∙ flat_passed (row_tests head plan) n (λ i b. rw (shows.stands.rows i (omega arith)))

    pub shown_accesses : (x : Access) → accesses_of head (shown_plan head choice) x ≡ any (same x) choice
    unfolding accesses_of is_access
    shown_accesses x =
        shows.given x
        ∙ rw (any_none (λ i. gives (kind_at [] i) x.channel && reaches head [] (row_a [] i) x.leaf x.operation))

    -- "Shown plans use single-row Apply only, so their form holds."
    pub shown_single : (i : ℕ) → kind_at (shown_plan head choice) i ≡ Apply → row_c (shown_plan head choice) i ≡ 255
    shown_single i e =
        let w = shows.stands.whole in
        let l = apply_within (shown_plan head choice) i (omega arith) e in
        shows.stands.single i (omega arith) e

    -- so they have document 01's accesses
    pub shown_as_before :
        (s d k : ℕ) → is_access head (shown_plan head choice) s d k ≡ access_before head (shown_plan head choice) s d k
    shown_as_before = as_before (shown_plan head choice) shown_single head

    pub shown_whole : length (shown_plan head choice) ≡ 4 * row_count (shown_plan head choice)
    shown_whole =
        let w = shows.stands.whole in
        omega arith

    pub shown_few : row_count (shown_plan head choice) ≤ 9
    shown_few =
        let w = shows.stands.whole in
        let l = shows.few in
        omega arith
