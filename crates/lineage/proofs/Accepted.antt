-- What an accepted plan gives: the rows that a row names are lower, and what reaches a row can be had. Assumes nothing.
use Prim.Native.Nat.{ℕ, zero, suc, ◌%◌, ◌≤◌, ◌<◌, ◌*◌}
use native.Mathlib.Omega.{arith}
use mathlib.Core.Path.{◌≡◌, refl, sym, ◌∙◌}
use mathlib.Core.Logic.{◌⊎◌, inl, inr}
use mathlib.Core.Bool.{Bool, true, false, ◌&&◌, ◌||◌, cond, false≢true}
use mathlib.Core.List.{List, [], ◌∷◌, ◌++◌}
use lib.ListN.{length, get_or-eq_default}
use lib.Dec.{eqb, ltb}
use borrow.Author.Tests.{ltb-true, ltb-false, lt-ltb, eqb-true}
use Rattle.book.specs.Lists.{flat, up_to, all, any}
use Rattle.book.specs.Head.{operation, label, column_count, function_count, is_data_leaf}
use Rattle.book.specs.Refusals.{label_holds}
use Rattle.book.proofs.Lists.{and_true, and_left, and_both, or_end, append_all, all_guarded, all_one, map_all}
use Rattle.book.proofs.Lists.{any_found, any_nil}
use Rattle.book.proofs.Answers.{first_passed, last_passed, passed_flat}
use Rattle.book.proofs.Accepted.{HeadHolds}
use Rattle.lineage.specs.Rows.{Kind, Column, Apply, Choose, Output, Condition, Unknown}
use Rattle.lineage.specs.Rows.{row_count, kind_at, kind_of, row_a, row_b, row_c, is_value, names, sound_as, row_holds}
use Rattle.lineage.specs.Paths.{Applied, OneRow, TwoRows, applied_as, Path, through, paths_by, paths, labels}
use Rattle.lineage.specs.Paths.{takes, counting, first_operation, operation_of, carries}
use Rattle.lineage.specs.Accesses.{reaches, gives}
use Rattle.lineage.specs.Inner.Table.{Given, PlanSound, stands, word_for}
use Rattle.lineage.specs.Answers.{PlanAccepted, plan_length_holds, row_tests, plan_tests}
use Rattle.lineage.proofs.PlanLaws.{plan_length_law}
use Rattle.lineage.proofs.Paths.{paths_step, paths_past}

-- The rows that a row names

pub names_both : (plan : List ℕ) (i r : ℕ) → names plan i r ≡ true → (r < i) × (is_value (kind_at plan r) ≡ true)
unfolding names
names_both plan i r h =
    let b = and_both (ltb r i) (is_value (kind_at plan r)) h in
    (ltb-true r i b.0, b.1)

module _ (head plan : List ℕ) (i : ℕ) (holds : row_holds head plan i ≡ true) where
  pub column_holds : kind_at plan i ≡ Column → row_a plan i < column_count head
  unfolding row_holds sound_as
  column_holds e =
      ltb-true (row_a plan i) (column_count head)
      (and_left (ltb (row_a plan i) (column_count head)) (eqb (row_b plan i) 0 && eqb (row_c plan i) 0) (rw e at holds))

  pub apply_holds :
      kind_at plan i ≡ Apply →
      (row_a plan i < function_count head)
      × (names plan i (row_b plan i) ≡ true)
      × ((eqb (row_c plan i) 255 || names plan i (row_c plan i)) ≡ true)
  unfolding row_holds sound_as
  apply_holds e =
      let last = eqb (row_c plan i) 255 || names plan i (row_c plan i) in
      let a =
      and_both (ltb (row_a plan i) (function_count head)) (names plan i (row_b plan i) && last) (rw e at holds) in
      let b = and_both (names plan i (row_b plan i)) last a.1 in
      (ltb-true (row_a plan i) (function_count head) a.0, b.0, b.1)

  -- a row that gives accesses gives those of a row that it names
  pub gives_names : (s : ℕ) → gives (kind_at plan i) s ≡ true → names plan i (row_a plan i) ≡ true
  unfolding row_holds sound_as gives
  gives_names s g = go (kind_at plan i) g holds
    where
      go :
          (kind : Kind) →
          gives kind s ≡ true →
          sound_as kind head plan i (row_a plan i) (row_b plan i) (row_c plan i) ≡ true →
          names plan i (row_a plan i) ≡ true
      go Column g h = absurd (false≢true g)
      go Apply g h = absurd (false≢true g)
      go Choose g h =
          and_left (names plan i (row_a plan i)) (names plan i (row_b plan i) && names plan i (row_c plan i)) h
      go Output g h = and_left (names plan i (row_a plan i)) (eqb (row_b plan i) 0 && eqb (row_c plan i) 0) h
      go Condition g h = and_left (names plan i (row_a plan i)) (eqb (row_b plan i) 0 && eqb (row_c plan i) 0) h
      go Unknown g h = absurd (false≢true g)

  pub gives_lower : (s : ℕ) → gives (kind_at plan i) s ≡ true → row_a plan i < i
  gives_lower s g = (names_both plan i (row_a plan i) (gives_names s g)).0

-- an accepted plan
pub record PlanHolds (head plan : List ℕ) : Type 0 where
  pub whole : length plan % 4 ≡ 0
  pub short : length plan ≤ 256
  pub rows : (i : ℕ) → i < row_count plan → row_holds head plan i ≡ true

pub accepted_plan : (head plan : List ℕ) → PlanAccepted head plan → PlanHolds head plan
unfolding plan_tests row_tests
accepted_plan head plan h =
    let first = first_passed _ (plan_length_holds (length plan)) (flat (row_tests head plan) (up_to (row_count plan))) h in
    let each = passed_flat (row_tests head plan) (row_count plan) first.1 in
    let bounds = plan_length_law (length plan) first.0 in
    record {
      whole = bounds.0;
      short = bounds.1;
      rows = λ i l. last_passed _ (row_holds head plan i) (each i l);
    }

-- The paths of an accepted plan

-- an Apply row on a path has a function of the book
unfoldable pub known : List ℕ → Applied → Bool
known head (OneRow f) = ltb f (function_count head)
known head (TwoRows f) = ltb f (function_count head)

-- a path over columns and functions of the book
unfoldable pub within : List ℕ → Path → Bool
within head p = ltb p.column (column_count head) && all (known head) p.applies

module _ (head : List ℕ) where
  within_column : (a : ℕ) → a < column_count head → all (within head) (record { column = a; applies = [] } ∷ []) ≡ true
  unfolding within all
  within_column a l = rw (lt-ltb a (column_count head) l)

  known_row : (f c : ℕ) → f < function_count head → known head (applied_as f c) ≡ true
  unfolding known applied_as
  known_row f c l = go (eqb c 255)
    where
      go : (b : Bool) → known head (cond b (OneRow f) (TwoRows f)) ≡ true
      go true = lt-ltb f (function_count head) l
      go false = lt-ltb f (function_count head) l

  within_through :
      (row : Applied) → known head row ≡ true → (p : Path) → within head p ≡ true → within head (through row p) ≡ true
  unfolding within through
  within_through row l p h =
      let b = and_both (ltb p.column (column_count head)) (all (known head) p.applies) h in
      and_true (ltb p.column (column_count head)) (all (known head) (p.applies ++ (row ∷ []))) b.0
      (append_all (known head) p.applies (row ∷ []) b.1 (all_one (known head) row ∙ l))

module _ (head plan : List ℕ) (holds : PlanHolds head plan) where
  paths_below : (n i : ℕ) → i < n → i < row_count plan → all (within head) (paths plan i) ≡ true
  unfolding paths_by all
  paths_below zero i m l = absurd (omega arith)
  paths_below (suc n) i m l =
      rw (paths_step plan i)
      (go (kind_at plan i) refl (lower (row_b plan i) (paths_below n (row_b plan i)))
      (lower (row_c plan i) (paths_below n (row_c plan i))))
    where
      low : ℕ → List Path
      low r = cond (ltb r i) (paths plan r) []

      lower : (r : ℕ) → (r < n → r < row_count plan → all (within head) (paths plan r) ≡ true) → all (within head) (low r) ≡ true
      lower r h =
          all_guarded (within head) (ltb r i) (paths plan r)
          (λ t. let b : r < i = ltb-true r i t in h (omega arith) (omega arith))

      go :
          (kind : Kind) →
          kind_at plan i ≡ kind →
          all (within head) (low (row_b plan i)) ≡ true →
          all (within head) (low (row_c plan i)) ≡ true →
          all (within head) (paths_by kind low (row_a plan i) (row_b plan i) (row_c plan i)) ≡ true
      go Column e b c = within_column head (row_a plan i) (column_holds head plan i (holds.rows i l) e)
      go Apply e b c =
          map_all (within head) (through (applied_as (row_a plan i) (row_c plan i))) (within head)
          (within_through head (applied_as (row_a plan i) (row_c plan i))
          (known_row head (row_a plan i) (row_c plan i) (apply_holds head plan i (holds.rows i l) e).0))
          (low (row_b plan i) ++ low (row_c plan i))
          (append_all (within head) (low (row_b plan i)) (low (row_c plan i)) b c)
      go Choose e b c = append_all (within head) (low (row_b plan i)) (low (row_c plan i)) b c
      go Output e b c = refl
      go Condition e b c = refl
      go Unknown e b c = refl

  pub paths_within : (i : ℕ) → i < row_count plan → all (within head) (paths plan i) ≡ true
  paths_within i l = paths_below (suc i) i (omega arith) l

-- What reaches a row of an accepted plan

-- k is an operation that label d takes from a function of the book
pub record Taken (head : List ℕ) (d k : ℕ) : Type 0 where
  pub function : ℕ
  pub below : function < function_count head
  pub operates : operation head function ≡ k
  pub taken : takes head d k ≡ true

-- some column of the book has label d, and k is 0 or such an operation
pub record Had (head : List ℕ) (d k : ℕ) : Type 0 where
  pub column : ℕ
  pub below : column < column_count head
  pub labelled : any (eqb d) (labels head column) ≡ true
  pub operated : (k ≡ 0) ⊎ Taken head d k

module _ (head : List ℕ) (d : ℕ) where
  first_taken :
      (fs : List ℕ) →
      all (λ f. ltb f (function_count head)) fs ≡ true →
      (first_operation head d fs ≡ 0) ⊎ Taken head d (first_operation head d fs)
  unfolding first_operation all
  first_taken [] h = inl refl
  first_taken (f ∷ fs) h =
      let b = and_both (ltb f (function_count head)) (all (λ g. ltb g (function_count head)) fs) h in
      go (takes head d (operation head f)) refl (ltb-true f (function_count head) b.0) (first_taken fs b.1)
    where
      go :
          (t : Bool) →
          takes head d (operation head f) ≡ t →
          f < function_count head →
          (first_operation head d fs ≡ 0) ⊎ Taken head d (first_operation head d fs) →
          (cond t (operation head f) (first_operation head d fs) ≡ 0)
          ⊎ Taken head d (cond t (operation head f) (first_operation head d fs))
      go true e l more = inr (record { function = f; below = l; operates = refl; taken = e })
      go false e l more = more

  -- the functions that count are among those of the path
  counting_known :
      (rows : List Applied) →
      all (known head) rows ≡ true →
      all (λ f. ltb f (function_count head)) (counting rows) ≡ true
  unfolding known counting all
  counting_known [] h = refl
  counting_known (OneRow f ∷ above) h =
      let b = and_both (ltb f (function_count head)) (all (known head) above) h in
      and_true (ltb f (function_count head)) (all (λ g. ltb g (function_count head)) (counting above)) b.0
      (counting_known above b.1)
  counting_known (TwoRows f ∷ above) h = refl

  carries_had : (k : ℕ) (p : Path) → carries head d k p ≡ true → within head p ≡ true → Had head d k
  unfolding carries operation_of within
  carries_had k p c w =
      let fs = counting p.applies in
      let a = and_both (any (eqb d) (labels head p.column)) (eqb k (first_operation head d fs)) c in
      let b = and_both (ltb p.column (column_count head)) (all (known head) p.applies) w in
      let e : first_operation head d fs ≡ k = sym (eqb-true k (first_operation head d fs) a.1) in
      record {
        column = p.column;
        below = ltb-true p.column (column_count head) b.0;
        labelled = a.0;
        operated = rw e at (first_taken fs (counting_known p.applies b.1));
      }

  -- a label is that of the column, and no 255
  pub labelled_by : (c : ℕ) → any (eqb d) (labels head c) ≡ true → (d ≡ label head c) × (eqb (label head c) 255 ≡ false)
  unfolding any labels
  labelled_by c h = go (eqb (label head c) 255) refl h
    where
      go :
          (b : Bool) →
          eqb (label head c) 255 ≡ b →
          any (eqb d) (cond b [] (label head c ∷ [])) ≡ true →
          (d ≡ label head c) × (eqb (label head c) 255 ≡ false)
      go true e h = absurd (false≢true h)
      go false e h = (eqb-true d (label head c) (sym (or_end (eqb d (label head c))) ∙ h), e)

  pub had_leaf : (k : ℕ) → HeadHolds head → Had head d k → is_data_leaf head d ≡ true
  unfolding label_holds
  had_leaf k holds a =
      let l = labelled_by a.column a.labelled in
      rw l.0 (rw l.1 at (holds.labels_hold_law a.column a.below))

module _ (head plan : List ℕ) (holds : PlanHolds head plan) (i d : ℕ) where
  -- a path of an accepted plan that passes a test is over columns and functions of the book
  path_found : (f : Path → Bool) → any f (paths plan i) ≡ true → (p : Path) × (f p ≡ true) × (within head p ≡ true)
  path_found f h = go (ltb i (row_count plan)) refl
    where
      go : (b : Bool) → ltb i (row_count plan) ≡ b → (p : Path) × (f p ≡ true) × (within head p ≡ true)
      go true e =
          any_found f (within head) (paths plan i) h (paths_within head plan holds i (ltb-true i (row_count plan) e))
      go false e =
          let past = paths_past plan i holds.whole (ltb-false i (row_count plan) e) in
          absurd (false≢true (sym (any_nil f) ∙ rw past at h))

  pub reaches_had : (k : ℕ) → reaches head plan i d k ≡ true → Had head d k
  unfolding reaches
  reaches_had k h =
      let found = path_found (carries head d k) h in
      carries_had head d k found.0 found.1 found.2

  pub reaches_leaf : (k : ℕ) → HeadHolds head → reaches head plan i d k ≡ true → is_data_leaf head d ≡ true
  reaches_leaf k book h = had_leaf head d k book (reaches_had k h)

  reaches_below : (k : ℕ) → HeadHolds head → reaches head plan i d k ≡ true → k < 16
  reaches_below k book h = go (reaches_had k h).operated
    where
      go : (k ≡ 0) ⊎ Taken head d k → k < 16
      go (inl none) = omega arith
      go (inr taken) =
          let m : operation head taken.function ≤ 15 = book.operations_most taken.function taken.below in
          let e : operation head taken.function ≡ k = taken.operates in
          omega arith

  -- what stands in a word of a row is the label of a column
  stands_leaf : (w : ℕ) → HeadHolds head → stands head plan i d w ≡ true → is_data_leaf head d ≡ true
  unfolding stands within
  stands_leaf w book h =
      let found = path_found (λ p. any (eqb d) (labels head p.column) && eqb w (word_for head d p)) h in
      let p = found.0 in
      let within_both = and_both (ltb p.column (column_count head)) (all (known head) p.applies) found.2 in
      had_leaf head d 0 book
      (record {
        column = p.column;
        below = ltb-true p.column (column_count head) within_both.0;
        labelled = and_left (any (eqb d) (labels head p.column)) (eqb w (word_for head d p)) found.1;
        operated = inl refl;
      })

-- What the pass up the rows leans on

-- past the end every kind is unknown
kind_past : (plan : List ℕ) (i : ℕ) → length plan % 4 ≡ 0 → row_count plan ≤ i → kind_at plan i ≡ Unknown
unfolding kind_at kind_of
kind_past plan i whole past =
    let l : length plan ≤ 4 * i = omega arith in
    rw (get_or-eq_default plan 0 l)

-- an Apply row is a row of the plan
pub apply_within : (plan : List ℕ) (i : ℕ) → length plan % 4 ≡ 0 → kind_at plan i ≡ Apply → i < row_count plan
apply_within plan i whole e = go (ltb i (row_count plan)) refl
  where
    unlike : Apply ≡ Unknown → ⊥
    unlike u =
        let z : ◌≡◌ {A = ℕ} 0 1 = cc in
        omega arith

    go : (b : Bool) → ltb i (row_count plan) ≡ b → i < row_count plan
    go true t = ltb-true i (row_count plan) t
    go false t = absurd (unlike (sym e ∙ kind_past plan i whole (ltb-false i (row_count plan) t)))

module _ (head plan : List ℕ) (book : HeadHolds head) (holds : PlanHolds head plan) where
  pub plan_sound : PlanSound head plan
  plan_sound =
      record {
        leaves = λ r d w. stands_leaf head plan holds r d w book;
        operations = operations_small;
        below = λ r d k. reaches_below head plan holds r d k book;
      }
    where
      operations_small : (i : ℕ) → kind_at plan i ≡ Apply → operation head (row_a plan i) < 16
      operations_small i e =
          let row = holds.rows i (apply_within plan i holds.whole e) in
          let m : operation head (row_a plan i) ≤ 15 =
          book.operations_most (row_a plan i) (apply_holds head plan i row e).0 in
          omega arith

  pub plan_given : (i : ℕ) → i < row_count plan → Given plan (row_count plan) i
  plan_given i l s g =
      let a : row_a plan i < i = gives_lower head plan i (holds.rows i l) s g in
      omega arith
