-- Laws of breaking a rule alone: an accepted plan that does has a choice that does, by the same user. Assumes nothing.
use Prim.Native.Nat.{ℕ, ◌<◌}
use mathlib.Core.Path.{◌≡◌, refl, sym, ap, ◌∙◌}
use mathlib.Core.Logic.{⊎_elim}
use mathlib.Core.Bool.{Bool, true, false, ◌&&◌, ◌||◌, not, false≢true}
use mathlib.Core.List.{List}
use lib.Dec.{eqb}
use borrow.Author.Tests.{eqb-false, eq-eqb, ne_eqb, not-true}
use Rattle.book.specs.Lists.{all, any, up_to}
use Rattle.book.specs.Blocks.{head_of, rule_at, rule_count}
use Rattle.book.specs.Head.{column_count, function_count, operation, supports}
use Rattle.book.specs.Rule.{covers_user, reference_count}
use Rattle.book.specs.Refusals.{BookAccepted}
use Rattle.book.proofs.Accepted.{HeadHolds, accepted_head, accepted_rule}
use Rattle.book.proofs.Lists.{all_at, all_same, and_both, and_left, and_right, and_true, any_found, at_all, or_rest, or_true}
use Rattle.lineage.specs.Rows.{kind_at, row_a, row_count}
use Rattle.lineage.specs.Paths.{labels, takes}
use Rattle.lineage.specs.Accesses.{gives, is_access, reaches}
use Rattle.lineage.proofs.Accepted.{Had, PlanHolds, Taken, accepted_plan, reaches_had}
use Rattle.verdicts.specs.Accesses.{Access, Accesses, accesses_of, fitting, members, same}
use Rattle.verdicts.specs.Breaking.{breaks, choices_from, operations, refuses_all, some_choice_refused}
use Rattle.verdicts.proofs.Accesses.{same_equal, same_self}
use Rattle.verdicts.proofs.Monotone.{breaks_monotone, breaks_same}
use Rattle.verdicts.proofs.Quantifiers.{any_at, at_any}
use Rattle.search.specs.Obtainable.{can_be_had, labelled, operated}
use Rattle.search.specs.Choices.{is_choice, is_choice_from}
use Rattle.search.specs.Shown.{shown_plan}
use Rattle.search.specs.Alone.{breaks_alone, candidate_alone, plan_breaks_alone}
use Rattle.lineage.specs.Answers.{PlanAccepted}
use Rattle.search.proofs.Rising.{member_all, member_any}
use Rattle.search.proofs.Orders.{candidate, choice_in, choices_pass}
use Rattle.search.proofs.ShownPlans.{shown_accesses}

-- The accesses of a plan can be had

module _ (head : List ℕ) where
  had_operated : (d k : ℕ) → Had head d k → operated head d k ≡ true
  unfolding operated takes
  had_operated d k h =
      ⊎_elim (λ (z : k ≡ 0). rw (eq-eqb k 0 z))
      (λ (t : Taken head d k).
      rw (
        and_right (not (eqb k 0)) (supports head d k) t.taken,
        at_any (λ f. eqb (operation head f) k) (function_count head) t.function t.below
            (eq-eqb (operation head t.function) k t.operates),
      )
      (or_true (eqb k 0)))
      h.operated

  had_can : (x : Access) → Had head x.leaf x.operation → can_be_had head x ≡ true
  unfolding can_be_had labelled
  had_can x h =
      and_true (labelled head x.leaf) (operated head x.leaf x.operation)
      (at_any (λ c. any (eqb x.leaf) (labels head c)) (column_count head) h.column h.below h.labelled)
      (had_operated x.leaf x.operation h)

  pub plan_had : (plan : List ℕ) → PlanHolds head plan → (x : Access) → accesses_of head plan x ≡ true → can_be_had head x ≡ true
  unfolding accesses_of is_access
  plan_had plan holds x h =
      let w =
      any_at (λ i. gives (kind_at plan i) x.channel && reaches head plan (row_a plan i) x.leaf x.operation)
      (row_count plan) h in
      had_can x
      (reaches_had head plan holds (row_a plan w.0) x.leaf x.operation
      (and_right (gives (kind_at plan w.0) x.channel)
      (reaches head plan (row_a plan w.0) x.leaf x.operation) w.1))

-- A choice and a rule

pub members_within : (c : List Access) (D : Accesses) → all D c ≡ true → (x : Access) → members c x ≡ true → D x ≡ true
members_within c D h x m =
    let found = any_found (same x) D c m h in
    rw (same_equal x found.0 found.1) found.2

members_own : (c : List Access) → all (members c) c ≡ true
members_own c = member_all (members c) c (λ x m. member_any (same x) c x m (same_self x))

module _ (head rule : List ℕ) where
  -- a choice that no restriction accepts breaks its rule by its members
  pub own_refused :
      HeadHolds head
      → (c : List Access)
      → is_choice head rule c ≡ true
      → refuses_all rule (operations c) ≡ true
      → some_choice_refused head rule (members c) ≡ true
  unfolding is_choice some_choice_refused
  own_refused holds c h r =
      member_any (λ d. refuses_all rule (operations d))
      (choices_from (reference_count rule) 0 (fitting head rule (members c))) c
      (choice_in head rule holds (members c) (reference_count rule) 0 c h (members_own c)) r

  -- accesses that can be had break the rule by a choice among them
  pub refused_choice :
      (D : Accesses)
      → ((x : Access) → D x ≡ true → can_be_had head x ≡ true)
      → some_choice_refused head rule D ≡ true
      → (c : List Access)
      × (is_choice head rule c ≡ true)
      × (all D c ≡ true)
      × (refuses_all rule (operations c) ≡ true)
  unfolding is_choice some_choice_refused
  refused_choice D had h =
      let found =
      any_found (λ c. refuses_all rule (operations c))
      (λ c. is_choice_from head rule (reference_count rule) 0 c && all D c)
      (choices_from (reference_count rule) 0 (fitting head rule D)) h
      (choices_pass head rule D had (reference_count rule) 0) in
      let b = and_both (is_choice_from head rule (reference_count rule) 0 found.0) (all D found.0) found.2 in
      (found.0, b.0, b.1, found.1)

-- Breaking alone

module _ (book : List ℕ) (r user : ℕ) (D : Accesses) where
  spared : ℕ → Bool
  spared q = eqb q r || not (breaks (head_of book) (rule_at book q) user D)

  pub alone_breaks : breaks_alone book r user D ≡ true → breaks (head_of book) (rule_at book r) user D ≡ true
  unfolding breaks_alone spared
  alone_breaks h =
      and_left (breaks (head_of book) (rule_at book r) user D) (all spared (up_to (rule_count book))) h

  pub alone_spares :
      breaks_alone book r user D ≡ true
      → (q : ℕ)
      → q < rule_count book
      → (q ≡ r → ⊥)
      → breaks (head_of book) (rule_at book q) user D ≡ false
  unfolding breaks_alone spared
  alone_spares h q l other =
      let others = and_right (breaks (head_of book) (rule_at book r) user D) (all spared (up_to (rule_count book))) h in
      not-true (breaks (head_of book) (rule_at book q) user D)
      (or_rest (eqb q r) (not (breaks (head_of book) (rule_at book q) user D))
      (all_at spared (rule_count book) others q l) (ne_eqb q r other))

  pub breaks_alone_law :
      breaks (head_of book) (rule_at book r) user D ≡ true
      → ((q : ℕ) → q < rule_count book → (q ≡ r → ⊥) → breaks (head_of book) (rule_at book q) user D ≡ false)
      → breaks_alone book r user D ≡ true
  unfolding breaks_alone spared
  breaks_alone_law h others =
      and_true (breaks (head_of book) (rule_at book r) user D) (all spared (up_to (rule_count book))) h
      (at_all spared (rule_count book) (λ q l. go q l (eqb q r) refl))
    where
      go : (q : ℕ) → q < rule_count book → (b : Bool) → eqb q r ≡ b → spared q ≡ true
      go q l true e = rw e
      go q l false e = rw (others q l (eqb-false q r e)) (or_true (eqb q r))

  -- sets of the same accesses
  pub alone_same : (E : Accesses) → ((x : Access) → D x ≡ E x) → breaks_alone book r user D ≡ breaks_alone book r user E
  unfolding breaks_alone breaks spared
  alone_same E e =
      let agree : (q : ℕ) → breaks (head_of book) (rule_at book q) user D ≡ breaks (head_of book) (rule_at book q) user E =
      λ q. breaks_same (head_of book) (rule_at book q) user D E e in
      rw (agree r)
      (ap (λ (b : Bool). breaks (head_of book) (rule_at book r) user E && b)
      (all_same spared (λ q. eqb q r || not (breaks (head_of book) (rule_at book q) user E))
      (λ q. ap (λ (b : Bool). eqb q r || not b) (agree q)) (up_to (rule_count book))))

-- A plan's choice

module _ (book : List ℕ) (accepted : BookAccepted book) (r : ℕ) (l : r < rule_count book) where
  -- a choice breaks r alone when its members do
  pub candidate_members :
      (user : ℕ) (c : List Access)
      → is_choice (head_of book) (rule_at book r) c ≡ true
      → candidate_alone book r (candidate user c) ≡ breaks_alone book r user (members c)
  unfolding candidate_alone plan_breaks_alone
  candidate_members user c h =
      let rule = accepted_rule book accepted r l in
      alone_same book r user (accesses_of (head_of book) (shown_plan (head_of book) c)) (members c)
      (shown_accesses (head_of book) (rule_at book r) (accepted_head book accepted) rule.references_most c h)

  pub plan_candidate :
      (user : ℕ) (plan : List ℕ)
      → PlanAccepted (head_of book) plan
      → plan_breaks_alone book r user plan ≡ true
      → (c : List Access)
      × (is_choice (head_of book) (rule_at book r) c ≡ true)
      × (candidate_alone book r (candidate user c) ≡ true)
  unfolding plan_breaks_alone breaks
  plan_candidate user plan plans h =
      let head = head_of book in
      let D = accesses_of head plan in
      let b =
      and_both (covers_user head (rule_at book r) user) (some_choice_refused head (rule_at book r) D)
      (alone_breaks book r user D h) in
      let holds = accepted_plan head plan plans in
      let found = refused_choice head (rule_at book r) D (plan_had head plan holds) b.1 in
      let c = found.0 in
      let own =
      and_true (covers_user head (rule_at book r) user) (some_choice_refused head (rule_at book r) (members c)) b.0
      (own_refused head (rule_at book r) (accepted_head book accepted) c found.1 found.3) in (
        c,
        found.1,
        candidate_members user c found.1
            ∙ breaks_alone_law book r user (members c) own
            (λ q k other.
            fewer (breaks head (rule_at book q) user (members c)) (breaks head (rule_at book q) user D)
            (breaks_monotone head (rule_at book q) (members c) D (members_within c D found.2) user)
            (alone_spares book r user D h q k other)),
      )
    where
      fewer : (a b : Bool) → (a ≡ true → b ≡ true) → b ≡ false → a ≡ false
      fewer true b t e = absurd (false≢true (sym e ∙ t refl))
      fewer false b t e = refl
