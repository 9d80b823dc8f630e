-- An accepted plan with some access to each datum of a closed association breaks a rule that counts, and for an open
-- one some such plan breaks none. Assumes nothing.
use Prim.Native.Nat.{ℕ, ◌<◌}
use mathlib.Core.Path.{◌≡◌, refl, sym, ap, subst, ◌∙◌}
use mathlib.Core.Bool.{Bool, true, false, false≢true}
use mathlib.Core.List.Memᴰ
use mathlib.Core.List.{List, [], ◌∷◌, map, Memᴰ}
use borrow.Author.Tests.{lt-ltb}
use Rattle.book.specs.Lists.{all}
use Rattle.book.specs.Sets.{has}
use Rattle.book.specs.Blocks.{head_of, rule_at, rule_count}
use Rattle.book.specs.Head.{is_user}
use Rattle.book.specs.Refusals.{BookAccepted}
use Rattle.book.proofs.Accepted.{accepted_head, accepted_rule}
use Rattle.book.proofs.Lists.{and_true, none_at}
use Rattle.book.proofs.Members.{has_zero}
use Rattle.lineage.specs.Answers.{PlanAccepted}
use Rattle.lineage.proofs.Accepted.{accepted_plan}
use Rattle.verdicts.specs.Accesses.{Access, accesses_of, members, same}
use Rattle.verdicts.specs.Breaking.{breaks, broken_mask}
use Rattle.verdicts.specs.Answers.{broken, judge_answer}
use Rattle.verdicts.specs.declared.Broken.{Broken}
use Rattle.verdicts.proofs.Accesses.{same_self}
use Rattle.verdicts.proofs.JudgeLaws.{judge_answer_law, judge_passes}
use Rattle.verdicts.proofs.Monotone.{breaks_monotone, breaks_same}
use Rattle.verdicts.proofs.Verdict.{mask_bit, none_broken}
use Rattle.search.specs.Obtainable.{can_be_had}
use Rattle.search.specs.Shown.{shown_plan}
use Rattle.search.proofs.Rising.{all_member, member_all, member_any}
use Rattle.search.proofs.AloneLaws.{members_within, plan_had}
use Rattle.search.proofs.ShownPlans.{shown_accepted, shown_accesses}
use Rattle.search.proofs.Solutions.{fails}
use Rattle.blocked.specs.Associations.{Datum, Pair, access_to, datum_of}
use Rattle.blocked.specs.Open.{is_closed, some_broken}
use Rattle.blocked.specs.Few.{with_asking}
use Rattle.blocked.specs.Demand.{BlockedAccepted, Chooses, Closed, ClosedUnder, InScope}
use Rattle.blocked.specs.Minimal.{Behind}
use Rattle.blocked.specs.Plans.{BreaksSome, FewForPlans, ForPlans, Reads}
use Rattle.blocked.proofs.ScopeLaws.{covers_user_law}
use Rattle.blocked.proofs.OpenLaws.{chooses_choice, closed_means, open_choice}

-- Closed

-- one access of the plan to each
reads_choice :
    (head plan : List ℕ) (association : List Datum)
    → Reads head plan association
    → (c : List Access) × (map datum_of c ≡ association) × (all (accesses_of head plan) c ≡ true)
unfolding all datum_of access_to
reads_choice head plan [] reads = ([], refl, refl)
reads_choice head plan (x ∷ association) reads =
    let one = reads x (Memᴰ.head refl) in
    let rest = reads_choice head plan association (λ y m. reads y (Memᴰ.tail m)) in
    let y = access_to x one.0 in (
      y ∷ rest.0,
      ap (λ (a : List Datum). x ∷ a) rest.1,
      and_true (accesses_of head plan y) (all (accesses_of head plan) rest.0) one.1 rest.2,
    )

mask_told : (mask other : ℕ) → broken mask ≡ broken other → mask ≡ other
mask_told mask other e =
    let same : ◌≡◌ {A = Broken} (record { mask = mask }) (record { mask = other }) = cc in
    ap (λ (b : Broken). b.mask) same

module _ (book : List ℕ) (p : Pair) (plan : List ℕ)
    (plans : PlanAccepted (head_of book) plan) (reads : Reads (head_of book) plan p.association) where
  -- some rule that counts is broken by every accepted plan that has some access to each datum, whatever else it does
  closed_plans : (rules : ℕ → Bool) → ClosedUnder book rules p → BreaksSome book rules p.user plan
  closed_plans rules closed =
      let head = head_of book in
      let D = accesses_of head plan in
      let chosen = reads_choice head plan p.association reads in
      let c = chosen.0 in
      let had =
      member_all (can_be_had head) c
      (λ x m. plan_had head plan (accepted_plan head plan plans) x (all_member D c chosen.2 x m)) in
      let found = closed c (record { to = chosen.1; had = had }) in (
        found.0,
        found.1,
        found.2,
        breaks_monotone head (rule_at book found.0) (members c) D (members_within c D chosen.2) p.user
            found.3,
      )

  -- so Judge never answers that none is
  closed_judged :
      Closed book p
      → BookAccepted book
      → is_user (head_of book) p.user ≡ true
      → judge_answer book p.user plan ≡ broken 0
      → ⊥
  closed_judged closed accepted u e =
      let D = accesses_of (head_of book) plan in
      let mask = broken_mask book p.user D in
      let answer =
      judge_answer_law book p.user plan
      (judge_passes book p.user plan (record { book_accepted = accepted; a_user = u; plan_accepted = plans })) in
      let nothing : mask ≡ 0 = mask_told mask 0 (sym answer ∙ e) in
      let found = closed_plans (λ q. true) closed in
      let bit : has mask found.0 ≡ true =
      mask_bit book p.user D found.0 ∙ rw (lt-ltb found.0 (rule_count book) found.1) found.3 in
      false≢true (sym (has_zero found.0) ∙ (rw nothing at bit))

-- Open

-- a choice of operations is shown by a plan with some access to each datum, which breaks what the choice breaks
module _ (book : List ℕ) (accepted : BookAccepted book) (r : ℕ) (l : r < rule_count book) (p : Pair)
    (within : InScope (head_of book) (rule_at book r) p) where
  choice_plan :
      (c : List Access)
      → Chooses (head_of book) p.association c
      → (plan : List ℕ)
      × PlanAccepted (head_of book) plan
      × Reads (head_of book) plan p.association
      × ((q : ℕ)
      → breaks (head_of book) (rule_at book q) p.user (accesses_of (head_of book) plan)
      ≡ breaks (head_of book) (rule_at book q) p.user (members c))
  unfolding datum_of access_to
  choice_plan c chooses =
      let head = head_of book in
      let rule = rule_at book r in
      let chosen = chooses_choice head rule p c within chooses in
      let holds = accepted_head book accepted in
      let most = (accepted_rule book accepted r l).references_most in
      let plan = shown_plan head c in
      let same_accesses = shown_accesses head rule holds most c chosen in (
        plan,
        shown_accepted head rule holds most c chosen,
        λ x m.
            let y = Memᴰ.of_map datum_of c (subst (λ (a : List Datum). Memᴰ x a) (sym chooses.to) m) in (
              y.0.operation,
              subst (λ (z : Datum). accesses_of head plan (access_to z y.0.operation) ≡ true) y.2
                  (same_accesses y.0 ∙ member_any (same y.0) c y.0 y.1 (same_self y.0)),
            ),
        λ q. breaks_same head (rule_at book q) p.user (accesses_of head plan) (members c) same_accesses,
      )

  -- where it breaks no rule at all, Judge answers so
  open_plan :
      is_closed book p ≡ false
      → (plan : List ℕ)
      × PlanAccepted (head_of book) plan
      × Reads (head_of book) plan p.association
      × (judge_answer book p.user plan ≡ broken 0)
  unfolding some_broken
  open_plan h =
      let head = head_of book in
      let found = open_choice book (λ q. true) p h in
      let shown = choice_plan found.0 found.1 in
      let u = covers_user_law head (rule_at book r) p.user within.covered in
      let answer =
      judge_answer_law book p.user shown.0
      (judge_passes book p.user shown.0
      (record { book_accepted = accepted; a_user = u; plan_accepted = shown.1 })) in (
        shown.0,
        shown.1,
        shown.2,
        answer
            ∙ ap broken
            (none_broken book p.user (accesses_of head shown.0)
            (λ q k.
            shown.3 q
            ∙ none_at (λ j. breaks head (rule_at book j) p.user (members found.0)) (rule_count book) found.2 q k)),
      )

-- Both, in the scope of a rule

pub for_plans : (book : List ℕ) (r : ℕ) → BlockedAccepted book r → ForPlans book r
for_plans book r given =
    record {
      closed_stops = λ p within closed plan reads passes.
          closed_judged book p plan passes.0 reads closed given.book_accepted
          (covers_user_law (head_of book) (rule_at book r) p.user within.covered) passes.1;
      open_passes = λ p within not_closed.
          let found =
          open_plan book given.book_accepted r given.rule_there p within
          (fails (is_closed book p) (λ h. not_closed (closed_means book (λ q. true) p given.book_accepted h))) in
          (found.0, found.2, (found.1, found.3));
    }

-- For the few rules behind a block

pub few_for_plans :
    (book : List ℕ) (r : ℕ)
    → BlockedAccepted book r
    → (p : Pair) (mask : ℕ)
    → Behind book r p mask
    → FewForPlans book r p mask
few_for_plans book r given p mask behind =
    record {
      each_breaks = λ plan plans reads.
          closed_plans book p plan plans reads (with_asking r (has mask)) behind.minimal.closed;
      some_spares = λ fewer part.
          let free = behind.minimal.opens fewer part in
          let shown =
          choice_plan book given.book_accepted r given.rule_there p behind.first.scope free.0 free.1 in (
            shown.0,
            shown.1,
            shown.2,
            λ found. free.2 (found.0, found.1, found.2, sym (shown.3 found.0) ∙ found.3),
          );
    }
