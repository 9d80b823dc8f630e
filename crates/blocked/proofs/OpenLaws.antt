-- Laws of choices of operations: what is computed of open and closed associations means what Demand says, and a choice
-- for an association of a rule's scope is a choice of the rule. Assumes nothing.
use Prim.Native.Nat.{ℕ, zero, suc}
use mathlib.Core.Path.{◌≡◌, refl, sym, subst, ◌∙◌}
use mathlib.Core.Bool.{Bool, true, false, ◌&&◌, not, false≢true}
use mathlib.Core.List.Memᴰ
use mathlib.Core.List.{List, [], ◌∷◌, map, Memᴰ}
use borrow.Author.Tests.{not-true, not-false}
use Rattle.book.specs.Lists.{all, any, up_to, keep}
use Rattle.book.specs.Blocks.{head_of, rule_at, rule_count}
use Rattle.book.specs.Rule.{reference_count}
use Rattle.book.specs.Refusals.{BookAccepted}
use Rattle.book.proofs.Accepted.{HeadHolds, accepted_head}
use Rattle.book.proofs.Lists.{and_true, and_left, and_both}
use Rattle.verdicts.specs.Accesses.{Access, fits, members}
use Rattle.verdicts.specs.Breaking.{breaks}
use Rattle.verdicts.proofs.Quantifiers.{any_at, at_any}
use Rattle.search.specs.Obtainable.{can_be_had, labelled, operated}
use Rattle.search.specs.Choices.{is_choice, is_choice_from}
use Rattle.search.proofs.Rising.{all_member, any_member, flat_from, flat_member, keep_member, keep_passes, member_any}
use Rattle.search.proofs.Rising.{up_to_member}
use Rattle.search.proofs.Orders.{choice_had, had_small}
use Rattle.blocked.specs.Associations.{Datum, Pair, access_to, datum_of, in_scope_at, is_association}
use Rattle.blocked.specs.Associations.{is_association_from}
use Rattle.blocked.specs.Open.{is_closed_under, operation_choices, some_broken}
use Rattle.blocked.specs.Demand.{Chooses, ClosedUnder, InScope, SomeBroken}

-- Choices of operations

module _ (head : List ℕ) where
  -- the operations with which a datum can be had
  operations_of : Datum → List ℕ
  operations_of x = keep (λ k. can_be_had head (access_to x k)) (up_to 16)

  pub choices_choose :
      (association : List Datum) (c : List Access)
      → Memᴰ c (operation_choices head association)
      → Chooses head association c
  unfolding operation_choices all operations_of access_to datum_of
  choices_choose [] c m =
      let e = Memᴰ.eq_of_singleton m in
      record { to = rw e; had = rw e }
  choices_choose (x ∷ association) c m =
      let one =
      flat_from (λ k. map (λ d. access_to x k ∷ d) (operation_choices head association)) (operations_of x) c m in
      let k = one.0 in
      let rest = Memᴰ.of_map (λ d. access_to x k ∷ d) (operation_choices head association) one.2 in
      let chosen = choices_choose association rest.0 rest.1 in
      let had =
      all_member (λ j. can_be_had head (access_to x j)) (operations_of x)
      (keep_passes (λ j. can_be_had head (access_to x j)) (up_to 16)) k one.1 in
      subst (Chooses head (x ∷ association)) rest.2
      (record {
        to = rw chosen.to;
        had = and_true (can_be_had head (access_to x k)) (all (can_be_had head) rest.0) had chosen.had;
      })

  module _ (holds : HeadHolds head) where
    had_choice :
        (c : List Access) → all (can_be_had head) c ≡ true → Memᴰ c (operation_choices head (map datum_of c))
    unfolding operation_choices all operations_of access_to datum_of
    had_choice [] h = Memᴰ.head refl
    had_choice (x ∷ c) h =
        let b = and_both (can_be_had head x) (all (can_be_had head) c) h in
        flat_member (λ k. map (λ d. access_to (datum_of x) k ∷ d) (operation_choices head (map datum_of c)))
        (operations_of (datum_of x)) x.operation (x ∷ c)
        (keep_member (λ k. can_be_had head (access_to (datum_of x) k)) (up_to 16) x.operation
        (up_to_member 16 x.operation (had_small head holds x b.0)) b.0)
        (Memᴰ.map (λ d. x ∷ d) (had_choice c b.1))

    pub choose_choices :
        (association : List Datum) (c : List Access)
        → Chooses head association c
        → Memᴰ c (operation_choices head association)
    choose_choices association c chosen =
        subst (λ (a : List Datum). Memᴰ c (operation_choices head a)) chosen.to (had_choice c chosen.had)

-- Choices of a rule

module _ (head rule : List ℕ) where
  within_choice :
      (n i : ℕ) (c : List Access)
      → is_association_from head rule n i (map datum_of c) ≡ true
      → all (can_be_had head) c ≡ true
      → is_choice_from head rule n i c ≡ true
  unfolding is_association_from is_choice_from in_scope_at fits access_to datum_of all
  within_choice zero i [] h had = refl
  within_choice zero i (x ∷ c) h had = absurd (false≢true h)
  within_choice (suc n) i [] h had = absurd (false≢true h)
  within_choice (suc n) i (x ∷ c) h had =
      let a =
      and_both (labelled head x.leaf && fits head rule i x) (is_association_from head rule n (suc i) (map datum_of c))
      h in
      let b = and_both (labelled head x.leaf) (fits head rule i x) a.0 in
      let q = and_both (can_be_had head x) (all (can_be_had head) c) had in
      and_true (can_be_had head x && fits head rule i x) (is_choice_from head rule n (suc i) c)
      (and_true (can_be_had head x) (fits head rule i x) q.0 b.1) (within_choice n (suc i) c a.1 q.1)

  choice_within :
      (n i : ℕ) (c : List Access)
      → is_choice_from head rule n i c ≡ true
      → is_association_from head rule n i (map datum_of c) ≡ true
  unfolding is_association_from is_choice_from in_scope_at fits access_to datum_of can_be_had
  choice_within zero i [] h = refl
  choice_within zero i (x ∷ c) h = absurd (false≢true h)
  choice_within (suc n) i [] h = absurd (false≢true h)
  choice_within (suc n) i (x ∷ c) h =
      let a = and_both (can_be_had head x && fits head rule i x) (is_choice_from head rule n (suc i) c) h in
      let b = and_both (can_be_had head x) (fits head rule i x) a.0 in
      and_true (labelled head x.leaf && fits head rule i x) (is_association_from head rule n (suc i) (map datum_of c))
      (and_true (labelled head x.leaf) (fits head rule i x)
      (and_left (labelled head x.leaf) (operated head x.leaf x.operation) b.0) b.1)
      (choice_within n (suc i) c a.1)

  -- a choice of operations for an association of the rule's scope is a choice of the rule
  pub chooses_choice :
      (p : Pair) (c : List Access)
      → InScope head rule p
      → Chooses head p.association c
      → is_choice head rule c ≡ true
  unfolding is_choice is_association
  chooses_choice p c within chosen =
      within_choice (reference_count rule) 0 c
      (subst (λ (a : List Datum). is_association head rule a ≡ true) (sym chosen.to) within.association)
      chosen.had

  -- and back
  pub choice_chooses :
      (c : List Access)
      → is_choice head rule c ≡ true
      → (is_association head rule (map datum_of c) ≡ true) × Chooses head (map datum_of c) c
  unfolding is_choice is_association
  choice_chooses c h = (
    choice_within (reference_count rule) 0 c h,
    record { to = refl; had = choice_had head rule (reference_count rule) 0 c h },
  )

-- Open and closed, under the rules that count

module _ (book : List ℕ) (rules : ℕ → Bool) (p : Pair) where
  -- no rule is broken under a choice of operations
  spares : List Access → Bool
  spares c = not (some_broken book rules p.user c)

  -- some rule that counts is broken
  broken_some : (c : List Access) → some_broken book rules p.user c ≡ true → SomeBroken book rules p.user c
  unfolding some_broken
  broken_some c e =
      let breaking : ℕ → Bool = λ q. breaks (head_of book) (rule_at book q) p.user (members c) in
      let found = any_at (λ q. rules q && breaking q) (rule_count book) e in
      let both = and_both (rules found.0) (breaking found.0) found.1 in
      (found.0, found.2, both.0, both.1)

  pub some_broken_law : (c : List Access) → SomeBroken book rules p.user c → some_broken book rules p.user c ≡ true
  unfolding some_broken
  some_broken_law c broken =
      let breaking : ℕ → Bool = λ q. breaks (head_of book) (rule_at book q) p.user (members c) in
      at_any (λ q. rules q && breaking q) (rule_count book) broken.0 broken.1
      (and_true (rules broken.0) (breaking broken.0) broken.2 broken.3)

  pub open_choice :
      is_closed_under book rules p ≡ false
      → (c : List Access)
      × Chooses (head_of book) p.association c
      × (some_broken book rules p.user c ≡ false)
  unfolding is_closed_under spares
  open_choice h =
      let choices = operation_choices (head_of book) p.association in
      let found = any_member spares choices (not-false (any spares choices) h) in (
        found.0,
        choices_choose (head_of book) p.association found.0 found.1,
        not-true (some_broken book rules p.user found.0) found.2,
      )

  pub choice_open :
      BookAccepted book
      → (c : List Access)
      → Chooses (head_of book) p.association c
      → some_broken book rules p.user c ≡ false
      → is_closed_under book rules p ≡ false
  unfolding is_closed_under spares
  choice_open accepted c chosen h =
      let choices = operation_choices (head_of book) p.association in
      let listed = choose_choices (head_of book) (accepted_head book accepted) p.association c chosen in
      let some : any spares choices ≡ true = member_any spares choices c listed (rw h) in
      rw some

  -- the test means the proposition
  pub closed_means : BookAccepted book → is_closed_under book rules p ≡ true → ClosedUnder book rules p
  closed_means accepted h c chosen = go (some_broken book rules p.user c) refl
    where
      go : (b : Bool) → some_broken book rules p.user c ≡ b → SomeBroken book rules p.user c
      go true e = broken_some c e
      go false e = absurd (false≢true (sym (choice_open accepted c chosen e) ∙ h))

  pub means_closed : ClosedUnder book rules p → is_closed_under book rules p ≡ true
  means_closed closed = go (is_closed_under book rules p) refl
    where
      go : (b : Bool) → is_closed_under book rules p ≡ b → b ≡ true
      go true e = refl
      go false e =
          let found = open_choice e in
          absurd (false≢true (sym found.2 ∙ some_broken_law found.0 (closed found.0 found.1)))
