-- N6: the rules that are left when the others have been tried leave the association closed with the asking rule, none
-- of them can be spared, and their mask is the least; what Culprits answers says so. Assumes nothing.
use Prim.Native.Nat.{ℕ, ◌^◌, ◌≤◌, ◌<◌}
use native.Mathlib.Nat.{le_trans, lt_of_le_of_lt, lt_of_lt_of_le}
use native.Mathlib.Omega.{arith}
use mathlib.Core.Path.{◌≡◌, refl, sym, ap, subst, fun_ext, ◌∙◌}
use mathlib.Core.Bool.{Bool, true, false, ◌&&◌, ◌||◌, not, false≢true}
use mathlib.Core.List.{List}
use Rattle.std.specs.Prelude.{Some, Ok, Err}
use lib.Bits.{bit_and, and_le_l, and_le_r}
use lib.Dec.{eqb, ltb}
use lib.Pow.{pow_mono}
use borrow.Author.Tests.{eq-eqb, eqb-false, lt-ltb, le-ltb, ltb-true, ne_eqb}
use Rattle.book.specs.Lists.{up_to}
use Rattle.book.specs.Sets.{has}
use Rattle.book.specs.Blocks.{rule_count}
use Rattle.book.specs.Refusals.{BookAccepted}
use Rattle.book.specs.Tests.{Outcome, Passes, first_failing}
use Rattle.book.specs.declared.refusal.Refusal.{Refusal}
use Rattle.book.proofs.Answers.{answered_passed, answered_refused, refused_passed}
use Rattle.book.proofs.Lists.{and_left, and_right, and_second, and_true}
use Rattle.book.proofs.Members.{has_and, same_members}
use Rattle.lineage.specs.Accesses.{word_of}
use Rattle.lineage.proofs.Words.{word_of_law}
use Rattle.verdicts.proofs.Sound.{few_rules_law}
use Rattle.search.specs.Inner.Closing.{Within}
use Rattle.search.specs.Alone.{First, none, shown}
use Rattle.search.proofs.Solutions.{fails}
use Rattle.blocked.specs.Associations.{Pair}
use Rattle.blocked.specs.Open.{first_closed, is_closed, is_closed_under}
use Rattle.blocked.specs.Few.{few_left, few_rules, leaves_closed, others, with_asking, without}
use Rattle.blocked.specs.Answers.{blocked_answer, blocked_tests, blocking_of, closed_answer}
use Rattle.blocked.specs.Answers.{Causes, causes_of, culprits_answer, few_answer, unblocked}
use Rattle.blocked.specs.Demand.{BlockedAccepted}
use Rattle.blocked.specs.Minimal.{Behind, Caused, Lowest, Minimal, OpenUnder, ProperPart}
use Rattle.blocked.proofs.OpenLaws.{closed_means, means_closed, open_choice, some_broken_law}
use Rattle.blocked.proofs.ScopeLaws.{first_closed_law}
use Rattle.blocked.proofs.DemandLaws.{blocked_accepted, blocked_answer_law, blocked_passes, first_means, none_means}
use Rattle.blocked.proofs.DemandLaws.{one_named}
use Rattle.blocked.proofs.TrialLaws.{narrower, trials_least, trials_need, trials_pass, trials_within, within_without}

-- a set whose members are among a number's is no greater number
word_least : (f : ℕ → Bool) (n m : ℕ) → Within f (has m) → word_of f (up_to n) ≤ m
word_least f n m within =
    let word = word_of f (up_to n) in
    let small = (word_of_law f n).0 in
    let same : word ≡ bit_and m word =
    same_members n word (bit_and m word) small (lt_of_le_of_lt (and_le_r m word) small)
    (λ i l.
    sym
    (has_and m word i
    ∙ and_second (has m i) (has word i)
    (λ h. within i (and_right (ltb i n) (f i) (sym ((word_of_law f n).1 i) ∙ h))))) in
    subst (λ w. w ≤ m) (sym same) (and_le_l m word)

module _ (book : List ℕ) (accepted : BookAccepted book) where
  -- more rules leave no less closed
  pub closed_wider :
      (a b : ℕ → Bool) (p : Pair)
      → ((q : ℕ) → q < rule_count book → a q ≡ true → b q ≡ true)
      → is_closed_under book a p ≡ true
      → is_closed_under book b p ≡ true
  closed_wider a b p within h =
      means_closed book b p
      (λ c chosen.
      let broken = closed_means book a p accepted h c chosen in
      (broken.0, broken.1, within broken.0 broken.1 broken.2, broken.3))

  open_under : (rules : ℕ → Bool) (p : Pair) → is_closed_under book rules p ≡ false → OpenUnder book rules p
  open_under rules p h =
      let found = open_choice book rules p h in (
        found.0,
        found.1,
        λ broken. false≢true (sym found.2 ∙ some_broken_law book rules p found.0 broken),
      )

  module _ (r : ℕ) (p : Pair) where
    asking_wider :
        (a b : ℕ → Bool)
        → ((q : ℕ) → q < rule_count book → (q ≡ r → ⊥) → a q ≡ true → b q ≡ true)
        → (q : ℕ)
        → q < rule_count book
        → with_asking r a q ≡ true
        → with_asking r b q ≡ true
    unfolding with_asking
    asking_wider a b within q l h = go (eqb q r) refl h
      where
        go : (x : Bool) → eqb q r ≡ x → (x || a q) ≡ true → (x || b q) ≡ true
        go true e k = refl
        go false e k = within q l (eqb-false q r e) k

    pub leaves_wider :
        (a b : ℕ → Bool) → Within a b → leaves_closed book r p a ≡ true → leaves_closed book r p b ≡ true
    unfolding leaves_closed
    leaves_wider a b within =
        closed_wider (with_asking r a) (with_asking r b) p (asking_wider a b (λ q l other. within q))

    others_there : (q : ℕ) → q < rule_count book → (q ≡ r → ⊥) → others book r q ≡ true
    unfolding others
    others_there q l other = rw (lt-ltb q (rule_count book) l, ne_eqb q r other)

    pub others_past : (q : ℕ) → rule_count book ≤ q → others book r q ≡ false
    unfolding others
    others_past q l = rw (le-ltb q (rule_count book) l)

    -- the rules that are left are others of the book
    few_others : Within (few_left book r p) (others book r)
    unfolding few_left
    few_others = trials_within (leaves_closed book r p) (rule_count book) (others book r)

    few_below : (q : ℕ) → few_left book r p q ≡ true → ltb q (rule_count book) ≡ true
    unfolding others
    few_below q h = and_left (ltb q (rule_count book)) (not (eqb q r)) (few_others q h)

    pub few_bits : has (few_rules book r p) ≡ few_left book r p
    unfolding few_rules
    few_bits =
        fun_ext
        (λ q.
        (word_of_law (few_left book r p) (rule_count book)).1 q
        ∙ and_second (ltb q (rule_count book)) (few_left book r p q) (few_below q))

    pub few_small : few_rules book r p < 2 ^ rule_count book
    unfolding few_rules
    few_small = (word_of_law (few_left book r p) (rule_count book)).0

    pub asking_clear : has (few_rules book r p) r ≡ false
    unfolding others
    asking_clear =
        fails (has (few_rules book r p) r)
        (λ h.
        let other = and_right (ltb r (rule_count book)) (not (eqb r r)) (few_others r (rw few_bits at h)) in
        false≢true (rw (eq-eqb r r refl) at other))

    module _ (closed : is_closed book p ≡ true) where
      -- all others leave it closed, as all rules do
      pub others_closed : leaves_closed book r p (others book r) ≡ true
      unfolding leaves_closed with_asking others
      others_closed =
          closed_wider (λ q. true) (with_asking r (others book r)) p
          (λ q l t. go (eqb q r) (ltb q (rule_count book)) (lt-ltb q (rule_count book) l))
          closed
        where
          go : (b c : Bool) → c ≡ true → (b || (c && not b)) ≡ true
          go true c e = refl
          go false c e = rw e

      few_closed : leaves_closed book r p (has (few_rules book r p)) ≡ true
      unfolding few_left
      few_closed =
          rw few_bits (trials_pass (leaves_closed book r p) (rule_count book) (others book r) others_closed)

      fewer_open :
          (fewer : ℕ → Bool) → ProperPart fewer (few_rules book r p) → leaves_closed book r p fewer ≡ false
      unfolding few_left
      fewer_open fewer part =
          let q = part.missing.0 in
          let here : few_left book r p q ≡ true = rw few_bits at part.missing.1 in
          narrower (leaves_closed book r p) leaves_wider fewer (without (few_left book r p) q)
          (within_without fewer (few_left book r p) q (λ j h. rw few_bits at (part.within j h)) part.missing.2)
          (trials_need (leaves_closed book r p) leaves_wider (rule_count book) (others book r) q
          (ltb-true q (rule_count book) (few_below q here)) here)

      pub few_minimal : Minimal book r p (few_rules book r p)
      unfolding leaves_closed
      few_minimal =
          record {
            rules = λ q h. ltb-true q (rule_count book) (few_below q (rw few_bits at h));
            asking = asking_clear;
            closed = closed_means book (with_asking r (has (few_rules book r p))) p accepted few_closed;
            opens = λ fewer part. open_under (with_asking r fewer) p (fewer_open fewer part);
          }

      pub few_lowest : Lowest book r p (few_rules book r p)
      unfolding few_rules few_left leaves_closed
      few_lowest other h =
          let some : ℕ → Bool = λ q. others book r q && has other q in
          let passes =
          closed_wider (with_asking r (has other)) (with_asking r some) p (asking_wider (has other) some
          (λ q l away g. and_true (others book r q) (has other q) (others_there q l away) g))
          (means_closed book (with_asking r (has other)) p h) in
          le_trans
          (trials_least (leaves_closed book r p) leaves_wider (rule_count book) (others book r) some
          (λ q g. and_left (others book r q) (has other q) g)
          (λ q l. ap (λ b. b && has other q) (others_past q l) ∙ sym (others_past q l))
          passes)
          (word_least some (rule_count book) other (λ q g. and_right (others book r q) (has other q) g))

-- The answer

module _ (book : List ℕ) (r : ℕ) where
  pub culprits_answer_law : Passes (blocked_tests book r) → culprits_answer book r ≡ causes_of book r (first_closed book r)
  unfolding culprits_answer
  culprits_answer_law h = answered_passed (blocked_tests book r) Err (causes_of book r (first_closed book r)) h

  pub culprits_refused :
      (x : Refusal) → first_failing (blocked_tests book r) ≡ Err x → Err x ≡ culprits_answer book r
  unfolding culprits_answer
  culprits_refused x h =
      sym (answered_refused (blocked_tests book r) Err (causes_of book r (first_closed book r)) x h)

  -- an answer that is no refusal was given to an accepted call
  pub culprits_given : ((x : Refusal) → culprits_answer book r ≡ Err x → ⊥) → BlockedAccepted book r
  culprits_given told = go (first_failing (blocked_tests book r)) refl
    where
      go : (f : Outcome) → first_failing (blocked_tests book r) ≡ f → BlockedAccepted book r
      go (Ok done) e = blocked_accepted book r e
      go (Err x) e = absurd (told x (sym (culprits_refused x e)))

unlike : (mask : ℕ) → few_answer mask ≡ unblocked → ⊥
unlike mask e =
    let z : ◌≡◌ {A = ℕ} 0 1 = cc in
    omega arith

pub caused : (book : List ℕ) (r : ℕ) → BlockedAccepted book r → Caused book r (culprits_answer book r)
unfolding causes_of blocking_of
caused book r given =
    rw (culprits_answer_law book r passes) (go (first_closed book r) refl)
  where
    passes : Passes (blocked_tests book r)
    passes = blocked_passes book r given

    go : (f : First Pair) → first_closed book r ≡ f → Caused book r (causes_of book r f)
    go none e =
        record {
          unblocked_none = λ i. none_means book r e;
          none_unblocked = λ h. refl;
          otherwise = λ h. absurd (h refl);
          named = λ p mask within told f. absurd (unlike mask (sym f));
        }
    go (shown p) e =
        let accepted = given.book_accepted in
        let first = first_means book r p accepted e in
        let closed = (first_closed_law book r p e).1 in
        let told : blocked_answer book r ≡ closed_answer p = blocked_answer_law book r passes ∙ ap blocking_of e in
        let behind : Behind book r p (few_rules book r p) =
        record {
          first = first;
          minimal = few_minimal book accepted r p closed;
          lowest = few_lowest book accepted r p closed;
        } in
        record {
          unblocked_none = λ i. absurd (unlike (few_rules book r p) i);
          none_unblocked = λ h. absurd (h p first.scope first.closed);
          otherwise = λ h. (p, few_rules book r p, refl, behind);
          named = λ q mask within other f.
              let same : few_rules book r p ≡ mask = cc in
              let here : p ≡ q = one_named book r p q given first.scope within (sym told ∙ other) in
              rw (← same, ← here) behind;
        }

-- a mask that is given has 32 bits, and the asking rule's is clear
pub culprits_mask :
    (book : List ℕ) (r mask : ℕ)
    → culprits_answer book r ≡ few_answer mask
    → BlockedAccepted book r × (r < 32) × (mask < 2 ^ 32) × (has mask r ≡ false)
unfolding causes_of
culprits_mask book r mask h =
    let given = culprits_given book r (λ x e. refused x (sym h ∙ e)) in
    let few : rule_count book ≤ 32 = few_rules_law book given.book_accepted in
    let l : r < rule_count book = given.rule_there in
    let told = go given few (first_closed book r) (sym (culprits_answer_law book r (blocked_passes book r given)) ∙ h) in
    (given, omega arith, told.0, told.1)
  where
    refused : (x : Refusal) → few_answer mask ≡ Err x → ⊥
    refused x e = refused_passed x (Some mask) (sym e)

    go :
        BlockedAccepted book r
        → rule_count book ≤ 32
        → (f : First Pair)
        → causes_of book r f ≡ few_answer mask
        → (mask < 2 ^ 32) × (has mask r ≡ false)
    go given few none e = let z : ◌≡◌ {A = ℕ} 0 1 = cc in absurd (omega arith)
    go given few (shown p) e =
        let accepted = given.book_accepted in
        let same : few_rules book r p ≡ mask = cc in (
          rw (← same) (lt_of_lt_of_le (few_small book accepted r p) (pow_mono few)),
          rw (← same) (asking_clear book accepted r p),
        )

-- an answer by the definition keeps it
pub culprits_promises :
    (book : List ℕ) (r : ℕ) (answer : Causes)
    → answer ≡ culprits_answer book r
    → BlockedAccepted book r
    → Caused book r answer
culprits_promises book r answer e given = rw e (caused book r given)
