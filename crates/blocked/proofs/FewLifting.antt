-- From the tables to the book: what a search that starts from them finds, and the few rules that are left. Assumes
-- nothing.
use Prim.Native.Nat.{ℕ, ◌+◌, ◌-◌, ◌%◌, ◌<◌}
use native.Mathlib.Nat.{lt_of_lt_of_le}
use native.Mathlib.Omega.{arith}
use mathlib.Core.Path.{◌≡◌, refl, sym, ap, fun_ext, ◌∙◌}
use mathlib.Core.Bool.{Bool, true, false, ◌&&◌, ◌||◌, not, false≢true}
use mathlib.Core.List.{List}
use lib.Dec.{eqb, ltb}
use lib.Pow.{pow_mono}
use Rattle.std.specs.Prelude.{Option, Some, None}
use borrow.Author.Tests.{le-ltb, lt-ltb, ltb-false, ltb-true}
use Rattle.book.specs.Lists.{up_to}
use Rattle.book.specs.Sets.{has}
use Rattle.book.specs.Blocks.{head_of, rule_at, rule_count}
use Rattle.book.specs.Rule.{covers_user}
use Rattle.book.specs.Refusals.{BookAccepted}
use Rattle.book.proofs.Lists.{and_left, and_right, and_true, any_same}
use Rattle.book.proofs.Members.{same_members}
use Rattle.verdicts.specs.Accesses.{members}
use Rattle.verdicts.specs.Breaking.{breaks, some_choice_refused}
use Rattle.verdicts.proofs.Sound.{few_rules_law}
use Rattle.search.proofs.Fours.{has_cut}
use Rattle.search.proofs.Solutions.{fails}
use Rattle.blocked.specs.Associations.{Pair}
use Rattle.blocked.specs.Open.{first_closed, is_closed, is_closed_under, operation_choices, some_broken}
use Rattle.blocked.specs.Few.{after_trials, few_left, few_rules, leaves_closed, others, with_asking, without}
use Rattle.blocked.specs.Answers.{causes_of, few_answer, unblocked}
use Rattle.blocked.specs.Inner.Cells.{Cells}
use Rattle.blocked.specs.Inner.Pairs.{Ready}
use Rattle.blocked.specs.Inner.Rows.{OpensOf}
use Rattle.blocked.specs.Inner.Users.{DeniedFirst, DeniedUser, counting_rules, covering_rules}
use Rattle.blocked.specs.Inner.First.{FirstDenied, pair_at}
use Rattle.blocked.specs.Inner.Few.{CellsGiven, Told}
use Rattle.blocked.specs.Inner.Start.{Started}
use Rattle.blocked.specs.Inner.Tables.{CellsBy, FirstBy, ReadyBy}
use Rattle.blocked.specs.declared.tables.Tables.{Tables}
use Rattle.blocked.specs.declared.users.Denial.{Denial}
use Rattle.blocked.proofs.ScopeLaws.{first_closed_law}
use Rattle.blocked.proofs.TripleLaws.{opens_fewer}
use Rattle.blocked.proofs.UserLaws.{fewer_prepared}
use Rattle.blocked.proofs.Lifting.{covers_rule, lifted, open_opens, opens_open, ready}
use Rattle.blocked.proofs.TrialLaws.{and_exchange, holds, trials_counting, trials_past, without_within}
use Rattle.blocked.proofs.FewLaws.{few_bits, few_small, others_closed, others_past}

-- Rules that do not cover the user

-- whether they count is no matter
covering_same :
    (book : List ℕ) (p : Pair) (r : ℕ) (left : ℕ → Bool)
    → leaves_closed book r p left
    ≡ leaves_closed book r p (λ q. left q && covers_user (head_of book) (rule_at book q) p.user)
unfolding leaves_closed is_closed_under some_broken breaks with_asking
covering_same book p r left =
    ap not
    (any_same _ _
    (λ c. ap not
    (any_same _ _
    (λ q.
    go (eqb q r) (left q) (covers_user (head_of book) (rule_at book q) p.user)
    (some_choice_refused (head_of book) (rule_at book q) (members c)))
    (up_to (rule_count book))))
    (operation_choices (head_of book) p.association))
  where
    go : (a b c d : Bool) → ((a || b) && (c && d)) ≡ ((a || (b && c)) && (c && d))
    go true b c d = refl
    go false true true d = refl
    go false true false d = refl
    go false false c d = refl

module _ (book : List ℕ) (accepted : BookAccepted book) (r : ℕ) (l : r < rule_count book) (s : Tables)
    (given : Started book r s) where
  pub started_ready : Ready s.rules s.met s.all s.scope.seconds s.scope.thirds s.covered
  started_ready =
      ready book accepted given.sound r l s.rules given.had s.covered given.tables given.hads given.covers
      s.scope.firsts s.scope.seconds s.scope.thirds given.first given.second given.third s.met
      s.all given.met_holds given.all_rules

  abbrev Finds : Option Denial → Type 0
  Finds found = ReadyBy s → FirstBy s r found

  pub started_denied : (found : Option Denial) → Finds found → FirstDenied book r found
  started_denied found h =
      lifted book accepted given.sound r l s.rules given.had s.covered given.tables given.hads given.covers
      s.scope.firsts s.scope.seconds s.scope.thirds given.first given.second given.third found
      (h started_ready)

  pub nobody_causes : (found : Option Denial) → found ≡ None → Finds found → unblocked ≡ causes_of book r (first_closed book r)
  unfolding FirstDenied causes_of
  nobody_causes found e h = sym (ap (causes_of book r) (rw e at (started_denied found h)))

  -- The user and the cells that were found

  module _ (u b z w : ℕ) (denied : DeniedUser s.rules r s.scope.firsts s.scope.seconds s.scope.thirds s.covered u b z w)
      (counts : ℕ) (bits : (q : ℕ) → has counts q ≡ (ltb q 32 && covering_rules s.covered u q)) where
    abbrev here : Pair
    here = pair_at u b z w

    cells : Cells s.scope.firsts s.scope.seconds s.scope.thirds b z w
    cells = denied.shut.cells

    covered_small : (q : ℕ) → has counts q ≡ true → (q < 32) × (covering_rules s.covered u q ≡ true)
    covered_small q h =
        let both = sym (bits q) ∙ h in (
          ltb-true q 32 (and_left (ltb q 32) (covering_rules s.covered u q) both),
          and_right (ltb q 32) (covering_rules s.covered u q) both,
        )

    pub asking_counts : has counts r ≡ true
    asking_counts =
        let few = few_rules_law book accepted in
        bits r ∙ rw (lt-ltb r 32 (omega arith)) denied.covers

    pub cells_given : CellsGiven s.rules s.met counts s.scope b z w
    cells_given =
        record {
          prepared =
              fewer_prepared s.rules s.met s.scope (has counts) (has s.all)
              (λ q low h. started_ready.among u q denied.below low (covered_small q h).1)
              started_ready.prepared;
          cells = cells;
        }

    user : covers_user (head_of book) (rule_at book r) u ≡ true
    user =
        sym
        (covers_rule book accepted given.sound r l s.rules given.had s.covered given.tables given.hads
        given.covers s.scope.firsts s.scope.seconds s.scope.thirds given.first given.second
        given.third u denied.below)
        ∙ denied.covers

    -- the rules that count and cover the user, by the word
    counting : (ℕ → Bool) → ℕ → Bool
    counting rules q = rules q && has counts q

    opens_pair : (rules : ℕ → Bool) → OpensOf s.rules (counting rules) s.scope b z w → is_closed_under book rules here ≡ false
    unfolding counting
    opens_pair rules o =
        opens_open book accepted given.sound r l s.rules given.had s.covered given.tables given.hads
        given.covers s.scope.firsts s.scope.seconds s.scope.thirds given.first given.second
        given.third b z w cells rules u denied.below
        (opens_fewer s.rules s.scope (counting_rules rules s.covered u) (counting rules)
        (λ q low h.
        and_true (rules q) (has counts q) (and_left (rules q) (covering_rules s.covered u q) h)
        (bits q
        ∙ and_true (ltb q 32) (covering_rules s.covered u q) (lt-ltb q 32 low)
        (and_right (rules q) (covering_rules s.covered u q) h)))
        b z w o)

    pair_opens : (rules : ℕ → Bool) → is_closed_under book rules here ≡ false → OpensOf s.rules (counting rules) s.scope b z w
    unfolding counting
    pair_opens rules h =
        opens_fewer s.rules s.scope (counting rules) (counting_rules rules s.covered u)
        (λ q low g.
        and_true (rules q) (covering_rules s.covered u q) (and_left (rules q) (has counts q) g)
        (covered_small q (and_right (rules q) (has counts q) g)).1)
        b z w
        (open_opens book accepted given.sound r l s.rules given.had s.covered given.tables given.hads
        given.covers s.scope.firsts s.scope.seconds s.scope.thirds given.first given.second
        given.third b z w cells rules u denied.below user h)

    pub cells_told : Told s.rules s.scope b z w r counts (leaves_closed book r here)
    unfolding leaves_closed counting
    cells_told =
        record {
          shut = λ left h.
              holds (is_closed_under book (with_asking r left) here)
              (λ free. h.closed (pair_opens (with_asking r left) free));
          opens = λ left o. opens_pair (with_asking r left) o;
        }

    counts_covers : (q : ℕ) → has counts q ≡ (ltb q (rule_count book) && covers_user (head_of book) (rule_at book q) u)
    counts_covers q = bits q ∙ go (ltb q 32) refl
      where
        go :
            (c : Bool)
            → ltb q 32 ≡ c
            → (c && covering_rules s.covered u q)
            ≡ (ltb q (rule_count book) && covers_user (head_of book) (rule_at book q) u)
        go true e = given.covers q (ltb-true q 32 e) u denied.below
        go false e =
            let past = ltb-false q 32 e in
            let few = few_rules_law book accepted in
            rw (le-ltb q (rule_count book) (omega arith))

    counts_below : (q : ℕ) → has counts q ≡ true → ltb q (rule_count book) ≡ true
    counts_below q h =
        and_left (ltb q (rule_count book)) (covers_user (head_of book) (rule_at book q) u) (sym (counts_covers q) ∙ h)

    counted_others :
        (q : ℕ) → without (has counts) r q ≡ (others book r q && covers_user (head_of book) (rule_at book q) u)
    unfolding without others
    counted_others q =
        ap (λ c. c && not (eqb q r)) (counts_covers q)
        ∙ and_exchange (ltb q (rule_count book)) (covers_user (head_of book) (rule_at book q) u) (not (eqb q r))

    closed : is_closed book here ≡ true
    unfolding DeniedFirst FirstDenied
    closed = (first_closed_law book r here (started_denied (Some (record { user = u; first = b; second = z; third = w })) (λ i. denied)).0).1

    -- those left of the rules that cover the user are those left of all
    pub few_counted :
        after_trials (leaves_closed book r here) 32 (without (has counts) r) ≡ few_left book r here
    unfolding few_left
    few_counted =
        let n = rule_count book in
        let some = few_rules_law book accepted in
        let e : 32 ≡ (32 - n) + n = omega arith in
        ap (λ k. after_trials (leaves_closed book r here) k (without (has counts) r)) e
        ∙ trials_past (leaves_closed book r here) n (32 - n) (without (has counts) r)
        (λ q past.
        fails (without (has counts) r q)
        (λ h.
        let below = ltb-true q n (counts_below q (without_within (has counts) r q h)) in
        omega arith))
        ∙ ap (after_trials (leaves_closed book r here) n) (fun_ext counted_others)
        ∙ sym
        (trials_counting (leaves_closed book r here) (λ q. covers_user (head_of book) (rule_at book q) u)
        (covering_same book here r) n (others book r) (others_closed book accepted r here closed)
        (λ q past h. absurd (false≢true (sym (others_past book accepted r here q past) ∙ h))))

    pub user_causes :
        (found : Option Denial) (word : ℕ)
        → found ≡ Some (record { user = u; first = b; second = z; third = w })
        → Finds found
        → ((q : ℕ) → has word q ≡ after_trials (leaves_closed book r here) 32 (without (has counts) r) q)
        → few_answer (word % 4294967296) ≡ causes_of book r (first_closed book r)
    unfolding FirstDenied causes_of
    user_causes found word e h few =
        let some = few_rules_law book accepted in
        let same : word % 4294967296 ≡ few_rules book r here =
        same_members 32 (word % 4294967296) (few_rules book r here) (omega arith)
        (lt_of_lt_of_le (few_small book accepted r here) (pow_mono some))
        (λ q low.
        has_cut 32 word q low ∙ few q ∙ ap (λ (f : ℕ → Bool). f q) (few_counted ∙ sym (few_bits book accepted r here))) in
        rw same (sym (ap (causes_of book r) (rw e at (started_denied found h)).0))

  pub user_found :
      (d : Denial) (found : Option Denial)
      → found ≡ Some d
      → Finds found
      → (counts : ℕ)
      → ((q : ℕ) → has counts q ≡ (ltb q 32 && covering_rules s.covered d.user q))
      → (word : ℕ)
      → ((passes : (ℕ → Bool) → Bool)
      → CellsBy s d counts
      → has counts r ≡ true
      → Told s.rules s.scope d.first d.second d.third r counts passes
      → (q : ℕ)
      → has word q ≡ after_trials passes 32 (without (has counts) r) q)
      → few_answer (word % 4294967296) ≡ causes_of book r (first_closed book r)
  unfolding DeniedFirst
  user_found d found e h counts bits word few =
      let denied = rw e at (h started_ready) in
      user_causes d.user d.first d.second d.third denied counts bits found word e h
      (few (leaves_closed book r (pair_at d.user d.first d.second d.third)) (cells_given d.user d.first d.second d.third denied counts bits)
      (asking_counts d.user d.first d.second d.third denied counts bits) (cells_told d.user d.first d.second d.third denied counts bits))
