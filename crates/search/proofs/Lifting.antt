-- From the tables to the book: what the search finds among places is the first user and choice that break a rule alone.
-- Assumes nothing.
use Prim.Native.Nat.{ℕ, ◌≤◌, ◌<◌}
use native.Mathlib.Omega.{arith}
use mathlib.Core.Path.{◌≡◌, refl, sym, ap, ◌∙◌}
use mathlib.Core.Logic.{⊎_elim}
use mathlib.Core.Bool.{Bool, true, false, ◌&&◌, ◌||◌, not, false≢true}
use mathlib.Core.List.{List}
use lib.ListN.{get_or}
use lib.Dec.{eqb, ltb}
use borrow.Author.Tests.{eqb-true, lt-ltb, ltb-true}
use Rattle.book.specs.Lists.{all, any, up_to}
use Rattle.book.specs.Sets.{has}
use Rattle.book.specs.Blocks.{head_of, rule_at, rule_count}
use Rattle.book.specs.Hierarchies as hierarchies
use Rattle.book.specs.Head.{is_user, user_count, user_parent}
use Rattle.book.specs.Rule.{covers_user, excluded_users, reference_count, user_category}
use Rattle.book.specs.Refusals.{BookAccepted}
use Rattle.book.proofs.Accepted.{RuleHolds, accepted_head, accepted_rule}
use Rattle.book.proofs.Lists.{all_same, and_assoc, and_both, and_left, any_from_same, not_any, or_either}
use Rattle.verdicts.specs.Accesses.{Access, members}
use Rattle.verdicts.specs.Inner.Words.{RuleSound}
use Rattle.verdicts.specs.Breaking.{breaks, some_choice_refused}
use Rattle.verdicts.proofs.Users.{user_below}
use Rattle.verdicts.proofs.Accesses.{leaf_set_below, Apart}
use Rattle.verdicts.proofs.Quantifiers.{any_below}
use Rattle.verdicts.proofs.Sound.{few_rules_law}
use Rattle.search.specs.Choices.{Candidate, candidate_before, is_choice, lighter}
use Rattle.search.specs.Alone.{breaks_alone, candidate_alone, first_alone}
use Rattle.search.specs.Alone as alone
use Rattle.search.specs.Inner.Places.{choice_at}
use Rattle.search.specs.Inner.Table.{CoversHold, HadHolds, TableHolds}
use Rattle.search.specs.Inner.Search.{NeedsFirst, NeedsUser, candidate, drops, others_for, refuses, solves, solves_for}
use Rattle.search.specs.Inner.Weight.{lighter_places}
use Rattle.search.specs.Inner.First.{FirstNeeds, found_of}
use Rattle.std.specs.Prelude.{Option, Some, None}
use Rattle.search.specs.declared.users.Witness.{Witness}
use Rattle.search.proofs.Orders as orders
use Rattle.search.proofs.AloneLaws.{candidate_members}
use Rattle.search.proofs.Placements.{drops_refused}
use Rattle.search.proofs.ChoicePlaces.{Stand, choice_places, lighter_triple, places_choice}
use Rattle.search.proofs.ChoicePlaces.{stands_most}
use Rattle.search.proofs.ChoiceTables.{candidate_stands, refused_own, refuses_places}
use Rattle.search.specs.declared.tables.RuleTable.{RuleTable}

module _ (book : List ℕ) (accepted : BookAccepted book) (sound : (q : ℕ) → q < rule_count book → RuleSound (head_of book) (rule_at book q))
    (r : ℕ) (l : r < rule_count book) (t : List RuleTable) (had covered : List ℕ)
    (tables : TableHolds book (rule_count book) t) (hads : HadHolds (head_of book) had)
    (covers : CoversHold book (rule_count book) covered) where
  -- The rules of the book

  holding : (q : ℕ) → q < rule_count book → RuleHolds (head_of book) (rule_at book q)
  holding q k =
      accepted_rule book accepted q (omega arith)

  leaves_apart : (q : ℕ) → q < rule_count book → Apart (head_of book) (rule_at book q)
  leaves_apart q k i j d li lj h =
      (holding q k).apart i j d li lj (leaf_set_below (head_of book) (rule_at book q) i d h) h

  covers_rule : (u : ℕ) → u < 32 → has (get_or covered r 0) u ≡ covers_user (head_of book) (rule_at book r) u
  covers_rule u lu =
      let m = few_rules_law book accepted in
      covers r (omega arith) u lu ∙ rw (lt-ltb r (rule_count book) l)

  -- Places that stand for a choice, and a user

  module _ (a y x : ℕ) (stand : Stand (head_of book) (rule_at book r) (reference_count (rule_at book r)) a y x) where
    stand_choice : is_choice (head_of book) (rule_at book r) (choice_at a y x) ≡ true
    unfolding is_choice
    stand_choice =
        places_choice (head_of book) (rule_at book r) (reference_count (rule_at book r)) (sound r l).some (sound r l).few
        a y x stand

    stand_refused :
        refuses t r (reference_count (rule_at book r)) a y x
        ≡ some_choice_refused (head_of book) (rule_at book r) (members (choice_at a y x))
    stand_refused =
        refuses_places book (rule_count book) r l t tables (sound r l) (holding r l).restrictions_most a y x
        (reference_count (rule_at book r)) (sound r l).some (sound r l).few stand
        ∙ sym
        (refused_own (head_of book) (rule_at book r) (leaves_apart r l) (accepted_head book accepted) (choice_at a y x)
        stand_choice)

    drops_broken :
        (q : ℕ)
        → q < rule_count book
        → drops t q a y x ≡ some_choice_refused (head_of book) (rule_at book q) (members (choice_at a y x))
    drops_broken q k =
        let m = stands_most (head_of book) (rule_at book r) (reference_count (rule_at book r)) in
        drops_refused book (rule_count book) t tables q k (sound q k) (leaves_apart q k)
        (holding q k).restrictions_most a y x (m 0 a stand.first) (m 1 y stand.second) (m 2 x stand.third)

    module _ (u : ℕ) (lu : u < 32) where
      broken : ℕ → Bool
      broken q = breaks (head_of book) (rule_at book q) u (members (choice_at a y x))

      -- the other rules that are broken
      others_broken :
          any (λ q. others_for r covered u q && drops t q a y x) (up_to 32)
          ≡ any (λ q. not (eqb q r) && broken q) (up_to (rule_count book))
      unfolding others_for broken breaks up_to
      others_broken =
          any_from_same (λ q. others_for r covered u q && drops t q a y x)
          (λ q. ltb q (rule_count book) && (not (eqb q r) && broken q)) 0 32
          (λ q lo hi. go q (omega arith) (ltb q (rule_count book)) refl)
          ∙ any_below (λ q. not (eqb q r) && broken q) (rule_count book) 32 (few_rules_law book accepted)
        where
          turn : (c o s : Bool) → ((c && o) && s) ≡ (o && (c && s))
          turn true true s = refl
          turn true false s = refl
          turn false true s = refl
          turn false false s = refl

          go :
              (q : ℕ)
              → q < 32
              → (b : Bool)
              → ltb q (rule_count book) ≡ b
              → ((has (get_or covered q 0) u && not (eqb q r)) && drops t q a y x)
              ≡ (b && (not (eqb q r) && broken q))
          go q lq true e =
              rw (covers q lq u lu, e, drops_broken q (ltb-true q (rule_count book) e))
              (turn (covers_user (head_of book) (rule_at book q) u) (not (eqb q r))
              (some_choice_refused (head_of book) (rule_at book q) (members (choice_at a y x))))
          go q lq false e = rw (covers q lq u lu, e)

      others_spared :
          not (any (λ q. others_for r covered u q && drops t q a y x) (up_to 32))
          ≡ all (λ q. eqb q r || not (broken q)) (up_to (rule_count book))
      others_spared =
          ap not others_broken
          ∙ not_any (λ q. not (eqb q r) && broken q) (up_to (rule_count book))
          ∙ all_same (λ q. not (not (eqb q r) && broken q)) (λ q. eqb q r || not (broken q))
          (λ q. go (eqb q r) (broken q)) (up_to (rule_count book))
        where
          go : (e b : Bool) → not (not e && b) ≡ (e || not b)
          go true b = refl
          go false b = refl

      pub solves_alone :
          solves_for t r (reference_count (rule_at book r)) had covered u a y x
          ≡ candidate_alone book r (orders.candidate u (choice_at a y x))
      unfolding solves_for solves breaks_alone breaks broken
      solves_alone =
          let able = candidate_stands book (rule_count book) r l t tables had hads in
          rw (
            covers_rule u lu,
            able 0 a,
            able 1 y,
            able 2 x,
            stand.first,
            stand.second,
            stand.third,
            stand_refused,
            others_spared,
          )
          (sym
          (and_assoc (covers_user (head_of book) (rule_at book r) u)
          (some_choice_refused (head_of book) (rule_at book r) (members (choice_at a y x)))
          (all (λ q. eqb q r || not (broken q)) (up_to (rule_count book)))))
          ∙ sym (candidate_members book accepted r l u (choice_at a y x) stand_choice)

  -- what solves stands for a choice, and its user is one
  solves_parts :
      (u a y x : ℕ)
      → u < 32
      → solves_for t r (reference_count (rule_at book r)) had covered u a y x ≡ true
      → (is_user (head_of book) u ≡ true)
      × Stand (head_of book) (rule_at book r) (reference_count (rule_at book r)) a y x
  unfolding solves_for solves covers_user
  solves_parts u a y x lu h =
      let rule = rule_at book r in
      let able = candidate_stands book (rule_count book) r l t tables had hads in
      let at : ℕ → ℕ → Bool = candidate t r (reference_count rule) had in
      let p =
      and_both (has (get_or covered r 0) u) (solves t r (reference_count rule) had (others_for r covered u) a y x) h in
      let q =
      and_left (at 0 a && (at 1 y && at 2 x))
      (refuses t r (reference_count rule) a y x
      && not (any (λ q. others_for r covered u q && drops t q a y x) (up_to 32)))
      p.1 in
      let s = and_both (at 0 a) (at 1 y && at 2 x) q in
      let v = and_both (at 1 y) (at 2 x) s.1 in (
        and_left (is_user (head_of book) u)
            (hierarchies.covers (user_parent (head_of book)) (user_category rule) (excluded_users rule) u)
            (sym (covers_rule u lu) ∙ p.0),
        record {
          first = sym (able 0 a) ∙ s.0;
          second = sym (able 1 y) ∙ v.0;
          third = sym (able 2 x) ∙ v.1;
        },
      )

  -- The first

  -- a user's choice fails where its places do
  fails :
      (c : Candidate)
      → is_user (head_of book) c.user ≡ true
      → is_choice (head_of book) (rule_at book r) c.choice ≡ true
      → ((b z w : ℕ)
      → c.user < 32
      → c.choice ≡ choice_at b z w
      → Stand (head_of book) (rule_at book r) (reference_count (rule_at book r)) b z w
      → solves_for t r (reference_count (rule_at book r)) had covered c.user b z w ≡ false)
      → candidate_alone book r c ≡ false
  unfolding is_choice
  fails c user h none =
      let holds = accepted_head book accepted in
      let most : user_count (head_of book) ≤ 32 = holds.users_most in
      let below : c.user < 32 = omega (arith, user_below (head_of book) c.user user) in
      let p =
      choice_places (head_of book) (rule_at book r) holds (reference_count (rule_at book r)) (sound r l).some
      (sound r l).few c.choice h in
      ap (λ (d : List Access). candidate_alone book r (orders.candidate c.user d)) p.3
      ∙ sym (solves_alone p.0 p.1 p.2 p.4 c.user below)
      ∙ none p.0 p.1 p.2 below p.3 p.4

  -- places before those of a user's choice
  earlier :
      (c : Candidate) (u a y x b z w : ℕ)
      → NeedsUser lighter_places t r (reference_count (rule_at book r)) had covered u a y x
      → Stand (head_of book) (rule_at book r) (reference_count (rule_at book r)) a y x
      → c.choice ≡ choice_at b z w
      → Stand (head_of book) (rule_at book r) (reference_count (rule_at book r)) b z w
      → candidate_before c (orders.candidate u (choice_at a y x)) ≡ true
      → solves_for t r (reference_count (rule_at book r)) had covered c.user b z w ≡ false
  unfolding candidate_before
  earlier c u a y x b z w needs s e d before =
      ⊎_elim (λ (v : ltb c.user u ≡ true). needs.users c.user b z w (ltb-true c.user u v))
      (λ (v : (eqb c.user u && lighter c.choice (choice_at a y x)) ≡ true).
      let p = and_both (eqb c.user u) (lighter c.choice (choice_at a y x)) v in
      rw (eqb-true c.user u p.0)
      (needs.found.earliest b z w
      (lighter_triple (head_of book) (rule_at book r) b z w a y x (reference_count (rule_at book r)) (sound r l).some
      (sound r l).few d s (rw e at p.1))))
      (or_either (ltb c.user u) (eqb c.user u && lighter c.choice (choice_at a y x)) before)

  pub lifted :
      (found : Option Witness)
      → NeedsFirst lighter_places t r (reference_count (rule_at book r)) had covered found
      → FirstNeeds book r found
  unfolding NeedsFirst FirstNeeds found_of
  lifted None h =
      orders.first_none book accepted r l
      (λ c user choice. fails c user choice (λ b z w below e s. h c.user b z w below))
  lifted (Some w) h =
      let u = w.user in
      let a = w.places.first in
      let y = w.places.second in
      let x = w.places.third in
      let p = solves_parts u a y x h.below h.found.solution in
      orders.first_shown book accepted r l (orders.candidate u (choice_at a y x)) p.0 (stand_choice a y x p.1)
      (sym (solves_alone a y x p.1 u h.below) ∙ h.found.solution)
      (λ c user choice before.
      fails c user choice (λ b z w below e s. earlier c u a y x b z w h p.1 e s before))

  -- three places that solve are a choice that breaks r alone: in whatever order they were found, r is not idle
  pub solved_some :
      (u a y x : ℕ)
      → u < 32
      → solves_for t r (reference_count (rule_at book r)) had covered u a y x ≡ true
      → first_alone book r ≡ alone.none
      → ⊥
  solved_some u a y x below h e =
      let p = solves_parts u a y x below h in
      false≢true
      (sym
      (orders.none_alone book accepted r l e (orders.candidate u (choice_at a y x)) p.0 (stand_choice a y x p.1))
      ∙ sym (solves_alone a y x p.1 u below)
      ∙ h)
