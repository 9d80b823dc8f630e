-- Choices of a rule against its restrictions: a choice breaks the rule by its own operations alone, and the tables say so
-- of its places. Assumes nothing.
use Prim.Native.Nat.{ℕ, zero, suc, ◌+◌, ◌/◌, ◌%◌, ◌≤◌, ◌<◌}
use native.Mathlib.Omega.{arith}
use mathlib.Core.Path.{◌≡◌, refl, sym, ap, ◌∙◌}
use mathlib.Core.Bool.{Bool, true, false, ◌&&◌, ◌||◌, not, cond, false≢true}
use mathlib.Core.List.{List, [], ◌∷◌, Memᴰ}
use lib.ListN.{get_or}
use lib.Dec.{eqb, ltb}
use borrow.Author.Tests.{eqb-true, ltb-true}
use Rattle.book.specs.Lists.{all, any, up_to}
use Rattle.book.specs.Sets.{has}
use Rattle.book.specs.Blocks.{head_of, rule_at}
use Rattle.book.specs.Rule.{reference_count, restriction_count, restriction_mask}
use Rattle.book.proofs.Accepted.{HeadHolds}
use Rattle.book.proofs.Lists.{and_both, and_end, and_false, any_from_same, any_same, or_rest, same_test}
use Rattle.verdicts.specs.Accesses.{Access, fits, members, same}
use Rattle.verdicts.specs.Inner.Words.{RuleSound, mask_takes}
use Rattle.verdicts.specs.Breaking.{operations, refuses_all, some_choice_refused}
use Rattle.verdicts.proofs.Choices.{on_three, refuses_padded, refuses_three}
use Rattle.verdicts.proofs.Accesses.{Apart, fits_one, same_equal, same_self}
use Rattle.verdicts.proofs.Quantifiers.{any_below}
use Rattle.search.specs.Obtainable.{can_be_had}
use Rattle.search.specs.Choices.{is_choice, is_choice_from}
use Rattle.search.specs.Inner.Places.{access_at, choice_at, nowhere}
use Rattle.search.specs.Inner.Table.{HadHolds, TableHolds, meets, takes_at, takes_operation}
use Rattle.search.specs.Inner.Closing.{accepted_at}
use Rattle.search.specs.Inner.Search.{candidate, reference_at, refuses}
use Rattle.search.proofs.Rising.{all_member, member_all, member_any}
use Rattle.search.proofs.Orders.{choice_had}
use Rattle.search.proofs.AloneLaws.{members_within, own_refused, refused_choice}
use Rattle.search.proofs.ChoicePlaces.{Stand, choice_one, choice_three, choice_two, stand_one, stand_two}
use Rattle.search.proofs.ChoicePlaces.{stands, stands_at}
use Rattle.search.specs.declared.tables.RuleTable.{RuleTable}

-- A choice breaks its rule by its own operations

module _ (head rule : List ℕ) (apart : Apart head rule) where
  -- accesses of two references differ
  other_access :
      (i j : ℕ) (x y : Access)
      → i < j
      → j < reference_count rule
      → fits head rule i x ≡ true
      → fits head rule j y ≡ true
      → same x y ≡ false
  other_access i j x y l m f g = go (same x y) refl
    where
      go : (b : Bool) → same x y ≡ b → b ≡ false
      go true e =
          let h : fits head rule i y ≡ true = rw (same_equal x y e) at f in
          let z = eqb-true i j (sym (fits_one head rule apart y i j (omega arith) m h) ∙ g) in
          absurd (omega arith)
      go false e = refl

  -- what fits an earlier reference is not chosen for a later one
  not_later :
      (n j : ℕ) (d : List Access) (i : ℕ) (x : Access)
      → is_choice_from head rule n j d ≡ true
      → j + n ≤ reference_count rule
      → i < j
      → fits head rule i x ≡ true
      → any (same x) d ≡ false
  unfolding is_choice_from any
  not_later zero j [] i x h m l f = refl
  not_later zero j (y ∷ d) i x h m l f = absurd (false≢true h)
  not_later (suc n) j [] i x h m l f = absurd (false≢true h)
  not_later (suc n) j (y ∷ d) i x h m l f =
      let a = and_both (can_be_had head y && fits head rule j y) (is_choice_from head rule n (suc j) d) h in
      let b = and_both (can_be_had head y) (fits head rule j y) a.0 in
      rw (
        other_access i j x y l (omega arith) f b.1,
        not_later n (suc j) d i x a.1 (omega arith) (omega arith) f,
      )

  members_rest :
      (y : Access) (c d : List Access)
      → any (same y) d ≡ false
      → all (members (y ∷ c)) d ≡ true
      → all (members c) d ≡ true
  unfolding any
  members_rest y c d none h =
      member_all (members c) d
      (λ z m.
      or_rest (same z y) (any (same z) c) (all_member (members (y ∷ c)) d h z m) (go z m (same z y) refl))
    where
      go : (z : Access) → Memᴰ z d → (b : Bool) → same z y ≡ b → b ≡ false
      go z m true e =
          absurd
          (false≢true
          (sym none ∙ member_any (same y) d z m (rw (same_equal z y e) (same_self y))))
      go z m false e = refl

  -- a choice among the members of a choice is that choice
  same_choice :
      (n j : ℕ) (c d : List Access)
      → is_choice_from head rule n j c ≡ true
      → is_choice_from head rule n j d ≡ true
      → j + n ≤ reference_count rule
      → all (members c) d ≡ true
      → d ≡ c
  unfolding is_choice_from any all
  same_choice zero j [] [] h k m p = refl
  same_choice zero j [] (x ∷ d) h k m p = absurd (false≢true k)
  same_choice zero j (y ∷ c) d h k m p = absurd (false≢true h)
  same_choice (suc n) j [] d h k m p = absurd (false≢true h)
  same_choice (suc n) j (y ∷ c) [] h k m p = absurd (false≢true k)
  same_choice (suc n) j (y ∷ c) (x ∷ d) h k m p =
      let a = and_both (can_be_had head y && fits head rule j y) (is_choice_from head rule n (suc j) c) h in
      let b = and_both (can_be_had head x && fits head rule j x) (is_choice_from head rule n (suc j) d) k in
      let fy = (and_both (can_be_had head y) (fits head rule j y) a.0).1 in
      let fx = (and_both (can_be_had head x) (fits head rule j x) b.0).1 in
      let q = and_both (members (y ∷ c) x) (all (members (y ∷ c)) d) p in
      let first =
      or_first (same x y) (any (same x) c) q.0 (not_later n (suc j) c j x a.1 (omega arith) (omega arith) fx) in
      let rest = members_rest y c d (not_later n (suc j) d j y b.1 (omega arith) (omega arith) fy) q.1 in
      cc (same_equal x y first, same_choice n (suc j) c d a.1 b.1 (omega arith) rest)
    where
      or_first : (s t : Bool) → (s || t) ≡ true → t ≡ false → s ≡ true
      or_first true t e n = refl
      or_first false t e n = absurd (false≢true (sym n ∙ e))

  pub refused_own :
      HeadHolds head
      → (c : List Access)
      → is_choice head rule c ≡ true
      → some_choice_refused head rule (members c) ≡ refuses_all rule (operations c)
  unfolding is_choice
  refused_own holds c h =
      same_test (some_choice_refused head rule (members c)) (refuses_all rule (operations c))
      (λ e.
      let found =
      refused_choice head rule (members c)
      (members_within c (can_be_had head) (choice_had head rule (reference_count rule) 0 c h)) e in
      rw (same_choice (reference_count rule) 0 c found.0 h found.1 (omega arith) found.2) at found.3)
      (own_refused head rule holds c h)

-- The tables of rule r

third_first : (x y z : Bool) → (x && (y && z)) ≡ (z && (x && y))
third_first true true z = sym (and_end z)
third_first true false z = sym (and_false z)
third_first false y z = sym (and_false z)

first_last : (x y z : Bool) → (x && (y && z)) ≡ (y && (z && x))
first_last x y z = third_first x y z ∙ third_first z x y

module _ (book : List ℕ) (count r : ℕ) (l : r < count) (t : List RuleTable) (tables : TableHolds book count t) where
  -- which places can be chosen
  module _ (had : List ℕ) (hads : HadHolds (head_of book) had) where
    pub candidate_stands :
        (i p : ℕ)
        → candidate t r (reference_count (rule_at book r)) had i p
        ≡ stands_at (head_of book) (rule_at book r) (reference_count (rule_at book r)) i p
    unfolding candidate stands_at stands
    candidate_stands i p =
        go (ltb (reference_at (reference_count (rule_at book r)) i) (reference_count (rule_at book r))) (ltb p nowhere) refl
        refl
      where
        go :
            (b c : Bool)
            → ltb (reference_at (reference_count (rule_at book r)) i) (reference_count (rule_at book r)) ≡ b
            → ltb p nowhere ≡ c
            → cond b
            (c && (has (get_or had (p / 64) 0) (p % 64) && meets t r (reference_at (reference_count (rule_at book r)) i) p))
            (eqb p nowhere)
            ≡ cond b
            (c
            && (can_be_had (head_of book) (access_at p)
            && fits (head_of book) (rule_at book r) (reference_at (reference_count (rule_at book r)) i) (access_at p)))
            (eqb p nowhere)
        go true true eb ec =
            let below : p < nowhere = ltb-true p nowhere ec in
            rw (
              hads p below,
              tables.references r (reference_at (reference_count (rule_at book r)) i) p l (omega arith) (omega arith),
              eb,
              ec,
            )
        go true false eb ec = refl
        go false c eb ec = refl

  -- which operations the restrictions take
  takes : ℕ → ℕ → ℕ → Bool
  takes i p j = mask_takes (restriction_mask (rule_at book r) j i) (p % 16)

  accepted_takes :
      restriction_count (rule_at book r) ≤ 8
      → (i k m b c p : ℕ)
      → i < 3
      → k < 3
      → m < 3
      → accepted_at t r i k m b c p
      ≡ any (λ j. takes i p j && (takes k b j && takes m c j)) (up_to (restriction_count (rule_at book r)))
  unfolding accepted_at takes_operation takes up_to
  accepted_takes few i k m b c p li lk lm =
      any_from_same (λ j. takes_at t r i j p && (takes_at t r k j b && takes_at t r m j c))
      (λ j. ltb j (restriction_count (rule_at book r)) && (takes i p j && (takes k b j && takes m c j))) 0 8
      (λ j lo hi.
      rw (
        tables.restrictions r i j p l li (omega arith),
        tables.restrictions r k j b l lk (omega arith),
        tables.restrictions r m j c l lm (omega arith),
      )
      (spread (ltb j (restriction_count (rule_at book r))) (takes i p j) (takes k b j) (takes m c j)))
      ∙ any_below (λ j. takes i p j && (takes k b j && takes m c j)) (restriction_count (rule_at book r)) 8 few
    where
      spread : (a x y z : Bool) → ((a && x) && ((a && y) && (a && z))) ≡ (a && (x && (y && z)))
      spread true x y z = refl
      spread false x y z = refl

  module _
      (sound : RuleSound (head_of book) (rule_at book r))
      (few : restriction_count (rule_at book r) ≤ 8)
      (a y x : ℕ)
    where
      pub refuses_places :
          (n : ℕ)
          → 1 ≤ n
          → n ≤ 3
          → Stand (head_of book) (rule_at book r) n a y x
          → refuses t r n a y x ≡ refuses_all (rule_at book r) (operations (choice_at a y x))
      unfolding refuses operations access_at on_three refuses_three takes
      refuses_places zero lo hi s = absurd (omega arith)
      refuses_places (suc zero) lo hi s =
          let head = head_of book in
          let rule = rule_at book r in
          let p = stand_one head rule a y x s in
          ap not (accepted_takes few 0 1 2 a y x (omega arith) (omega arith) (omega arith))
          ∙ rw (choice_one head rule a y x s, p.0, p.1) (sym (refuses_padded head rule sound (x % 16 ∷ [])))
      refuses_places (suc (suc zero)) lo hi s =
          let head = head_of book in
          let rule = rule_at book r in
          let m = restriction_count rule in
          ap not
          (accepted_takes few 1 2 0 a y x (omega arith) (omega arith) (omega arith)
          ∙ any_same (λ j. takes 1 x j && (takes 2 a j && takes 0 y j))
          (λ j. takes 0 y j && (takes 1 x j && takes 2 a j))
          (λ j. third_first (takes 1 x j) (takes 2 a j) (takes 0 y j)) (up_to m))
          ∙ rw (choice_two head rule a y x s, (stand_two head rule a y x s).0)
          (sym (refuses_padded head rule sound (y % 16 ∷ x % 16 ∷ [])))
      refuses_places (suc (suc (suc zero))) lo hi s =
          let head = head_of book in
          let rule = rule_at book r in
          let m = restriction_count rule in
          ap not
          (accepted_takes few 2 0 1 a y x (omega arith) (omega arith) (omega arith)
          ∙ any_same (λ j. takes 2 x j && (takes 0 a j && takes 1 y j))
          (λ j. takes 0 a j && (takes 1 y j && takes 2 x j))
          (λ j. first_last (takes 2 x j) (takes 0 a j) (takes 1 y j)) (up_to m))
          ∙ rw (choice_three head rule a y x s) (sym (refuses_padded head rule sound (a % 16 ∷ y % 16 ∷ x % 16 ∷ [])))
      refuses_places (suc (suc (suc (suc n)))) lo hi s = absurd (omega arith)
