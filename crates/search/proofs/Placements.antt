-- Three places break a rule by the tables exactly when their accesses do by the book: a placement gives each reference
-- one of the places. Assumes nothing.
use Prim.Native.Nat.{ℕ, ◌%◌, ◌≤◌, ◌<◌}
use native.Mathlib.Omega.{arith}
use mathlib.Core.Path.{◌≡◌, refl, sym, ap, ◌∙◌}
use mathlib.Core.Bool.{Bool, true, false, ◌&&◌, ◌||◌, not, cond, false≢true}
use mathlib.Core.List.{List, [], ◌∷◌, ◌++◌}
use lib.Dec.{ltb}
use borrow.Author.Tests.{lt-ltb, ltb-true, ltb-false}
use Rattle.book.specs.Lists.{any, up_to}
use Rattle.book.specs.Blocks.{head_of, rule_at}
use Rattle.book.specs.Rule.{in_leaf_set, action, reference_count, restriction_count, restriction_mask}
use Rattle.book.proofs.Lists.{and_true, and_right, and_both, and_or, or_left, or_right, same_test}
use Rattle.book.proofs.Lists.{any_same, any_append, any_from_same, any_one}
use Rattle.verdicts.specs.Actions.{channel_fits}
use Rattle.verdicts.specs.Accesses.{Access, Accesses, fits, members, same}
use Rattle.verdicts.specs.Inner.Words.{RuleSound, beside, mask_takes, offers_or_none}
use Rattle.verdicts.specs.Breaking.{some_choice_refused}
use Rattle.verdicts.proofs.Quantifiers.{any_at, at_any, any_below}
use Rattle.verdicts.proofs.Offers.{in_offers, found_offers, offers_present, offers_absent}
use Rattle.verdicts.proofs.Choices.{refuses_three, refused_by_operations}
use Rattle.verdicts.proofs.Accesses.{Apart, same_equal, same_self}
use Rattle.search.specs.Inner.Places.{access_at, chosen_at, choice_at, nowhere}
use Rattle.search.specs.Inner.Table.{meets, takes_at, takes_operation, TableHolds}
use Rattle.search.specs.Inner.Closing.{accepted_at, closes_at, closes_by, closes}
use Rattle.search.specs.Inner.Search.{drops}
use Rattle.search.specs.declared.tables.RuleTable.{RuleTable}

-- Tests in another order

swap_first : (x y z : Bool) → (y && (x && z)) ≡ (x && (y && z))
swap_first true y z = refl
swap_first false true z = refl
swap_first false false z = refl

swap_last : (x y z : Bool) → (z && (x && y)) ≡ (x && (y && z))
swap_last true true true = refl
swap_last true true false = refl
swap_last true false true = refl
swap_last true false false = refl
swap_last false y true = refl
swap_last false y false = refl

-- The places of a choice

-- the member of a choice at a place
pub chosen_member : (p : ℕ) → p < nowhere → members (chosen_at p) (access_at p) ≡ true
unfolding chosen_at
chosen_member p l = rw (lt-ltb p nowhere l) (any_one (same (access_at p)) (access_at p) ∙ same_self (access_at p))

module _ (a y x : ℕ) where
  parts :
      (z : Access)
      → members (choice_at a y x) z ≡ (members (chosen_at a) z || (members (chosen_at y) z || members (chosen_at x) z))
  unfolding choice_at
  parts z =
      any_append (same z) (chosen_at a) (chosen_at y ++ chosen_at x)
      ∙ ap (λ (b : Bool). members (chosen_at a) z || b) (any_append (same z) (chosen_at y) (chosen_at x))

  -- a member stands at one of the three places
  at_place :
      (p : ℕ) (z : Access) → members (chosen_at p) z ≡ true → (p < nowhere) × (z ≡ access_at p)
  unfolding chosen_at any
  at_place p z h = go (ltb p nowhere) refl h
    where
      go :
          (b : Bool)
          → ltb p nowhere ≡ b
          → any (same z) (cond b (access_at p ∷ []) []) ≡ true
          → (p < nowhere) × (z ≡ access_at p)
      go true e m = (ltb-true p nowhere e, same_equal z (access_at p) (sym (any_one (same z) (access_at p)) ∙ m))
      go false e m = absurd (false≢true m)

-- Placements

module _ (t : List RuleTable) (q : ℕ) where
  -- each reference is met by its place, and no restriction takes all three
  unfoldable pub placement : ℕ → ℕ → ℕ → Bool
  placement p0 p1 p2 = meets t q 0 p0 && (meets t q 1 p1 && (meets t q 2 p2 && not (accepted_at t q 0 1 2 p1 p2 p0)))

  accepted_second : (b c p : ℕ) → accepted_at t q 1 0 2 b c p ≡ accepted_at t q 0 1 2 p c b
  unfolding accepted_at
  accepted_second b c p =
      any_same (λ j. takes_at t q 1 j p && (takes_at t q 0 j b && takes_at t q 2 j c))
      (λ j. takes_at t q 0 j b && (takes_at t q 1 j p && takes_at t q 2 j c))
      (λ j. swap_first (takes_at t q 0 j b) (takes_at t q 1 j p) (takes_at t q 2 j c)) (up_to 8)

  accepted_third : (b c p : ℕ) → accepted_at t q 2 0 1 b c p ≡ accepted_at t q 0 1 2 c p b
  unfolding accepted_at
  accepted_third b c p =
      any_same (λ j. takes_at t q 2 j p && (takes_at t q 0 j b && takes_at t q 1 j c))
      (λ j. takes_at t q 0 j b && (takes_at t q 1 j c && takes_at t q 2 j p))
      (λ j. swap_last (takes_at t q 0 j b) (takes_at t q 1 j c) (takes_at t q 2 j p)) (up_to 8)

  first_placed : (b c p : ℕ) → (meets t q 0 p && closes_at t q 0 1 2 b c p) ≡ placement p b c
  unfolding closes_at placement
  first_placed b c p = refl

  second_placed : (b c p : ℕ) → (meets t q 1 p && closes_at t q 1 0 2 b c p) ≡ placement b p c
  unfolding closes_at placement
  second_placed b c p =
      rw (accepted_second b c p)
      (swap_first (meets t q 0 b) (meets t q 1 p) (meets t q 2 c && not (accepted_at t q 0 1 2 p c b)))

  third_placed : (b c p : ℕ) → (meets t q 2 p && closes_at t q 2 0 1 b c p) ≡ placement b c p
  unfolding closes_at placement
  third_placed b c p =
      rw (accepted_third b c p)
      (turn (meets t q 0 b) (meets t q 1 c) (meets t q 2 p) (not (accepted_at t q 0 1 2 c p b)))
    where
      turn : (u v w z : Bool) → (w && (u && (v && z))) ≡ (u && (v && (w && z)))
      turn true true w z = refl
      turn true false true z = refl
      turn true false false z = refl
      turn false v true z = refl
      turn false v false z = refl

  -- what closes a rule is a placement with p in it
  pub closes_placed :
      (b c p : ℕ)
      → closes t q b c p
      ≡ ((placement p b c || placement p c b)
      || ((placement b p c || placement c p b) || (placement b c p || placement c b p)))
  unfolding closes closes_by
  closes_placed b c p =
      rw (
        and_or (meets t q 0 p) (closes_at t q 0 1 2 b c p) (closes_at t q 0 1 2 c b p),
        and_or (meets t q 1 p) (closes_at t q 1 0 2 b c p) (closes_at t q 1 0 2 c b p),
        and_or (meets t q 2 p) (closes_at t q 2 0 1 b c p) (closes_at t q 2 0 1 c b p),
        second_placed b c p,
        second_placed c b p,
        third_placed b c p,
        third_placed c b p,
        first_placed b c p,
        first_placed c b p,
      )

  -- one of the six
  module _ (b c p : ℕ) where
    first_closes : placement p b c ≡ true → closes t q b c p ≡ true
    first_closes h =
        closes_placed b c p
        ∙ or_left (placement p b c || placement p c b)
        ((placement b p c || placement c p b) || (placement b c p || placement c b p))
        (or_left (placement p b c) (placement p c b) h)

    first_turned : placement p c b ≡ true → closes t q b c p ≡ true
    first_turned h =
        closes_placed b c p
        ∙ or_left (placement p b c || placement p c b)
        ((placement b p c || placement c p b) || (placement b c p || placement c b p))
        (or_right (placement p b c) (placement p c b) h)

    second_closes : placement b p c ≡ true → closes t q b c p ≡ true
    second_closes h =
        closes_placed b c p
        ∙ or_right (placement p b c || placement p c b)
        ((placement b p c || placement c p b) || (placement b c p || placement c b p))
        (or_left (placement b p c || placement c p b) (placement b c p || placement c b p)
        (or_left (placement b p c) (placement c p b) h))

    second_turned : placement c p b ≡ true → closes t q b c p ≡ true
    second_turned h =
        closes_placed b c p
        ∙ or_right (placement p b c || placement p c b)
        ((placement b p c || placement c p b) || (placement b c p || placement c b p))
        (or_left (placement b p c || placement c p b) (placement b c p || placement c b p)
        (or_right (placement b p c) (placement c p b) h))

    third_closes : placement b c p ≡ true → closes t q b c p ≡ true
    third_closes h =
        closes_placed b c p
        ∙ or_right (placement p b c || placement p c b)
        ((placement b p c || placement c p b) || (placement b c p || placement c b p))
        (or_right (placement b p c || placement c p b) (placement b c p || placement c b p)
        (or_left (placement b c p) (placement c b p) h))

    third_turned : placement c b p ≡ true → closes t q b c p ≡ true
    third_turned h =
        closes_placed b c p
        ∙ or_right (placement p b c || placement p c b)
        ((placement b p c || placement c p b) || (placement b c p || placement c b p))
        (or_right (placement b p c || placement c p b) (placement b c p || placement c b p)
        (or_right (placement b c p) (placement c b p) h))

    -- a fact that follows from each of the six
    closes_each :
        (G : Type 0)
        → (placement p b c ≡ true → G)
        → (placement p c b ≡ true → G)
        → (placement b p c ≡ true → G)
        → (placement c p b ≡ true → G)
        → (placement b c p ≡ true → G)
        → (placement c b p ≡ true → G)
        → closes t q b c p ≡ true
        → G
    closes_each G g1 g2 g3 g4 g5 g6 h =
        go (placement p b c) (placement p c b) (placement b p c) (placement c p b) (placement b c p) (placement c b p)
        refl refl refl refl refl refl (sym (closes_placed b c p) ∙ h)
      where
        go :
            (s1 s2 s3 s4 s5 s6 : Bool)
            → placement p b c ≡ s1
            → placement p c b ≡ s2
            → placement b p c ≡ s3
            → placement c p b ≡ s4
            → placement b c p ≡ s5
            → placement c b p ≡ s6
            → ((s1 || s2) || ((s3 || s4) || (s5 || s6))) ≡ true
            → G
        go true s2 s3 s4 s5 s6 e1 e2 e3 e4 e5 e6 h = g1 e1
        go false true s3 s4 s5 s6 e1 e2 e3 e4 e5 e6 h = g2 e2
        go false false true s4 s5 s6 e1 e2 e3 e4 e5 e6 h = g3 e3
        go false false false true s5 s6 e1 e2 e3 e4 e5 e6 h = g4 e4
        go false false false false true s6 e1 e2 e3 e4 e5 e6 h = g5 e5
        go false false false false false true e1 e2 e3 e4 e5 e6 h = g6 e6
        go false false false false false false e1 e2 e3 e4 e5 e6 h = absurd (false≢true h)

-- By the book

-- one of three places
data Which : Type 0 where
  First Second Third : Which

module _
    (book : List ℕ)
    (n : ℕ)
    (t : List RuleTable)
    (tables : TableHolds book n t)
    (q : ℕ)
    (l : q < n)
    (sound : RuleSound (head_of book) (rule_at book q))
    (apart : Apart (head_of book) (rule_at book q))
    (few : restriction_count (rule_at book q) ≤ 8)
  where
    -- the operation at a place, 0 for an absent reference
    operation_at : ℕ → ℕ → ℕ
    operation_at i p = cond (ltb i (reference_count (rule_at book q))) (p % 16) 0

    -- place p stands for reference i with operation k; any place does for an absent one
    Standing : ℕ → ℕ → ℕ → Type 0
    Standing i p k =
        (p ≤ nowhere)
        × (i < reference_count (rule_at book q)
        → (p < nowhere) × (fits (head_of book) (rule_at book q) i (access_at p) ≡ true) × (p % 16 ≡ k))

    -- what a restriction takes at an absent reference, it takes of every operation
    takes_same :
        (i j k m : ℕ)
        → i < 3
        → j < restriction_count (rule_at book q)
        → (i < reference_count (rule_at book q) → k ≡ m)
        → mask_takes (restriction_mask (rule_at book q) j i) k ≡ mask_takes (restriction_mask (rule_at book q) j i) m
    unfolding mask_takes
    takes_same i j k m s h e = go (ltb i (reference_count (rule_at book q))) refl
      where
        go :
            (b : Bool)
            → ltb i (reference_count (rule_at book q)) ≡ b
            → mask_takes (restriction_mask (rule_at book q) j i) k ≡ mask_takes (restriction_mask (rule_at book q) j i) m
        go true c = rw (e (ltb-true i (reference_count (rule_at book q)) c))
        go false c = rw (sound.absent j i h (ltb-false i (reference_count (rule_at book q)) c) s)

    accepted_beside :
        (p0 p1 p2 k0 k1 k2 : ℕ)
        → (0 < reference_count (rule_at book q) → p0 % 16 ≡ k0)
        → (1 < reference_count (rule_at book q) → p1 % 16 ≡ k1)
        → (2 < reference_count (rule_at book q) → p2 % 16 ≡ k2)
        → accepted_at t q 0 1 2 p1 p2 p0 ≡ any (beside (rule_at book q) k0 k1 k2) (up_to (restriction_count (rule_at book q)))
    unfolding accepted_at takes_operation up_to
    accepted_beside p0 p1 p2 k0 k1 k2 e0 e1 e2 =
        any_from_same (λ j. takes_at t q 0 j p0 && (takes_at t q 1 j p1 && takes_at t q 2 j p2))
        (λ j. ltb j (restriction_count (rule_at book q)) && beside (rule_at book q) k0 k1 k2 j) 0 8
        (λ j lo hi.
        rw (
          tables.restrictions q 0 j p0 l (omega arith) (omega arith),
          tables.restrictions q 1 j p1 l (omega arith) (omega arith),
          tables.restrictions q 2 j p2 l (omega arith) (omega arith),
        )
        (go j (ltb j (restriction_count (rule_at book q))) refl))
        ∙ any_below (beside (rule_at book q) k0 k1 k2) (restriction_count (rule_at book q)) 8 few
      where
        go :
            (j : ℕ) (b : Bool)
            → ltb j (restriction_count (rule_at book q)) ≡ b
            → ((b && mask_takes (restriction_mask (rule_at book q) j 0) (p0 % 16))
            && ((b && mask_takes (restriction_mask (rule_at book q) j 1) (p1 % 16))
            && (b && mask_takes (restriction_mask (rule_at book q) j 2) (p2 % 16))))
            ≡ (b && beside (rule_at book q) k0 k1 k2 j)
        go j true c =
            let h = ltb-true j (restriction_count (rule_at book q)) c in
            rw (
              takes_same 0 j (p0 % 16) k0 (omega arith) h e0,
              takes_same 1 j (p1 % 16) k1 (omega arith) h e1,
              takes_same 2 j (p2 % 16) k2 (omega arith) h e2,
            )
        go j false c = refl

    -- what meets a reference
    meets_standing :
        (i p : ℕ) → i < 3 → p ≤ nowhere → meets t q i p ≡ true → Standing i p (operation_at i p)
    unfolding Standing operation_at
    meets_standing i p s h m = (h, λ c. go c (rw (lt-ltb i (reference_count (rule_at book q)) c) at (sym (tables.references q i p l s h) ∙ m)))
      where
        go :
            i < reference_count (rule_at book q)
            → (ltb p nowhere && fits (head_of book) (rule_at book q) i (access_at p)) ≡ true
            → (p < nowhere)
            × (fits (head_of book) (rule_at book q) i (access_at p) ≡ true)
            × (p % 16 ≡ cond (ltb i (reference_count (rule_at book q))) (p % 16) 0)
        go c b =
            let d = and_both (ltb p nowhere) (fits (head_of book) (rule_at book q) i (access_at p)) b in
            (ltb-true p nowhere d.0, d.1, rw (lt-ltb i (reference_count (rule_at book q)) c))

    standing_meets : (i p k : ℕ) → i < 3 → Standing i p k → meets t q i p ≡ true
    unfolding Standing
    standing_meets i p k s h =
        tables.references q i p l s h.0 ∙ go (ltb i (reference_count (rule_at book q))) refl
      where
        go :
            (b : Bool)
            → ltb i (reference_count (rule_at book q)) ≡ b
            → cond b (ltb p nowhere && fits (head_of book) (rule_at book q) i (access_at p)) true ≡ true
        go true c =
            let d = h.1 (ltb-true i (reference_count (rule_at book q)) c) in
            rw (lt-ltb p nowhere d.0, d.1)
        go false c = refl

    -- places that stand for the references, with operations that no restriction takes
    placed :
        (p0 p1 p2 k0 k1 k2 : ℕ)
        → Standing 0 p0 k0
        → Standing 1 p1 k1
        → Standing 2 p2 k2
        → refuses_three (rule_at book q) k0 k1 k2 ≡ true
        → placement t q p0 p1 p2 ≡ true
    unfolding placement Standing refuses_three
    placed p0 p1 p2 k0 k1 k2 s0 s1 s2 h =
        rw (
          standing_meets 0 p0 k0 (omega arith) s0,
          standing_meets 1 p1 k1 (omega arith) s1,
          standing_meets 2 p2 k2 (omega arith) s2,
          accepted_beside p0 p1 p2 k0 k1 k2 (λ c. (s0.1 c).2) (λ c. (s1.1 c).2) (λ c. (s2.1 c).2),
        )
        h

    module _ (a y x : ℕ) (ha : a ≤ nowhere) (hy : y ≤ nowhere) (hx : x ≤ nowhere) where
      -- the accesses at the three places
      chosen : Accesses
      chosen = members (choice_at a y x)

      refused : Bool
      refused = some_choice_refused (head_of book) (rule_at book q) chosen

      -- From placements to choices

      -- place p is one of the three, or nowhere
      Among : ℕ → Type 0
      Among p = (p ≤ nowhere) × (p < nowhere → chosen (access_at p) ≡ true)

      among_nowhere : Among nowhere
      unfolding Among
      among_nowhere = (omega arith, λ c. absurd (omega arith))

      among_first : Among a
      unfolding Among chosen
      among_first = (
        ha,
        λ c.
            parts a y x (access_at a)
            ∙ or_left (members (chosen_at a) (access_at a))
            (members (chosen_at y) (access_at a) || members (chosen_at x) (access_at a)) (chosen_member a c),
      )

      among_second : Among y
      unfolding Among chosen
      among_second = (
        hy,
        λ c.
            parts a y x (access_at y)
            ∙ or_right (members (chosen_at a) (access_at y))
            (members (chosen_at y) (access_at y) || members (chosen_at x) (access_at y))
            (or_left (members (chosen_at y) (access_at y)) (members (chosen_at x) (access_at y)) (chosen_member y c)),
      )

      among_third : Among x
      unfolding Among chosen
      among_third = (
        hx,
        λ c.
            parts a y x (access_at x)
            ∙ or_right (members (chosen_at a) (access_at x))
            (members (chosen_at y) (access_at x) || members (chosen_at x) (access_at x))
            (or_right (members (chosen_at y) (access_at x)) (members (chosen_at x) (access_at x)) (chosen_member x c)),
      )

      offered :
          (i p : ℕ)
          → i < 3
          → Among p
          → meets t q i p ≡ true
          → offers_or_none (head_of book) (rule_at book q) chosen i (operation_at i p) ≡ true
      unfolding Among Standing operation_at access_at
      offered i p s among m = go (ltb i (reference_count (rule_at book q))) refl (meets_standing i p s among.0 m)
        where
          go :
              (b : Bool)
              → ltb i (reference_count (rule_at book q)) ≡ b
              → Standing i p (cond b (p % 16) 0)
              → offers_or_none (head_of book) (rule_at book q) chosen i (cond b (p % 16) 0) ≡ true
          go true c st =
              let li = ltb-true i (reference_count (rule_at book q)) c in
              let d = st.1 li in
              sym (offers_present (head_of book) (rule_at book q) chosen i (p % 16) li)
              ∙ in_offers (head_of book) (rule_at book q) chosen i (p % 16) (access_at p) (among.1 d.0) d.1 refl
              (omega arith)
          go false c st =
              offers_absent (head_of book) (rule_at book q) chosen i 0 (ltb-false i (reference_count (rule_at book q)) c)

      operation_small : (i p : ℕ) → operation_at i p < 16
      unfolding operation_at
      operation_small i p = go (ltb i (reference_count (rule_at book q)))
        where
          go : (b : Bool) → cond b (p % 16) 0 < 16
          go true = omega arith
          go false = omega arith

      operation_present : (i p : ℕ) → i < reference_count (rule_at book q) → p % 16 ≡ operation_at i p
      unfolding operation_at
      operation_present i p c = rw (lt-ltb i (reference_count (rule_at book q)) c)

      placed_refused :
          (p0 p1 p2 : ℕ) → Among p0 → Among p1 → Among p2 → placement t q p0 p1 p2 ≡ true → refused ≡ true
      unfolding placement refused refuses_three
      placed_refused p0 p1 p2 s0 s1 s2 h =
          let k0 = operation_at 0 p0 in
          let k1 = operation_at 1 p1 in
          let k2 = operation_at 2 p2 in
          let offer = offers_or_none (head_of book) (rule_at book q) chosen in
          let d =
          and_both (meets t q 0 p0)
          (meets t q 1 p1 && (meets t q 2 p2 && not (accepted_at t q 0 1 2 p1 p2 p0))) h in
          let e = and_both (meets t q 1 p1) (meets t q 2 p2 && not (accepted_at t q 0 1 2 p1 p2 p0)) d.1 in
          let f = and_both (meets t q 2 p2) (not (accepted_at t q 0 1 2 p1 p2 p0)) e.1 in
          let none : refuses_three (rule_at book q) k0 k1 k2 ≡ true =
          ap not
          (sym
          (accepted_beside p0 p1 p2 k0 k1 k2 (operation_present 0 p0) (operation_present 1 p1) (operation_present 2 p2)))
          ∙ f.1 in
          let last : ℕ → ℕ → Bool =
          λ u v. any (λ w. offer 2 w && refuses_three (rule_at book q) u v w) (up_to 16) in
          let rest : ℕ → Bool = λ u. any (λ v. offer 1 v && last u v) (up_to 16) in
          refused_by_operations (head_of book) (rule_at book q) sound chosen
          ∙ at_any (λ u. offer 0 u && rest u) 16 k0 (operation_small 0 p0)
          (and_true (offer 0 k0) (rest k0) (offered 0 p0 (omega arith) s0 d.0)
          (at_any (λ v. offer 1 v && last k0 v) 16 k1 (operation_small 1 p1)
          (and_true (offer 1 k1) (last k0 k1) (offered 1 p1 (omega arith) s1 e.0)
          (at_any (λ w. offer 2 w && refuses_three (rule_at book q) k0 k1 w) 16 k2 (operation_small 2 p2)
          (and_true (offer 2 k2) (refuses_three (rule_at book q) k0 k1 k2) (offered 2 p2 (omega arith) s2 f.0) none)))))

      closes_refused : (b c p : ℕ) → Among b → Among c → Among p → closes t q b c p ≡ true → refused ≡ true
      closes_refused b c p sb sc sp =
          closes_each t q b c p (refused ≡ true) (placed_refused p b c sp sb sc) (placed_refused p c b sp sc sb)
          (placed_refused b p c sb sp sc) (placed_refused c p b sc sp sb) (placed_refused b c p sb sc sp)
          (placed_refused c b p sc sb sp)

      drops_sound : drops t q a y x ≡ true → refused ≡ true
      unfolding drops
      drops_sound h =
          go (closes t q nowhere nowhere a) (closes t q nowhere nowhere y) (closes t q nowhere nowhere x)
          (closes t q a nowhere y) (closes t q a nowhere x) (closes t q a y x)
          (closes_refused nowhere nowhere a among_nowhere among_nowhere among_first)
          (closes_refused nowhere nowhere y among_nowhere among_nowhere among_second)
          (closes_refused nowhere nowhere x among_nowhere among_nowhere among_third)
          (closes_refused a nowhere y among_first among_nowhere among_second)
          (closes_refused a nowhere x among_first among_nowhere among_third)
          (closes_refused a y x among_first among_second among_third) h
        where
          go :
              (c1 c2 c3 c4 c5 c6 : Bool)
              → (c1 ≡ true → refused ≡ true)
              → (c2 ≡ true → refused ≡ true)
              → (c3 ≡ true → refused ≡ true)
              → (c4 ≡ true → refused ≡ true)
              → (c5 ≡ true → refused ≡ true)
              → (c6 ≡ true → refused ≡ true)
              → ((c1 || (c2 || c3)) || ((c4 || c5) || c6)) ≡ true
              → refused ≡ true
          go true c2 c3 c4 c5 c6 g1 g2 g3 g4 g5 g6 h = g1 refl
          go false true c3 c4 c5 c6 g1 g2 g3 g4 g5 g6 h = g2 refl
          go false false true c4 c5 c6 g1 g2 g3 g4 g5 g6 h = g3 refl
          go false false false true c5 c6 g1 g2 g3 g4 g5 g6 h = g4 refl
          go false false false false true c6 g1 g2 g3 g4 g5 g6 h = g5 refl
          go false false false false false true g1 g2 g3 g4 g5 g6 h = g6 refl
          go false false false false false false g1 g2 g3 g4 g5 g6 h = absurd (false≢true h)

      -- From choices to placements

      place_at : Which → ℕ
      place_at First = a
      place_at Second = y
      place_at Third = x

      place_low : (w : Which) → place_at w ≤ nowhere
      unfolding place_at
      place_low First = ha
      place_low Second = hy
      place_low Third = hx

      -- a reference that is offered an operation has one of the places
      found :
          (i k : ℕ)
          → i < reference_count (rule_at book q)
          → offers_or_none (head_of book) (rule_at book q) chosen i k ≡ true
          → (w : Which) × Standing i (place_at w) k
      unfolding Standing chosen access_at place_at
      found i k li h =
          let f =
          found_offers (head_of book) (rule_at book q) chosen i k
          (offers_present (head_of book) (rule_at book q) chosen i k li ∙ h) in
          let z = f.0 in
          go z f.2 f.3 (members (chosen_at a) z) (members (chosen_at y) z) (members (chosen_at x) z) refl refl refl
          (sym (parts a y x z) ∙ f.1)
        where
          stand :
              (w : Which) (z : Access)
              → fits (head_of book) (rule_at book q) i z ≡ true
              → z.operation ≡ k
              → members (chosen_at (place_at w)) z ≡ true
              → (v : Which) × Standing i (place_at v) k
          stand w z f o m =
              let at = at_place a y x (place_at w) z m in
              let e : z ≡ access_at (place_at w) = at.1 in
              (w, (place_low w, λ c. (at.0, rw e at f, rw e at o)))

          go :
              (z : Access)
              → fits (head_of book) (rule_at book q) i z ≡ true
              → z.operation ≡ k
              → (s1 s2 s3 : Bool)
              → members (chosen_at a) z ≡ s1
              → members (chosen_at y) z ≡ s2
              → members (chosen_at x) z ≡ s3
              → (s1 || (s2 || s3)) ≡ true
              → (v : Which) × Standing i (place_at v) k
          go z f o true s2 s3 e1 e2 e3 h = stand First z f o e1
          go z f o false true s3 e1 e2 e3 h = stand Second z f o e2
          go z f o false false true e1 e2 e3 h = stand Third z f o e3
          go z f o false false false e1 e2 e3 h = absurd (false≢true h)

      -- one place stands for one reference
      apart_places :
          (i j k m p : ℕ)
          → i < reference_count (rule_at book q)
          → j < i
          → Standing i p k
          → Standing j p m
          → ⊥
      unfolding Standing fits
      apart_places i j k m p li lj si sj =
          let f = (si.1 li).1 in
          let g = (sj.1 (omega arith)).1 in
          let z = access_at p in
          apart i j z.leaf li lj
          (and_right (channel_fits z.channel (action (rule_at book q) i))
          (in_leaf_set (head_of book) (rule_at book q) i z.leaf) f)
          (and_right (channel_fits z.channel (action (rule_at book q) j))
          (in_leaf_set (head_of book) (rule_at book q) j z.leaf) g)

      -- a place for an absent reference
      absent_place : (i p k : ℕ) → reference_count (rule_at book q) ≤ i → p ≤ nowhere → Standing i p k
      unfolding Standing
      absent_place i p k past h = (h, λ c. absurd (omega arith))

      module _ (k0 k1 k2 : ℕ) (none : refuses_three (rule_at book q) k0 k1 k2 ≡ true) where
        -- a rule of one reference
        closes_one : reference_count (rule_at book q) ≤ 1 → (w : Which) → Standing 0 (place_at w) k0 → closes t q a y x ≡ true
        unfolding place_at
        closes_one past First s =
            third_closes t q a y x
            (placed a y x k0 k1 k2 s (absent_place 1 y k1 past hy) (absent_place 2 x k2 (omega arith) hx) none)
        closes_one past Second s =
            third_turned t q a y x
            (placed y a x k0 k1 k2 s (absent_place 1 a k1 past ha) (absent_place 2 x k2 (omega arith) hx) none)
        closes_one past Third s =
            first_closes t q a y x
            (placed x a y k0 k1 k2 s (absent_place 1 a k1 past ha) (absent_place 2 y k2 (omega arith) hy) none)

        -- of two
        closes_two :
            1 < reference_count (rule_at book q)
            → reference_count (rule_at book q) ≤ 2
            → (v w : Which)
            → Standing 0 (place_at v) k0
            → Standing 1 (place_at w) k1
            → closes t q a y x ≡ true
        unfolding place_at
        closes_two li past First First s0 s1 = absurd (apart_places 1 0 k1 k0 a li (omega arith) s1 s0)
        closes_two li past Second Second s0 s1 = absurd (apart_places 1 0 k1 k0 y li (omega arith) s1 s0)
        closes_two li past Third Third s0 s1 = absurd (apart_places 1 0 k1 k0 x li (omega arith) s1 s0)
        closes_two li past First Second s0 s1 =
            third_closes t q a y x (placed a y x k0 k1 k2 s0 s1 (absent_place 2 x k2 past hx) none)
        closes_two li past Second First s0 s1 =
            third_turned t q a y x (placed y a x k0 k1 k2 s0 s1 (absent_place 2 x k2 past hx) none)
        closes_two li past First Third s0 s1 =
            second_closes t q a y x (placed a x y k0 k1 k2 s0 s1 (absent_place 2 y k2 past hy) none)
        closes_two li past Third First s0 s1 =
            first_closes t q a y x (placed x a y k0 k1 k2 s0 s1 (absent_place 2 y k2 past hy) none)
        closes_two li past Second Third s0 s1 =
            second_turned t q a y x (placed y x a k0 k1 k2 s0 s1 (absent_place 2 a k2 past ha) none)
        closes_two li past Third Second s0 s1 =
            first_turned t q a y x (placed x y a k0 k1 k2 s0 s1 (absent_place 2 a k2 past ha) none)

        -- of three
        closes_three :
            2 < reference_count (rule_at book q)
            → (u v w : Which)
            → Standing 0 (place_at u) k0
            → Standing 1 (place_at v) k1
            → Standing 2 (place_at w) k2
            → closes t q a y x ≡ true
        unfolding place_at
        closes_three li First First w s0 s1 s2 = absurd (apart_places 1 0 k1 k0 a (omega arith) (omega arith) s1 s0)
        closes_three li Second Second w s0 s1 s2 = absurd (apart_places 1 0 k1 k0 y (omega arith) (omega arith) s1 s0)
        closes_three li Third Third w s0 s1 s2 = absurd (apart_places 1 0 k1 k0 x (omega arith) (omega arith) s1 s0)
        closes_three li First Second First s0 s1 s2 = absurd (apart_places 2 0 k2 k0 a li (omega arith) s2 s0)
        closes_three li First Third First s0 s1 s2 = absurd (apart_places 2 0 k2 k0 a li (omega arith) s2 s0)
        closes_three li Second First Second s0 s1 s2 = absurd (apart_places 2 0 k2 k0 y li (omega arith) s2 s0)
        closes_three li Second Third Second s0 s1 s2 = absurd (apart_places 2 0 k2 k0 y li (omega arith) s2 s0)
        closes_three li Third First Third s0 s1 s2 = absurd (apart_places 2 0 k2 k0 x li (omega arith) s2 s0)
        closes_three li Third Second Third s0 s1 s2 = absurd (apart_places 2 0 k2 k0 x li (omega arith) s2 s0)
        closes_three li First Second Second s0 s1 s2 = absurd (apart_places 2 1 k2 k1 y li (omega arith) s2 s1)
        closes_three li First Third Third s0 s1 s2 = absurd (apart_places 2 1 k2 k1 x li (omega arith) s2 s1)
        closes_three li Second First First s0 s1 s2 = absurd (apart_places 2 1 k2 k1 a li (omega arith) s2 s1)
        closes_three li Second Third Third s0 s1 s2 = absurd (apart_places 2 1 k2 k1 x li (omega arith) s2 s1)
        closes_three li Third First First s0 s1 s2 = absurd (apart_places 2 1 k2 k1 a li (omega arith) s2 s1)
        closes_three li Third Second Second s0 s1 s2 = absurd (apart_places 2 1 k2 k1 y li (omega arith) s2 s1)
        closes_three li First Second Third s0 s1 s2 =
            third_closes t q a y x (placed a y x k0 k1 k2 s0 s1 s2 none)
        closes_three li Second First Third s0 s1 s2 =
            third_turned t q a y x (placed y a x k0 k1 k2 s0 s1 s2 none)
        closes_three li First Third Second s0 s1 s2 =
            second_closes t q a y x (placed a x y k0 k1 k2 s0 s1 s2 none)
        closes_three li Second Third First s0 s1 s2 =
            second_turned t q a y x (placed y x a k0 k1 k2 s0 s1 s2 none)
        closes_three li Third First Second s0 s1 s2 =
            first_closes t q a y x (placed x a y k0 k1 k2 s0 s1 s2 none)
        closes_three li Third Second First s0 s1 s2 =
            first_turned t q a y x (placed x y a k0 k1 k2 s0 s1 s2 none)

      closes_complete : refused ≡ true → closes t q a y x ≡ true
      unfolding refused
      closes_complete h =
          let offer = offers_or_none (head_of book) (rule_at book q) chosen in
          let last : ℕ → ℕ → Bool =
          λ u v. any (λ w. offer 2 w && refuses_three (rule_at book q) u v w) (up_to 16) in
          let rest : ℕ → Bool = λ u. any (λ v. offer 1 v && last u v) (up_to 16) in
          let f =
          any_at (λ u. offer 0 u && rest u) 16
          (sym (refused_by_operations (head_of book) (rule_at book q) sound chosen) ∙ h) in
          let fb = and_both (offer 0 f.0) (rest f.0) f.1 in
          let g = any_at (λ v. offer 1 v && last f.0 v) 16 fb.1 in
          let gb = and_both (offer 1 g.0) (last f.0 g.0) g.1 in
          let e = any_at (λ w. offer 2 w && refuses_three (rule_at book q) f.0 g.0 w) 16 gb.1 in
          let eb = and_both (offer 2 e.0) (refuses_three (rule_at book q) f.0 g.0 e.0) e.1 in
          go f.0 g.0 e.0 fb.0 gb.0 eb.0 eb.1 (ltb 1 (reference_count (rule_at book q)))
          (ltb 2 (reference_count (rule_at book q))) refl refl
        where
          go :
              (k0 k1 k2 : ℕ)
              → offers_or_none (head_of book) (rule_at book q) chosen 0 k0 ≡ true
              → offers_or_none (head_of book) (rule_at book q) chosen 1 k1 ≡ true
              → offers_or_none (head_of book) (rule_at book q) chosen 2 k2 ≡ true
              → refuses_three (rule_at book q) k0 k1 k2 ≡ true
              → (second third : Bool)
              → ltb 1 (reference_count (rule_at book q)) ≡ second
              → ltb 2 (reference_count (rule_at book q)) ≡ third
              → closes t q a y x ≡ true
          go k0 k1 k2 o0 o1 o2 none second true c1 c2 =
              let li : 2 < reference_count (rule_at book q) = ltb-true 2 (reference_count (rule_at book q)) c2 in
              let w0 = found 0 k0 (omega arith) o0 in
              let w1 = found 1 k1 (omega arith) o1 in
              let w2 = found 2 k2 li o2 in
              closes_three k0 k1 k2 none li w0.0 w1.0 w2.0 w0.1 w1.1 w2.1
          go k0 k1 k2 o0 o1 o2 none true false c1 c2 =
              let li : 1 < reference_count (rule_at book q) = ltb-true 1 (reference_count (rule_at book q)) c1 in
              let w0 = found 0 k0 (omega arith) o0 in
              let w1 = found 1 k1 li o1 in
              closes_two k0 k1 k2 none li (ltb-false 2 (reference_count (rule_at book q)) c2) w0.0 w1.0 w0.1
              w1.1
          go k0 k1 k2 o0 o1 o2 none false false c1 c2 =
              let some : 1 ≤ reference_count (rule_at book q) = sound.some in
              let w0 = found 0 k0 some o0 in
              closes_one k0 k1 k2 none (ltb-false 1 (reference_count (rule_at book q)) c1) w0.0 w0.1

      -- three places break a rule exactly when the last does beside the two others
      pub closes_broken :
          closes t q a y x ≡ some_choice_refused (head_of book) (rule_at book q) (members (choice_at a y x))
      unfolding refused chosen
      closes_broken =
          same_test (closes t q a y x) (some_choice_refused (head_of book) (rule_at book q) (members (choice_at a y x)))
          (closes_refused a y x among_first among_second among_third) closes_complete

      drop_all : closes t q a y x ≡ true → drops t q a y x ≡ true
      unfolding drops
      drop_all h =
          or_right
          (closes t q nowhere nowhere a || (closes t q nowhere nowhere y || closes t q nowhere nowhere x))
          ((closes t q a nowhere y || closes t q a nowhere x) || closes t q a y x)
          (or_right (closes t q a nowhere y || closes t q a nowhere x) (closes t q a y x) h)

      -- so the turns before the last drop nothing more
      pub drops_refused :
          drops t q a y x ≡ some_choice_refused (head_of book) (rule_at book q) (members (choice_at a y x))
      unfolding refused chosen
      drops_refused =
          same_test (drops t q a y x) (some_choice_refused (head_of book) (rule_at book q) (members (choice_at a y x)))
          drops_sound (λ h. drop_all (closes_complete h))
