-- The six orders in which three places stand for a rule's references: three places break it in one of them or in none.
-- Assumes nothing.
use Prim.Native.Nat.{ℕ, zero, suc, ◌%◌, ◌<◌}
use native.Mathlib.Omega.{arith}
use mathlib.Core.Path.{◌≡◌, refl, sym, ap, ◌∙◌}
use mathlib.Core.Logic.{⊎_elim}
use mathlib.Core.Bool.{Bool, true, false, ◌&&◌, ◌||◌, not}
use mathlib.Core.List.{List, [], ◌∷◌}
use lib.ListN.{get_or}
use borrow.Author.Tests.{not-true}
use Rattle.book.specs.Lists.{up_to}
use Rattle.book.proofs.Lists.{and_both, and_true, any_from_same, any_same, or_either, or_left, or_right}
use Rattle.search.specs.Inner.Table.{meets, takes_at}
use Rattle.search.specs.Inner.Closing.{accepted_at, closes, closes_at, closes_by}
use Rattle.search.proofs.Sieves.{both}
use Rattle.search.proofs.Solutions.{fails}
use Rattle.search.specs.declared.tables.RuleTable.{RuleTable}
use Rattle.blocked.specs.Inner.Pairs.{Repeats, first_at, second_at, third_at}
use Rattle.blocked.specs.declared.pairs.Order.{Order}

-- the orders as the code has them
abbrev pub orders : List Order
orders =
    record { first = 1; second = 2; third = 0 }
    ∷ record { first = 2; second = 1; third = 0 }
    ∷ record { first = 2; second = 0; third = 1 }
    ∷ record { first = 0; second = 2; third = 1 }
    ∷ record { first = 0; second = 1; third = 2 }
    ∷ record { first = 1; second = 0; third = 2 }
    ∷ []

abbrev pub order_at : ℕ → Order
order_at v = get_or orders v (record { first = 0; second = 0; third = 0 })

pub same_order :
    (v : ℕ)
    → v < 6
    → ((order_at v).first ≡ first_at v) × ((order_at v).second ≡ second_at v) × ((order_at v).third ≡ third_at v)
same_order zero l = (refl, refl, refl)
same_order (suc zero) l = (refl, refl, refl)
same_order (suc (suc zero)) l = (refl, refl, refl)
same_order (suc (suc (suc zero))) l = (refl, refl, refl)
same_order (suc (suc (suc (suc zero)))) l = (refl, refl, refl)
same_order (suc (suc (suc (suc (suc zero))))) l = (refl, refl, refl)
same_order (suc (suc (suc (suc (suc (suc v)))))) l = absurd (omega arith)

pub order_first : (v : ℕ) → v < 6 → (order_at v).first ≡ first_at v
order_first v l = (same_order v l).0

pub order_second : (v : ℕ) → v < 6 → (order_at v).second ≡ second_at v
order_second v l = (same_order v l).1

pub order_third : (v : ℕ) → v < 6 → (order_at v).third ≡ third_at v
order_third v l = (same_order v l).2

swap : (x y z : Bool) → (x && (y && z)) ≡ (y && (x && z))
swap true y z = refl
swap false true z = refl
swap false false z = refl

module _ (t : List RuleTable) (q : ℕ) where
  -- two places and their references exchanged together
  accepted_turned : (i k l b c p : ℕ) → accepted_at t q i k l c b p ≡ accepted_at t q i l k b c p
  unfolding accepted_at
  accepted_turned i k l b c p =
      any_same (λ j. takes_at t q i j p && (takes_at t q k j c && takes_at t q l j b))
      (λ j. takes_at t q i j p && (takes_at t q l j b && takes_at t q k j c))
      (λ j. ap (λ (x : Bool). takes_at t q i j p && x) (turn (takes_at t q k j c) (takes_at t q l j b))) (up_to 8)
    where
      turn : (x y : Bool) → (x && y) ≡ (y && x)
      turn true true = refl
      turn true false = refl
      turn false true = refl
      turn false false = refl

  module _ (a y x : ℕ) where
    -- the three places break the rule in order v, if the third meets its reference
    pub closes_in : ℕ → Bool
    closes_in v =
        meets t q (first_at v) a
        && (meets t q (second_at v) y && not (accepted_at t q (third_at v) (first_at v) (second_at v) a y x))

    at_turned :
        (i k l : ℕ) → closes_at t q i k l y a x ≡ (meets t q l a && (meets t q k y && not (accepted_at t q i l k a y x)))
    unfolding closes_at
    at_turned i k l =
        rw (accepted_turned i k l a y x) (swap (meets t q k y) (meets t q l a) (not (accepted_at t q i l k a y x)))

    -- a place and a reference
    pub closes_orders :
        closes t q a y x
        ≡ ((meets t q 0 x && (closes_in 0 || closes_in 1))
        || ((meets t q 1 x && (closes_in 3 || closes_in 2)) || (meets t q 2 x && (closes_in 4 || closes_in 5))))
    unfolding closes closes_by closes_at closes_in
    closes_orders = rw (at_turned 0 1 2, at_turned 1 0 2, at_turned 2 0 1)

    order_closes : (v : ℕ) → v < 6 → meets t q (third_at v) x ≡ true → closes_in v ≡ true → closes t q a y x ≡ true
    order_closes v l m h = closes_orders ∙ go v l m h
      where
        one : Bool
        one = meets t q 0 x && (closes_in 0 || closes_in 1)

        two : Bool
        two = meets t q 1 x && (closes_in 3 || closes_in 2)

        three : Bool
        three = meets t q 2 x && (closes_in 4 || closes_in 5)

        go : (v : ℕ) → v < 6 → meets t q (third_at v) x ≡ true → closes_in v ≡ true → (one || (two || three)) ≡ true
        go zero l m h =
            or_left one (two || three)
            (and_true (meets t q 0 x) (closes_in 0 || closes_in 1) m (or_left (closes_in 0) (closes_in 1) h))
        go (suc zero) l m h =
            or_left one (two || three)
            (and_true (meets t q 0 x) (closes_in 0 || closes_in 1) m (or_right (closes_in 0) (closes_in 1) h))
        go (suc (suc zero)) l m h =
            or_right one (two || three)
            (or_left two three
            (and_true (meets t q 1 x) (closes_in 3 || closes_in 2) m (or_right (closes_in 3) (closes_in 2) h)))
        go (suc (suc (suc zero))) l m h =
            or_right one (two || three)
            (or_left two three
            (and_true (meets t q 1 x) (closes_in 3 || closes_in 2) m (or_left (closes_in 3) (closes_in 2) h)))
        go (suc (suc (suc (suc zero)))) l m h =
            or_right one (two || three)
            (or_right two three
            (and_true (meets t q 2 x) (closes_in 4 || closes_in 5) m (or_left (closes_in 4) (closes_in 5) h)))
        go (suc (suc (suc (suc (suc zero))))) l m h =
            or_right one (two || three)
            (or_right two three
            (and_true (meets t q 2 x) (closes_in 4 || closes_in 5) m (or_right (closes_in 4) (closes_in 5) h)))
        go (suc (suc (suc (suc (suc (suc v)))))) l m h = absurd (omega arith)

    closes_order : closes t q a y x ≡ true → (v : ℕ) × (v < 6) × (meets t q (third_at v) x ≡ true) × (closes_in v ≡ true)
    closes_order h =
        ⊎_elim (λ (e : one ≡ true). pick 0 0 1 (omega arith) (omega arith) refl refl e)
        (λ (e : (two || three) ≡ true).
        ⊎_elim (λ (f : two ≡ true). pick 1 3 2 (omega arith) (omega arith) refl refl f)
        (λ (f : three ≡ true). pick 2 4 5 (omega arith) (omega arith) refl refl f) (or_either two three e))
        (or_either one (two || three) (sym closes_orders ∙ h))
      where
        one : Bool
        one = meets t q 0 x && (closes_in 0 || closes_in 1)

        two : Bool
        two = meets t q 1 x && (closes_in 3 || closes_in 2)

        three : Bool
        three = meets t q 2 x && (closes_in 4 || closes_in 5)

        pick :
            (i u v : ℕ)
            → u < 6
            → v < 6
            → third_at u ≡ i
            → third_at v ≡ i
            → (meets t q i x && (closes_in u || closes_in v)) ≡ true
            → (w : ℕ) × (w < 6) × (meets t q (third_at w) x ≡ true) × (closes_in w ≡ true)
        pick i u v lu lv eu ev g =
            let p = and_both (meets t q i x) (closes_in u || closes_in v) g in
            ⊎_elim (λ (c : closes_in u ≡ true). (u, lu, rw eu p.0, c))
            (λ (c : closes_in v ≡ true). (v, lv, rw ev p.0, c))
            (or_either (closes_in u) (closes_in v) p.1)

    -- where the rule is not broken, what meets in some order is accepted in it
    pub spared_accepts :
        (v : ℕ)
        → v < 6
        → closes t q a y x ≡ false
        → meets t q (third_at v) x ≡ true
        → meets t q (first_at v) a ≡ true
        → meets t q (second_at v) y ≡ true
        → accepted_at t q (third_at v) (first_at v) (second_at v) a y x ≡ true
    unfolding closes_in
    spared_accepts v l free mx ma my = go (accepted_at t q (third_at v) (first_at v) (second_at v) a y x) refl
      where
        go : (b : Bool) → accepted_at t q (third_at v) (first_at v) (second_at v) a y x ≡ b → b ≡ true
        go true e = refl
        go false e = both (order_closes v l mx (rw (ma, my, e))) free

    -- and back
    pub accepts_spared :
        ((v : ℕ)
        → v < 6
        → meets t q (third_at v) x ≡ true
        → meets t q (first_at v) a ≡ true
        → meets t q (second_at v) y ≡ true
        → accepted_at t q (third_at v) (first_at v) (second_at v) a y x ≡ true)
        → closes t q a y x ≡ false
    unfolding closes_in
    accepts_spared each =
        fails (closes t q a y x)
        (λ h.
        let w = closes_order h in
        let v = w.0 in
        let one =
        and_both (meets t q (first_at v) a)
        (meets t q (second_at v) y && not (accepted_at t q (third_at v) (first_at v) (second_at v) a y x)) w.3 in
        let two =
        and_both (meets t q (second_at v) y) (not (accepted_at t q (third_at v) (first_at v) (second_at v) a y x))
        one.1 in
        both (each v w.1 w.2 one.0 two.0)
        (not-true (accepted_at t q (third_at v) (first_at v) (second_at v) a y x) two.1))

-- whether a restriction takes places depends on their operations alone
pub accepted_operations :
    (t : List RuleTable) (rules : ℕ → Bool) (q i k l a c p y x : ℕ)
    → Repeats t rules
    → q < 32
    → rules q ≡ true
    → i < 3
    → l < 3
    → y % 16 ≡ c % 16
    → x % 16 ≡ p % 16
    → accepted_at t q i k l a y x ≡ accepted_at t q i k l a c p
unfolding accepted_at up_to
accepted_operations t rules q i k l a c p y x repeats lq rule li ll ey ex =
    any_from_same (λ j. takes_at t q i j x && (takes_at t q k j a && takes_at t q l j y))
    (λ j. takes_at t q i j p && (takes_at t q k j a && takes_at t q l j c)) 0 8
    (λ j lo hi. rw (one i j x p li (omega arith) ex, one l j y c ll (omega arith) ey))
  where
    one : (h j u v : ℕ) → h < 3 → j < 8 → u % 16 ≡ v % 16 → takes_at t q h j u ≡ takes_at t q h j v
    one h j u v lh lj e = repeats q h j u lq rule lh lj ∙ ap (takes_at t q h j) e ∙ sym (repeats q h j v lq rule lh lj)
