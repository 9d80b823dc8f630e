-- Laws of a rule's references: leaf sets as words, proper descendants, masks within support. Assumes nothing.
use Prim.Native.Nat.{ℕ, zero, suc, ◌-◌, ◌^◌, ◌≤◌, ◌<◌}
use native.Mathlib.Omega.{arith}
use mathlib.Core.Path.{◌≡◌, refl, sym, ◌∙◌}
use mathlib.Core.Bool.{Bool, true, false, ◌&&◌, ◌||◌, not}
use mathlib.Core.List.{List}
use lib.Dec.{eqb, ltb, leb}
use lib.Bits.{bit_and}
use borrow.Author.Tests.{ltb-true, ltb-false, le-ltb, lt-ltb, lt-leb, leb-false}
use Rattle.book.specs.Lists.{all, from, up_to}
use Rattle.book.specs.Sets.{has}
use Rattle.book.specs.Hierarchies.{leaf, under, proper_descendant}
use Rattle.book.specs.Head.{data_count, is_data_leaf, support_of, supports}
use Rattle.book.specs.Rule.{reference_count, restriction_count, data_category, restriction_mask, in_leaf_set}
use Rattle.std.specs.Prelude.{Option, None}
use Rattle.book.specs.Refusals.{user_numbers_hold, numbers_hold, reference_holds, leaf_sets_apart, references_apart, mask_allows}
use Rattle.book.specs.Refusals.{mask_holds, masks_hold}
use Rattle.book.specs.Inner.Words.{subtree}
use Rattle.book.specs.Inner.Testing.{NumbersRead, absent_or_holds, references_hold, present_leaf}
use Rattle.book.proofs.Lists.{all_three, and_true, and_left, and_right, or_neither, and_false, or_rest, or_otherwise, same_test, all_at, at_all}
use Rattle.book.proofs.Lists.{all_same}
use Rattle.book.proofs.Members.{has_zero, has_single, has_minus, disjoint_test}

-- Proper descendants, where the hierarchy fits a word

proper_bits :
    (t n d u : Bool) → (n ≡ true → t ≡ true) → (d && (t && (n && u))) ≡ (n && (d && u))
proper_bits t true d u h = rw (h refl)
proper_bits true false d u h = and_false d
proper_bits false false d u h = and_false d

pub proper_all :
    (n : ℕ) (parent : ℕ → ℕ) (c inside : ℕ) (list : List ℕ)
    → n ≤ 64
    → ((x : ℕ) → has inside x ≡ (ltb x 64 && subtree n parent c x))
    → all (λ x. not (eqb x c) && has inside x) list ≡ all (proper_descendant n parent c) list
unfolding proper_descendant
proper_all n parent c inside list small inside_at =
    all_same (λ x. not (eqb x c) && has inside x) (proper_descendant n parent c)
    (λ x.
    rw (inside_at x)
    (proper_bits (ltb x 64) (ltb x n) (not (eqb x c)) (under parent c x)
    (λ e. lt-ltb x 64 (omega (arith, ltb-true x n e)))))
    list

-- The references of a rule, three at most

pub references_three :
    (head rule : List ℕ) (a b c : Bool)
    → reference_count rule ≤ 3
    → a ≡ (leb (reference_count rule) 0 || reference_holds head rule 0)
    → b ≡ (leb (reference_count rule) 1 || reference_holds head rule 1)
    → c ≡ (leb (reference_count rule) 2 || reference_holds head rule 2)
    → (a && (b && c)) ≡ references_hold head rule
references_three head rule a b c few p q r =
    rw (p, q, r)
    (sym (all_three f)
    ∙ same_test (all f (up_to 3)) (references_hold head rule)
    (λ h.
    at_all (reference_holds head rule) (reference_count rule)
    (λ i l. or_rest (leb (reference_count rule) i) (reference_holds head rule i) (all_at f 3 h i (omega arith))
    (lt-leb (reference_count rule) i l)))
    (λ h.
    at_all f 3
    (λ i l.
    or_otherwise (leb (reference_count rule) i) (reference_holds head rule i)
    (λ e. all_at (reference_holds head rule) (reference_count rule) h i (leb-false (reference_count rule) i e)))))
  where
    f : ℕ → Bool
    f i = leb (reference_count rule) i || reference_holds head rule i

-- a reference that is there and does not hold
pub unread : (head rule : List ℕ) (i : ℕ) → absent_or_holds head rule i ≡ false → numbers_hold head rule ≡ false
unfolding numbers_hold
unread head rule i h = go (numbers_hold head rule) refl
  where
    go : (b : Bool) → numbers_hold head rule ≡ b → numbers_hold head rule ≡ false
    go false e = e
    go true e =
        let n = or_neither (leb (reference_count rule) i) (reference_holds head rule i) h in
        let held =
        all_at (reference_holds head rule) (reference_count rule)
        (and_right (user_numbers_hold head rule) (references_hold head rule) e) i
        (leb-false (reference_count rule) i n.0) in
        e ∙ sym held ∙ n.1

pub unread_users : (head rule : List ℕ) → user_numbers_hold head rule ≡ false → numbers_hold head rule ≡ false
unfolding numbers_hold
unread_users head rule h = rw h

pub none_read :
    (head rule : List ℕ) (r : Option (List ℕ)) → r ≡ None → numbers_hold head rule ≡ false → NumbersRead head rule r
none_read head rule r e h = rw e h

pub all_read :
    (head rule : List ℕ)
    → reference_count rule ≤ 3
    → user_numbers_hold head rule ≡ true
    → absent_or_holds head rule 0 ≡ true
    → absent_or_holds head rule 1 ≡ true
    → absent_or_holds head rule 2 ≡ true
    → numbers_hold head rule ≡ true
unfolding numbers_hold
all_read head rule few u a b c =
    and_true (user_numbers_hold head rule) (references_hold head rule) u
    (sym (references_three head rule true true true few (sym a) (sym b) (sym c)))

-- a category that a reference names is there
pub category_known :
    (head rule : List ℕ) (i : ℕ)
    → references_hold head rule ≡ true
    → i < reference_count rule
    → data_category rule i < data_count head
unfolding reference_holds
category_known head rule i h l =
    ltb-true (data_category rule i) (data_count head)
    (and_left (ltb (data_category rule i) (data_count head)) _
    (all_at (reference_holds head rule) (reference_count rule) h i l))

-- Leaf sets that share no leaf

unfoldable three : ℕ → ℕ → ℕ → ℕ → ℕ
three a b c zero = a
three a b c (suc zero) = b
three a b c (suc (suc i)) = c

three_all : (P : ℕ → Type 0) (a b c : ℕ) → P a → P b → P c → (i : ℕ) → P (three a b c i)
unfolding three
three_all P a b c p q r zero = p
three_all P a b c p q r (suc zero) = q
three_all P a b c p q r (suc (suc i)) = r

three_at :
    (f : ℕ → ℕ → Bool) (a b c : ℕ)
    → ((d : ℕ) → has a d ≡ f 0 d)
    → ((d : ℕ) → has b d ≡ f 1 d)
    → ((d : ℕ) → has c d ≡ f 2 d)
    → (i : ℕ) → i < 3 → (d : ℕ) → has (three a b c i) d ≡ f i d
unfolding three
three_at f a b c p q r zero l d = p d
three_at f a b c p q r (suc zero) l d = q d
three_at f a b c p q r (suc (suc zero)) l d = r d
three_at f a b c p q r (suc (suc (suc i))) l d = absurd (omega arith)

pairs_three :
    (t : ℕ → ℕ → Bool)
    → (t 1 0 && (t 2 0 && t 2 1)) ≡ all (λ i. all (t i) (up_to i)) (up_to 3)
unfolding all up_to from
pairs_three t = go (t 1 0) (t 2 0) (t 2 1)
  where
    go : (p q r : Bool) → (p && (q && r)) ≡ ((p && true) && ((q && (r && true)) && true))
    go true true true = refl
    go true true false = refl
    go true false r = refl
    go false q r = refl

-- a leaf is below the count
leaf_below : (head rule : List ℕ) (i d : ℕ) → data_count head ≤ d → in_leaf_set head rule i d ≡ false
unfolding in_leaf_set is_data_leaf leaf
leaf_below head rule i d h = rw (le-ltb d (data_count head) h)

module _ (head rule : List ℕ) (word : ℕ → ℕ) (small : data_count head ≤ 64) (few : reference_count rule ≤ 3)
    (fits : (i : ℕ) → word i < 2 ^ 64)
    (word_at :
    (i : ℕ)
    → i < 3
    → (d : ℕ) → has (word i) d ≡ (ltb i (reference_count rule) && (ltb d 64 && in_leaf_set head rule i d))) where
  apart : ℕ → ℕ → Bool
  apart i j = eqb (bit_and (word i) (word j)) 0

  present : (i d : ℕ) → i < reference_count rule → d < 64 → has (word i) d ≡ in_leaf_set head rule i d
  present i d l s =
      word_at i (omega arith) d ∙ rw (lt-ltb i (reference_count rule) l, lt-ltb d 64 s)

  words_to_sets :
      (i j : ℕ) → i < reference_count rule → j < i → apart i j ≡ true → leaf_sets_apart head rule i j ≡ true
  unfolding leaf_sets_apart apart
  words_to_sets i j l m h =
      at_all (λ d. not (in_leaf_set head rule i d && in_leaf_set head rule j d)) (data_count head)
      (λ d q.
      rw (← (present i d l (omega arith)), ← (present j d (omega arith) (omega arith)))
      (all_at (λ x. not (has (word i) x && has (word j) x)) 64
      (sym (disjoint_test 64 (word i) (word j) (fits i)) ∙ h) d (omega arith)))

  sets_to_words :
      (i j : ℕ) → i < reference_count rule → j < i → leaf_sets_apart head rule i j ≡ true → apart i j ≡ true
  unfolding leaf_sets_apart apart
  sets_to_words i j l m h =
      disjoint_test 64 (word i) (word j) (fits i)
      ∙ at_all (λ x. not (has (word i) x && has (word j) x)) 64
      (λ d q. rw (present i d l q, present j d (omega arith) q) (go d (ltb d (data_count head)) refl))
    where
      go :
          (d : ℕ) (b : Bool)
          → ltb d (data_count head) ≡ b
          → not (in_leaf_set head rule i d && in_leaf_set head rule j d) ≡ true
      go d true t =
          all_at (λ x. not (in_leaf_set head rule i x && in_leaf_set head rule j x)) (data_count head) h d
          (ltb-true d (data_count head) t)
      go d false t = rw (leaf_below head rule i d (ltb-false d (data_count head) t))

  absent : (i j : ℕ) → i < 3 → reference_count rule ≤ i → apart i j ≡ true
  unfolding apart
  absent i j s l =
      disjoint_test 64 (word i) (word j) (fits i)
      ∙ at_all (λ x. not (has (word i) x && has (word j) x)) 64
      (λ d q. rw (word_at i s d, le-ltb i (reference_count rule) l))

  references_apart_at :
      (eqb (bit_and (word 1) (word 0)) 0 && (eqb (bit_and (word 2) (word 0)) 0 && eqb (bit_and (word 2) (word 1)) 0))
      ≡ references_apart head rule
  unfolding references_apart apart
  references_apart_at =
      pairs_three apart
      ∙ same_test (all (λ i. all (apart i) (up_to i)) (up_to 3))
      (all (λ i. all (leaf_sets_apart head rule i) (up_to i)) (up_to (reference_count rule)))
      (λ h.
      at_all (λ i. all (leaf_sets_apart head rule i) (up_to i)) (reference_count rule)
      (λ i l.
      at_all (leaf_sets_apart head rule i) i
      (λ j m.
      words_to_sets i j l m (all_at (apart i) i (all_at (λ k. all (apart k) (up_to k)) 3 h i (omega arith)) j m))))
      (λ h.
      at_all (λ i. all (apart i) (up_to i)) 3
      (λ i l. at_all (apart i) i (λ j m. back h i j l m (ltb i (reference_count rule)) refl)))
    where
      back :
          all (λ i. all (leaf_sets_apart head rule i) (up_to i)) (up_to (reference_count rule)) ≡ true
          → (i j : ℕ)
          → i < 3
          → j < i
          → (b : Bool)
          → ltb i (reference_count rule) ≡ b
          → apart i j ≡ true
      back h i j l m true t =
          let n : i < reference_count rule = ltb-true i (reference_count rule) t in
          sets_to_words i j n m
          (all_at (leaf_sets_apart head rule i) i
          (all_at (λ k. all (leaf_sets_apart head rule k) (up_to k)) (reference_count rule) h i n) j m)
      back h i j l m false t = absent i j l (ltb-false i (reference_count rule) t)

-- three words, each the leaf set of its reference, empty where that is absent
pub leaf_sets_apart_law :
    (head rule : List ℕ) (a b c : ℕ)
    → data_count head ≤ 64
    → reference_count rule ≤ 3
    → a < 2 ^ 64
    → b < 2 ^ 64
    → c < 2 ^ 64
    → ((d : ℕ) → has a d ≡ present_leaf head rule 0 d)
    → ((d : ℕ) → has b d ≡ present_leaf head rule 1 d)
    → ((d : ℕ) → has c d ≡ present_leaf head rule 2 d)
    → (eqb (bit_and b a) 0 && (eqb (bit_and c a) 0 && eqb (bit_and c b) 0)) ≡ references_apart head rule
unfolding three
leaf_sets_apart_law head rule a b c small few p q r a_at b_at c_at =
    references_apart_at head rule (three a b c) small few (three_all (λ x. x < 2 ^ 64) a b c p q r)
    (three_at (present_leaf head rule) a b c a_at b_at c_at)

-- Masks

-- a mask names nothing outside a set
abbrev pub mask_within : List ℕ → ℕ → ℕ → ℕ → Bool
mask_within rule j i a = all (λ k. not (has (restriction_mask rule j i) k) || has a k) (up_to 16)

mask_holds_at :
    (head rule : List ℕ) (j i a : ℕ)
    → ((k : ℕ) → has a k ≡ mask_allows head rule i k)
    → mask_within rule j i a ≡ mask_holds head rule j i
unfolding mask_holds
mask_holds_at head rule j i a a_at =
    all_same (λ k. not (has (restriction_mask rule j i) k) || has a k)
    (λ k. not (has (restriction_mask rule j i) k) || mask_allows head rule i k) (λ k. rw (a_at k)) (up_to 16)

and_swap : (a b : Bool) → (a && not b) ≡ (not b && (true && a))
and_swap true true = refl
and_swap true false = refl
and_swap false true = refl
and_swap false false = refl

module _ (head rule : List ℕ) (i : ℕ) where
  pub allowed_present :
      (s : ℕ)
      → i < reference_count rule
      → s ≡ support_of head (data_category rule i)
      → s < 2 ^ 64
      → (k : ℕ) → has (bit_and s ((2 ^ 64 - 1) - 1)) k ≡ mask_allows head rule i k
  unfolding mask_allows supports
  allowed_present s l e small k =
      has_minus 64 s 1 k small (omega arith)
      ∙ rw (has_single k 0, lt-ltb i (reference_count rule) l, ← e) (and_swap (has s k) (eqb k 0))

  pub allowed_absent : reference_count rule ≤ i → (k : ℕ) → has 0 k ≡ mask_allows head rule i k
  unfolding mask_allows
  allowed_absent l k =
      rw (has_zero k, le-ltb i (reference_count rule) l) (sym (and_false (not (eqb k 0))))

-- the three masks of each restriction, against the words of what each allows
pub masks_all :
    (head rule : List ℕ) (a b c : ℕ)
    → ((k : ℕ) → has a k ≡ mask_allows head rule 0 k)
    → ((k : ℕ) → has b k ≡ mask_allows head rule 1 k)
    → ((k : ℕ) → has c k ≡ mask_allows head rule 2 k)
    → all (λ j. mask_within rule j 0 a && (mask_within rule j 1 b && mask_within rule j 2 c)) (up_to (restriction_count rule))
    ≡ masks_hold head rule
unfolding masks_hold
masks_all head rule a b c a_at b_at c_at =
    all_same (λ j. mask_within rule j 0 a && (mask_within rule j 1 b && mask_within rule j 2 c))
    (λ j. all (mask_holds head rule j) (up_to 3))
    (λ j.
    rw (
      all_three (mask_holds head rule j),
      mask_holds_at head rule j 0 a a_at,
      mask_holds_at head rule j 1 b b_at,
      mask_holds_at head rule j 2 c c_at,
    )) (up_to (restriction_count rule))
