-- Laws of the words of a head: how they are made, and what is read from them. Assumes nothing.
use Prim.Native.Nat.{ℕ, ◌+◌, ◌-◌, ◌^◌, ◌≤◌, ◌<◌, min}
use native.Mathlib.Omega.{arith}
use mathlib.Core.Path.{◌≡◌, refl, sym, ◌∙◌}
use mathlib.Core.Bool.{Bool, true, false, ◌&&◌, ◌||◌, not}
use mathlib.Core.List.{List}
use lib.ListN.{length, get_or, take, set, replicate, length-set, get_or-replicate}
use lib.Seq.{get_or-set_same, get_or-set_other}
use lib.Dec.{eqb, ltb}
use lib.Bits.{bit_and, bit_or}
use borrow.Author.Tests.{ltb-true, ltb-false, lt-ltb, eqb-true, eqb-false, eq-eqb, ne_eqb}
use Rattle.book.specs.Lists.{any}
use Rattle.book.specs.Sets.{has}
use Rattle.book.specs.Hierarchies.{upward, under, leaf, covers}
use Rattle.book.specs.Inner.Words.{subtree}
use Rattle.book.proofs.Lists.{and_left, and_second, and_end, and_false, and_assoc, or_end, or_true, same_test, eqb_sym}
use Rattle.book.proofs.Lists.{any_take}
use Rattle.book.proofs.Members.{has_zero, has_or, has_and, has_minus}
use Rattle.book.proofs.Hierarchies.{under_above, child, adds, adds_top, adds_down, adds_own, adds_end}

-- the numbers below 64 and below n, where the code takes the smaller one
pub capped : (n m : ℕ) → m ≡ min n 64 → (j : ℕ) → ltb j m ≡ (ltb j 64 && ltb j n)
capped n m e j = go (ltb n 64) refl
  where
    go : (b : Bool) → ltb n 64 ≡ b → ltb j m ≡ (ltb j 64 && ltb j n)
    go true t =
        let l : n < 64 = ltb-true n 64 t in
        let q : m ≡ n = omega (arith, e) in
        rw q (sym (and_second (ltb j 64) (ltb j n) (λ q. lt-ltb j 64 (omega (arith, ltb-true j n q)))))
    go false t =
        let l : 64 ≤ n = ltb-false n 64 t in
        let q : m ≡ 64 = omega (arith, e) in
        rw q
        (same_test (ltb j 64) (ltb j 64 && ltb j n)
        (λ q. let s : j < 64 = ltb-true j 64 q in rw (q, lt-ltb j n (omega arith)))
        (λ q. and_left (ltb j 64) (ltb j n) q))

pub below_capped : (n m : ℕ) → m ≡ min n 64 → (j : ℕ) → j < 64 → j < n → j < m
below_capped n m e j s l = ltb-true j m (capped n m e j ∙ rw (lt-ltb j 64 s, lt-ltb j n l))

-- What is under each category

-- the categories from i on have added what they have to their parents
pub record Gathered (parent : ℕ → ℕ) (n : ℕ) (words : List ℕ) (i : ℕ) : Type 0 where
  pub bound : i ≤ n
  pub few : n ≤ 64
  pub size : length words ≡ 64
  pub at : (c j : ℕ) → c < 64 → has (get_or words c 0) j ≡ (ltb j n && any (adds parent i c) (upward parent j))

pub gathered_none : (parent : ℕ → ℕ) (n : ℕ) → n ≤ 64 → Gathered parent n (replicate 64 0) n
gathered_none parent n l =
    record {
      bound = omega arith;
      few = l;
      size = refl;
      at = λ c j s. rw (get_or-replicate {A = ℕ} 64 c 0 0 s, has_zero j) (go c j (ltb j n) refl);
    }
  where
    go : (c j : ℕ) (b : Bool) → ltb j n ≡ b → false ≡ (b && any (adds parent n c) (upward parent j))
    go c j true t = sym (adds_top parent n c j (ltb-true j n t))
    go c j false t = refl

own_join : (t a e : Bool) → ((t && a) || (t && e)) ≡ (t && (e || a))
own_join true true e = sym (or_true e)
own_join true false e = sym (or_end e)
own_join false a e = refl

or_twice : (a o : Bool) → ((a || o) || (a || o)) ≡ (a || (a || o))
or_twice true o = refl
or_twice false true = refl
or_twice false false = refl

or_same : (a : Bool) → (a || false) ≡ (a || a)
or_same true = refl
or_same false = refl

or_within : (a o : Bool) → (a || o) ≡ (a || (a || o))
or_within true o = refl
or_within false o = refl

spread : (t a k u : Bool) → ((t && a) || (k && (t && u))) ≡ (t && (a || (u && k)))
spread true true k u = refl
spread true false true u = sym (and_end u)
spread true false false u = sym (and_false u)
spread false a true u = refl
spread false a false u = refl

-- i and its parent p get what i has
module _ (parent : ℕ → ℕ) (n i p one : ℕ) (words : List ℕ) (old : Gathered parent n words (i + 1))
    (p_at : p ≡ min (parent i) i)
    (one_at : (j : ℕ) → has one j ≡ (ltb j 64 && eqb j i)) where
  abbrev own : ℕ
  own = bit_or (get_or words i 0) one

  abbrev next : List ℕ
  next = set (set words i own) p (bit_or (get_or (set words i own) p 0) own)

  small : i < 64
  small = let b : i + 1 ≤ n = old.bound in let m : n ≤ 64 = old.few in omega arith

  takes_at : (c : ℕ) → (eqb c i || child parent c i) ≡ (eqb c i || eqb c p)
  unfolding child
  takes_at c = go (ltb (parent i) i) refl
    where
      go : (b : Bool) → ltb (parent i) i ≡ b → (eqb c i || (ltb (parent i) i && eqb c (parent i))) ≡ (eqb c i || eqb c p)
      go true t =
          let l = ltb-true (parent i) i t in
          let q : p ≡ parent i = omega (arith, p_at) in
          rw (q, t)
      go false t =
          let l = ltb-false (parent i) i t in
          let q : p ≡ i = omega (arith, p_at) in
          rw (q, t) (or_same (eqb c i))

  low : p ≤ i
  low = omega (arith, p_at)

  own_at : (j : ℕ) → has own j ≡ (ltb j n && under parent i j)
  own_at j =
      has_or (get_or words i 0) one j
      ∙ rw (old.at i j small, one_at j, alone, adds_own parent i j)
      (own_join (ltb j n) (any (adds parent (i + 1) i) (upward parent j)) (eqb i j))
    where
      alone : (ltb j 64 && eqb j i) ≡ (ltb j n && eqb i j)
      alone =
          let b : i + 1 ≤ n = old.bound in
          and_second (ltb j 64) (eqb j i) (λ e. lt-ltb j 64 (omega (arith, small, eqb-true j i e)))
          ∙ eqb_sym j i
          ∙ sym (and_second (ltb j n) (eqb i j) (λ e. lt-ltb j n (omega (arith, eqb-true i j e))))

  -- a word gets what i has where it is i's or its parent's
  next_at :
      (c j : ℕ)
      → has (get_or next c 0) j ≡ (has (get_or words c 0) j || ((eqb c i || child parent c i) && has own j))
  next_at c j = rw (takes_at c) (go (eqb c p) refl (eqb c i) refl)
    where
      size : length (set words i own) ≡ 64
      size = simp length-set old.size

      go :
          (x : Bool)
          → eqb c p ≡ x
          → (y : Bool)
          → eqb c i ≡ y
          → has (get_or next c 0) j ≡ (has (get_or words c 0) j || ((eqb c i || eqb c p) && has own j))
      go true x true y =
          let e : c ≡ i = eqb-true c i y in
          let f : p ≡ i = sym (eqb-true c p x) ∙ e in
          rw (
            e,
            f,
            get_or-set_same (set words i own) i (bit_or (get_or (set words i own) i 0) own) 0 (omega (arith, small, size)),
            get_or-set_same words i own 0 (omega (arith, small, old.size)),
            has_or own own j,
            has_or (get_or words i 0) one j,
            eq-eqb i i refl,
          ) (or_twice (has (get_or words i 0) j) (has one j))
      go true x false y =
          let e : c ≡ p = eqb-true c p x in
          let f : p ≡ i → ⊥ = λ q. eqb-false c i y (e ∙ q) in
          rw (
            e,
            get_or-set_same (set words i own) p (bit_or (get_or (set words i own) p 0) own) 0
                (omega (arith, small, low, size)),
            get_or-set_other words i p own 0 f,
            has_or (get_or words p 0) own j,
            eq-eqb p p refl,
            ne_eqb p i f,
          )
      go false x true y =
          let e : c ≡ i = eqb-true c i y in
          let f : i ≡ p → ⊥ = λ q. eqb-false c p x (e ∙ q) in
          rw (
            e,
            get_or-set_other (set words i own) p i (bit_or (get_or (set words i own) p 0) own) 0 f,
            get_or-set_same words i own 0 (omega (arith, small, old.size)),
            has_or (get_or words i 0) one j,
            eq-eqb i i refl,
          ) (or_within (has (get_or words i 0) j) (has one j))
      go false x false y =
          rw (
            get_or-set_other (set words i own) p c (bit_or (get_or (set words i own) p 0) own) 0 (eqb-false c p x),
            get_or-set_other words i c own 0 (eqb-false c i y),
            x,
            y,
          ) (sym (or_end (has (get_or words c 0) j)))

  pub gathered_more : Gathered parent n next i
  gathered_more =
      record {
        bound = let b : i + 1 ≤ n = old.bound in omega arith;
        few = old.few;
        size = simp length-set old.size;
        at =
            λ c j s.
            next_at c j
            ∙ rw (old.at c j s, own_at j, adds_down parent i c j)
            (spread (ltb j n) (any (adds parent (i + 1) c) (upward parent j)) (eqb c i || child parent c i)
            (under parent i j));
      }

pub gathered_end :
    (parent : ℕ → ℕ) (count n : ℕ) (words : List ℕ)
    → Gathered parent n words 0
    → n ≡ min count 64
    → (c : ℕ) → c < 64 → (j : ℕ) → has (get_or words c 0) j ≡ (ltb j 64 && subtree count parent c j)
gathered_end parent count n words g e c s j =
    g.at c j s ∙ rw (adds_end parent c j, capped count n e j) (and_assoc (ltb j 64) (ltb j count) (under parent c j))

-- What is read

-- a category from 64 on has nothing under it that has a place in a word
pub subtree_past : (count : ℕ) (parent : ℕ → ℕ) (c i : ℕ) → 64 ≤ c → has 0 i ≡ (ltb i 64 && subtree count parent c i)
subtree_past count parent c i h = has_zero i ∙ go (ltb i 64) refl
  where
    go : (b : Bool) → ltb i 64 ≡ b → false ≡ (b && (ltb i count && under parent c i))
    go true t =
        let l : i < 64 = ltb-true i 64 t in
        rw (under_above parent c i (omega arith)) (sym (and_false (ltb i count)))
    go false t = refl

under_more_at : (t n a b : Bool) → ((t && (n && a)) || (t && (n && b))) ≡ (t && (n && (a || b)))
under_more_at true true a b = refl
under_more_at true false a b = refl
under_more_at false n a b = refl

-- one category of a list more
pub under_more :
    (count : ℕ) (parent : ℕ → ℕ) (found one : ℕ) (list : List ℕ) (i : ℕ)
    → i < length list
    → ((j : ℕ) → has found j ≡ (ltb j 64 && (ltb j count && any (λ e. under parent e j) (take i list))))
    → ((j : ℕ) → has one j ≡ (ltb j 64 && subtree count parent (get_or list i 0) j))
    → (j : ℕ)
    → has (bit_or found one) j ≡ (ltb j 64 && (ltb j count && any (λ e. under parent e j) (take (i + 1) list)))
under_more count parent found one list i h old new j =
    rw (has_or found one j, old j, new j, any_take (λ e. under parent e j) list i h)
    (under_more_at (ltb j 64) (ltb j count) (any (λ e. under parent e j) (take i list)) (under parent (get_or list i 0) j))

covered_at_bits :
    (t l n u x : Bool) → (l ≡ true → n ≡ true) → ((t && l) && ((t && (n && u)) && not (t && (n && x)))) ≡ (t && (l && (u && not x)))
covered_at_bits true true n u x h = rw (h refl)
covered_at_bits true false n u x h = refl
covered_at_bits false l n u x h = refl

-- the leaves under a category, less those under an excluded one
pub covered_at :
    (leafAt : ℕ → Bool) (count : ℕ) (parent : ℕ → ℕ) (c : ℕ) (excluded : List ℕ) (leaves inside outside : ℕ)
    → ((i : ℕ) → leafAt i ≡ true → i < count)
    → inside < 2 ^ 64
    → outside < 2 ^ 64
    → ((i : ℕ) → has leaves i ≡ (ltb i 64 && leafAt i))
    → ((i : ℕ) → has inside i ≡ (ltb i 64 && subtree count parent c i))
    → ((i : ℕ) → has outside i ≡ (ltb i 64 && (ltb i count && any (λ e. under parent e i) excluded)))
    → (i : ℕ)
    → has (bit_and leaves (bit_and inside ((2 ^ 64 - 1) - outside))) i ≡ (ltb i 64 && (leafAt i && covers parent c excluded i))
unfolding covers
covered_at leafAt count parent c excluded leaves inside outside low fi fo a b d i =
    rw (
      has_and leaves (bit_and inside ((2 ^ 64 - 1) - outside)) i,
      has_minus 64 inside outside i fi fo,
      a i,
      b i,
      d i,
    )
    (covered_at_bits (ltb i 64) (leafAt i) (ltb i count) (under parent c i) (any (λ e. under parent e i) excluded)
    (λ h. lt-ltb i count (low i h)))

-- a leaf is one of the categories
pub leaf_known : (count : ℕ) (parent : ℕ → ℕ) (i : ℕ) → leaf count parent i ≡ true → i < count
unfolding leaf
leaf_known count parent i h = ltb-true i count (and_left (ltb i count) _ h)
