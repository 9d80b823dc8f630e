-- Laws of hierarchies. The way up from a category is the category and, where its parent is lower, the way up from the
-- parent; everything else follows from that one equation. Assumes nothing.
use Prim.Native.Nat.{ℕ, zero, suc, ◌+◌, ◌-◌, ◌^◌, ◌≤◌, ◌<◌}
use native.Mathlib.Omega.{arith}
use mathlib.Core.Path.{◌≡◌, refl, sym, ap, ◌∙◌}
use mathlib.Core.Bool.{Bool, true, false, ◌&&◌, ◌||◌, not, cond}
use mathlib.Core.List.{List, [], ◌∷◌}
use lib.Dec.{eqb, ltb}
use lib.Pow.{pow_pos}
use lib.Bits.{bit_or}
use borrow.Author.Tests.{ltb-true, ltb-false, le-ltb, lt-ltb, eqb-true, eqb-false, eq-eqb, ne_eqb}
use Rattle.book.specs.Lists.{any, all, up_to}
use Rattle.book.specs.Sets.{has, less}
use Rattle.book.specs.Hierarchies.{upward_in, upward, under, support_along, support, leaf, parent_holds}
use Rattle.book.proofs.Lists.{and_left, and_second, and_false, and_never, or_end, or_true, ltb_more, by_cases}
use Rattle.book.proofs.Lists.{any_same, any_both, any_with, any_nothing, all_more, all_none}

-- The way up

any_step : (f : ℕ → Bool) (c : ℕ) (b : Bool) (l : List ℕ) → any f (c ∷ cond b l []) ≡ (f c || (b && any f l))
unfolding any
any_step f c true l = refl
any_step f c false l = refl

along_step :
    (own withdrawn : ℕ → ℕ) (c : ℕ) (b : Bool) (l : List ℕ)
    → support_along own withdrawn (c ∷ cond b l [])
    ≡ bit_or (less (cond b (support_along own withdrawn l) 0) (withdrawn c)) (own c)
unfolding support_along
along_step own withdrawn c true l = refl
along_step own withdrawn c false l = refl

module _ (parent : ℕ → ℕ) where
  upward_in_up :
      (steps c : ℕ)
      → upward_in (suc steps) parent c ≡ c ∷ cond (ltb (parent c) c) (upward_in steps parent (parent c)) []
  unfolding upward_in
  upward_in_up steps c =
      ap (λ (l : List ℕ). c ∷ l) (by_cases (ltb (parent c) c) (upward_in steps parent (parent c)) [])

  upward_in_root : (steps : ℕ) → upward_in steps parent 0 ≡ 0 ∷ []
  unfolding upward_in
  upward_in_root zero = refl
  upward_in_root (suc steps) = upward_in_up steps 0 ∙ rw (le-ltb (parent 0) 0 (omega arith))

  -- more steps than the number of the category change nothing
  upward_in_enough : (m n c : ℕ) → c ≤ m → c ≤ n → upward_in m parent c ≡ upward_in n parent c
  upward_in_enough zero n c p q =
      let e : c ≡ 0 = omega arith in
      rw e (upward_in_root 0 ∙ sym (upward_in_root n))
  upward_in_enough (suc m) zero c p q =
      let e : c ≡ 0 = omega arith in
      rw e (upward_in_root (suc m) ∙ sym (upward_in_root 0))
  upward_in_enough (suc m) (suc n) c p q =
      go (ltb (parent c) c) refl (upward_in_enough m n (parent c))
    where
      go :
          (b : Bool)
          → ltb (parent c) c ≡ b
          → (parent c ≤ m → parent c ≤ n → upward_in m parent (parent c) ≡ upward_in n parent (parent c))
          → upward_in (suc m) parent c ≡ upward_in (suc n) parent c
      go true e lower =
          let l : parent c < c = ltb-true (parent c) c e in
          rw (upward_in_up m c, upward_in_up n c, e) (ap (λ (s : List ℕ). c ∷ s) (lower (omega arith) (omega arith)))
      go false e lower = rw (upward_in_up m c, upward_in_up n c, e)

  pub upward_up : (c : ℕ) → upward parent c ≡ c ∷ cond (ltb (parent c) c) (upward parent (parent c)) []
  unfolding upward
  upward_up zero = upward_in_root 0 ∙ rw (le-ltb (parent 0) 0 (omega arith))
  upward_up (suc n) = go (ltb (parent (suc n)) (suc n)) refl
    where
      go :
          (b : Bool)
          → ltb (parent (suc n)) (suc n) ≡ b
          → upward_in (suc n) parent (suc n)
          ≡ suc n ∷ cond (ltb (parent (suc n)) (suc n)) (upward_in (parent (suc n)) parent (parent (suc n))) []
      go true e =
          let l : parent (suc n) < suc n = ltb-true (parent (suc n)) (suc n) e in
          rw (upward_in_up, e)
          (ap (λ (s : List ℕ). suc n ∷ s)
          (upward_in_enough n (parent (suc n)) (parent (suc n)) (omega arith) (omega arith)))
      go false e = rw (upward_in_up, e)

  -- a test is met on the way up at the category or on the way up from its parent
  pub any_up :
      (f : ℕ → Bool) (c : ℕ)
      → any f (upward parent c) ≡ (f c || (ltb (parent c) c && any f (upward parent (parent c))))
  any_up f c = rw (upward_up c) (any_step f c (ltb (parent c) c) (upward parent (parent c)))

  -- support by recursion to the parent
  pub support_up :
      (own withdrawn : ℕ → ℕ) (c : ℕ)
      → support parent own withdrawn c
      ≡ bit_or (less (cond (ltb (parent c) c) (support parent own withdrawn (parent c)) 0) (withdrawn c)) (own c)
  unfolding support
  support_up own withdrawn c =
      rw (upward_up c) (along_step own withdrawn c (ltb (parent c) c) (upward parent (parent c)))

  any_in_none : (f : ℕ → Bool) (c : ℕ) → any f (upward_in 0 parent c) ≡ f c
  unfolding upward_in any
  any_in_none f c = or_end (f c)

  any_in_up :
      (f : ℕ → Bool) (steps c : ℕ)
      → any f (upward_in (suc steps) parent c) ≡ (f c || (ltb (parent c) c && any f (upward_in steps parent (parent c))))
  any_in_up f steps c =
      rw (upward_in_up steps c) (any_step f c (ltb (parent c) c) (upward_in steps parent (parent c)))

  -- the way up from c holds no number above c
  upward_in_same :
      (f g : ℕ → Bool) (steps c : ℕ)
      → ((j : ℕ) → j ≤ c → f j ≡ g j)
      → any f (upward_in steps parent c) ≡ any g (upward_in steps parent c)
  upward_in_same f g zero c h = any_in_none f c ∙ h c (omega arith) ∙ sym (any_in_none g c)
  upward_in_same f g (suc steps) c h =
      any_in_up f steps c
      ∙ go (ltb (parent c) c) refl (upward_in_same f g steps (parent c))
      ∙ sym (any_in_up g steps c)
    where
      go :
          (b : Bool)
          → ltb (parent c) c ≡ b
          → (((j : ℕ) → j ≤ parent c → f j ≡ g j)
          → any f (upward_in steps parent (parent c)) ≡ any g (upward_in steps parent (parent c)))
          → (f c || (ltb (parent c) c && any f (upward_in steps parent (parent c))))
          ≡ (g c || (ltb (parent c) c && any g (upward_in steps parent (parent c))))
      go true e lower =
          let l : parent c < c = ltb-true (parent c) c e in
          rw (h c (omega arith), lower (λ j q. h j (omega arith)))
      go false e lower = rw (e, h c (omega arith))

  pub upward_same :
      (f g : ℕ → Bool) (c : ℕ)
      → ((j : ℕ) → j ≤ c → f j ≡ g j)
      → any f (upward parent c) ≡ any g (upward parent c)
  unfolding upward
  upward_same f g c h = upward_in_same f g c c h

-- Under

-- c is the parent of x, and lower
unfoldable pub child : (ℕ → ℕ) → ℕ → ℕ → Bool
child parent c x = ltb (parent x) x && eqb c (parent x)

-- x is from i on, and c is x or the lower parent of x
unfoldable pub adds : (ℕ → ℕ) → ℕ → ℕ → ℕ → Bool
adds parent i c x = not (ltb x i) && (eqb c x || child parent c x)

or_again : (a b : Bool) → ((a || b) || b) ≡ (a || b)
or_again true b = refl
or_again false true = refl
or_again false false = refl

module _ (parent : ℕ → ℕ) where
  -- nothing is under a higher number
  pub under_above : (c i : ℕ) → i < c → under parent c i ≡ false
  unfolding under
  under_above c i l =
      upward_same parent (eqb c) (λ j. false) i (λ j m. ne_eqb c j (λ e. omega arith))
      ∙ any_nothing (upward parent i)

  under_child_in :
      (m c j : ℕ) → j ≤ m → under parent c j ≡ (eqb c j || any (child parent c) (upward parent j))
  unfolding under child
  under_child_in zero c j l =
      rw (any_up parent (eqb c) j, any_up parent (child parent c) j, le-ltb (parent j) j (omega arith))
  under_child_in (suc m) c j l =
      rw (any_up parent (eqb c) j, any_up parent (child parent c) j)
      (go (ltb (parent j) j) refl (under_child_in m c (parent j)))
    where
      go :
          (b : Bool)
          → ltb (parent j) j ≡ b
          → (parent j ≤ m
          → any (eqb c) (upward parent (parent j))
          ≡ (eqb c (parent j) || any (child parent c) (upward parent (parent j))))
          → (eqb c j || (ltb (parent j) j && any (eqb c) (upward parent (parent j))))
          ≡ (eqb c j
          || ((ltb (parent j) j && eqb c (parent j))
          || (ltb (parent j) j && any (child parent c) (upward parent (parent j)))))
      go true e lower =
          let p : parent j < j = ltb-true (parent j) j e in
          rw (e, lower (omega arith))
      go false e lower = rw e

  -- what is under c is c itself, or has a child of c on its way up
  under_child : (c j : ℕ) → under parent c j ≡ (eqb c j || any (child parent c) (upward parent j))
  under_child c j = under_child_in j c j (omega arith)

  -- the way up from below n holds nothing from n on
  pub adds_top : (n c j : ℕ) → j < n → any (adds parent n c) (upward parent j) ≡ false
  unfolding adds
  adds_top n c j l =
      upward_same parent (adds parent n c) (λ x. false) j (λ x m. rw (lt-ltb x n (omega arith)))
      ∙ any_nothing (upward parent j)

  -- from i on: from i + 1 on, and i itself
  pub adds_down :
      (i c j : ℕ)
      → any (adds parent i c) (upward parent j)
      ≡ (any (adds parent (i + 1) c) (upward parent j) || (under parent i j && (eqb c i || child parent c i)))
  unfolding under adds
  adds_down i c j =
      any_same (adds parent i c) (λ x. adds parent (i + 1) c x || (eqb i x && (eqb c i || child parent c i)))
      (λ x. go x (eqb i x) refl) (upward parent j)
      ∙ any_both (adds parent (i + 1) c) (λ x. eqb i x && (eqb c i || child parent c i)) (upward parent j)
      ∙ rw (any_with (eqb i) (eqb c i || child parent c i) (upward parent j))
    where
      go :
          (x : ℕ) (b : Bool)
          → eqb i x ≡ b
          → (not (ltb x i) && (eqb c x || child parent c x))
          ≡ ((not (ltb x (i + 1)) && (eqb c x || child parent c x)) || (eqb i x && (eqb c i || child parent c i)))
      go x true e =
          let l : i ≡ x = eqb-true i x e in
          rw (← l, le-ltb i i (omega arith), lt-ltb i (i + 1) (omega arith), eq-eqb i i refl)
      go x false e =
          let n = eqb-false i x e in
          rw (e, ltb_more x i (λ q. omega arith)) (sym (or_end (not (ltb x i) && (eqb c x || child parent c x))))

  -- what is under i is i itself, or has been added by a child
  pub adds_own : (i j : ℕ) → under parent i j ≡ (eqb i j || any (adds parent (i + 1) i) (upward parent j))
  unfolding adds child
  adds_own i j =
      under_child i j
      ∙ rw (any_same (child parent i) (adds parent (i + 1) i) (λ x. go x (ltb x (i + 1)) refl) (upward parent j))
    where
      go :
          (x : ℕ) (b : Bool)
          → ltb x (i + 1) ≡ b
          → (ltb (parent x) x && eqb i (parent x))
          ≡ (not (ltb x (i + 1)) && (eqb i x || (ltb (parent x) x && eqb i (parent x))))
      go x true e =
          let l : x < i + 1 = ltb-true x (i + 1) e in
          rw e
          (and_never (ltb (parent x) x) (eqb i (parent x))
          (λ t. let p : parent x < x = ltb-true (parent x) x t in ne_eqb i (parent x) (λ q. omega arith)))
      go x false e =
          let l : i + 1 ≤ x = ltb-false x (i + 1) e in
          rw (e, ne_eqb i x (λ q. omega arith))

  -- once all have added, each has what is under it
  pub adds_end : (c j : ℕ) → any (adds parent 0 c) (upward parent j) ≡ under parent c j
  unfolding adds under
  adds_end c j =
      any_same (adds parent 0 c) (λ x. eqb c x || child parent c x) (λ x. rw (le-ltb x 0 (omega arith)))
      (upward parent j)
      ∙ any_both (eqb c) (child parent c) (upward parent j)
      ∙ ap (λ (b : Bool). b || any (child parent c) (upward parent j)) (under_child c j)
      ∙ or_again (eqb c j) (any (child parent c) (upward parent j))
      ∙ sym (under_child c j)

-- Leaves

-- the leaves of at most 64 categories all have their place in a word
pub leaf_in_word : (n : ℕ) (parent : ℕ → ℕ) (d : ℕ) → n ≤ 64 → (ltb d 64 && leaf n parent d) ≡ leaf n parent d
unfolding leaf
leaf_in_word n parent d h =
    and_second (ltb d 64) (leaf n parent d)
    (λ e.
    let l : d < n = ltb-true d n (and_left (ltb d n) _ e) in
    lt-ltb d 64 (omega arith))

-- a root does not name another one as parent; any other category names its parent
pub root_apart : (t : Bool) → not (t || not t) ≡ false
root_apart true = refl
root_apart false = refl

pub parent_apart : (p i c : ℕ) → (p ≡ i → ⊥) → not (eqb i c || not (eqb p c)) ≡ eqb c p
parent_apart p i c n = go (eqb p c) refl
  where
    go : (t : Bool) → eqb p c ≡ t → not (eqb i c || not (eqb p c)) ≡ eqb c p
    go true e =
        let d = eqb-true p c e in
        rw (e, ne_eqb i c (λ h. omega arith), eq-eqb c p (omega arith))
    go false e =
        let d = eqb-false p c e in
        rw (e, or_true, ne_eqb c p (λ h. omega arith))

-- the parents that the categories below i name, as the pass over them finds them
pub record Named (parent : ℕ → ℕ) (n i word : ℕ) : Type 0 where
  pub bound : i ≤ n
  pub fits : word < 2 ^ 64
  pub at : (c : ℕ) → has word c ≡ (ltb c 64 && not (all (λ j. eqb j c || not (eqb (parent j) c)) (up_to i)))

not_both : (t a b : Bool) → ((t && not a) || (t && not b)) ≡ (t && not (a && b))
not_both true true b = refl
not_both true false b = refl
not_both false a b = refl

pub named_none : (parent : ℕ → ℕ) (n : ℕ) → ((c : ℕ) → has 0 c ≡ false) → Named parent n 0 0
named_none parent n zero_has =
    record {
      bound = omega arith;
      fits = pow_pos 64;
      at = λ c. rw (zero_has c, all_none (λ j. eqb j c || not (eqb (parent j) c))) (sym (and_false (ltb c 64)));
    }

pub named_more :
    (parent : ℕ → ℕ) (n i p word next : ℕ)
    → Named parent n i word
    → i < n
    → next < 2 ^ 64
    → p ≡ parent i
    → ((c : ℕ) → has next c ≡ (has word c || (ltb c 64 && not (eqb i c || not (eqb p c)))))
    → Named parent n (i + 1) next
named_more parent n i p word next r small fits e step =
    record {
      bound = omega arith;
      fits = fits;
      at =
          λ c.
          step c
          ∙ rw (r.at c, e, all_more (λ j. eqb j c || not (eqb (parent j) c)) i)
          (not_both (ltb c 64) (all (λ j. eqb j c || not (eqb (parent j) c)) (up_to i))
          (eqb i c || not (eqb (parent i) c)));
    }

less_named : (t b a : Bool) → ((t && b) && not (t && not a)) ≡ (t && (b && a))
less_named true true true = refl
less_named true true false = refl
less_named true false a = refl
less_named false b a = refl

pub named_end :
    (parent : ℕ → ℕ) (n i word low r : ℕ)
    → Named parent n i word
    → n ≤ i
    → ((c : ℕ) → has low c ≡ (ltb c 64 && ltb c n))
    → ((c : ℕ) → has r c ≡ (has low c && not (has word c)))
    → (c : ℕ) → has r c ≡ (ltb c 64 && leaf n parent c)
unfolding leaf
named_end parent n i word low r k past low_at r_at c =
    let b : i ≤ n = k.bound in
    let e : i ≡ n = omega arith in
    r_at c
    ∙ rw (low_at c, k.at c, e)
    (less_named (ltb c 64) (ltb c n) (all (λ j. eqb j c || not (eqb (parent j) c)) (up_to n)))

-- The law of parents

module _ (parent : ℕ → ℕ) where
  pub root_holds : (i p : ℕ) → i ≡ 0 → p ≡ parent i → eqb p 0 ≡ parent_holds parent i
  unfolding parent_holds
  root_holds zero p z e = rw e
  root_holds (suc i) p z e = absurd (omega arith)

  pub child_holds : (i p : ℕ) → (i ≡ 0 → ⊥) → p ≡ parent i → ltb p i ≡ parent_holds parent i
  unfolding parent_holds
  child_holds zero p z e = absurd (z refl)
  child_holds (suc i) p z e = rw e

  -- a parent is lower than its child, and the root's is 0
  pub parent_falls : (i : ℕ) → parent_holds parent i ≡ true → parent i ≤ i - 1
  unfolding parent_holds
  parent_falls zero h = let e : parent 0 ≡ 0 = eqb-true (parent 0) 0 h in omega arith
  parent_falls (suc i) h = let l : parent (suc i) < suc i = ltb-true (parent (suc i)) (suc i) h in omega arith
