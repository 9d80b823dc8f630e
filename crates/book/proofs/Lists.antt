-- Laws of lists, of the connectives, of tests of numbers, and of the quantifiers. Assumes nothing.
use Prim.Native.Nat.{ℕ, zero, suc, ◌+◌, ◌-◌, ◌≤◌, ◌<◌}
use native.Mathlib.Nat.{zero-add, add-zero, eq-or-lt_of_le}
use native.Mathlib.Numerals.{add-one}
use native.Mathlib.Omega.{arith}
use mathlib.Core.Path.{◌≡◌, refl, sym, ap, ◌∙◌}
use mathlib.Core.Logic.{◌⊎◌, inl, inr, ⊎_elim}
use mathlib.Core.Bool.{Bool, true, false, ◌&&◌, ◌||◌, not, false≢true, cond}
use mathlib.Core.List.{List, [], ◌∷◌, ◌++◌, map}
use lib.ListN.{length, get_or, take, drop, length-take, length-drop, drop_of_length-le}
use lib.Seq.{take_all, take-nil, take-suc}
use lib.Dec.{eqb, ltb}
use borrow.Author.Tests.{not-true, ltb-true, lt-ltb, eqb-true, eq-eqb}
use Rattle.book.specs.Lists.{from, up_to, all, any, keep}

-- Parts of a list

module _ (s : List ℕ) (start count : ℕ) where
  pub part_past : length s ≤ start → ◌≡◌ {A = List ℕ} [] (take count (drop start s))
  part_past h = rw (drop_of_length-le s h) (sym (take-nil count))

  pub part_rest : length s - start ≤ count → take (length s - start) (drop start s) ≡ take count (drop start s)
  part_rest h =
      let l : length (drop start s) ≡ length s - start = length-drop start s in
      take_all (length s - start) (drop start s) (omega arith) ∙ sym (take_all count (drop start s) (omega arith))

  pub part_whole : take (start + count - start) (drop start s) ≡ take count (drop start s)
  part_whole =
      let e : start + count - start ≡ count = omega arith in
      rw e

-- a part has at most the bytes asked for
pub part_short : (s : List ℕ) (start count : ℕ) (r : List ℕ) → r ≡ take count (drop start s) → length r ≤ count
part_short s start count r e = rw (e, length-take) (omega arith)

-- Connectives

pub and_true : (a b : Bool) → a ≡ true → b ≡ true → (a && b) ≡ true
and_true a b p q = rw (p, q)

pub and_left : (a b : Bool) → (a && b) ≡ true → a ≡ true
and_left true b p = refl
and_left false b p = p

pub and_right : (a b : Bool) → (a && b) ≡ true → b ≡ true
and_right true b p = p
and_right false b p = absurd (false≢true p)

pub and_both : (a b : Bool) → (a && b) ≡ true → (a ≡ true) × (b ≡ true)
and_both a b h = (and_left a b h, and_right a b h)

pub not_holds : (a b : Bool) → not (a && b) ≡ true → a ≡ true → b ≡ true → ⊥
not_holds a b h p q = false≢true (rw (p, q) at h)

pub or_holds : (a b : Bool) → (not a || b) ≡ true → a ≡ true → b ≡ true
or_holds true b h p = h
or_holds false b h p = absurd (false≢true p)

pub or_rest : (a b : Bool) → (a || b) ≡ true → a ≡ false → b ≡ true
or_rest true b h p = absurd (false≢true (sym p))
or_rest false b h p = h

pub or_otherwise : (a b : Bool) → (a ≡ false → b ≡ true) → (a || b) ≡ true
or_otherwise true b h = refl
or_otherwise false b h = h refl

pub or_either : (a b : Bool) → (a || b) ≡ true → (a ≡ true) ⊎ (b ≡ true)
or_either true b h = inl refl
or_either false b h = inr h

pub or_left : (a b : Bool) → a ≡ true → (a || b) ≡ true
or_left true b h = refl
or_left false b h = absurd (false≢true h)

pub or_right : (a b : Bool) → b ≡ true → (a || b) ≡ true
or_right true b h = refl
or_right false b h = h

pub or_neither : (a b : Bool) → (a || b) ≡ false → (a ≡ false) × (b ≡ false)
or_neither true b h = absurd (false≢true (sym h))
or_neither false b h = (refl, h)

pub not_or : (a b : Bool) → not (a || b) ≡ (not a && not b)
not_or true b = refl
not_or false b = refl

pub and_assoc : (a b c : Bool) → (a && b && c) ≡ (a && (b && c))
and_assoc true b c = refl
and_assoc false b c = refl

pub or_assoc : (a b c : Bool) → (a || b || c) ≡ (a || (b || c))
or_assoc true b c = refl
or_assoc false b c = refl

pub and_end : (a : Bool) → (a && true) ≡ a
and_end true = refl
and_end false = refl

pub or_end : (a : Bool) → (a || false) ≡ a
or_end true = refl
or_end false = refl

pub and_false : (a : Bool) → (a && false) ≡ false
and_false true = refl
and_false false = refl

pub or_true : (a : Bool) → (a || true) ≡ true
or_true true = refl
or_true false = refl

pub and_or : (a b c : Bool) → (a && (b || c)) ≡ (a && b || a && c)
and_or true b c = refl
and_or false b c = refl

pub or_regroup : (a b c d : Bool) → ((a || b) || (c || d)) ≡ ((a || c) || (b || d))
or_regroup true b c d = refl
or_regroup false true true d = refl
or_regroup false true false d = refl
or_regroup false false c d = refl

-- a test that the other one makes pass can go
pub and_first : (a b : Bool) → (a ≡ true → b ≡ true) → (a && b) ≡ a
and_first true b h = h refl
and_first false b h = refl

pub and_second : (a b : Bool) → (b ≡ true → a ≡ true) → (a && b) ≡ b
and_second true b h = refl
and_second false true h = h refl
and_second false false h = refl

-- two tests that never pass together
pub and_never : (a b : Bool) → (a ≡ true → b ≡ false) → (a && b) ≡ false
and_never true b h = h refl
and_never false b h = refl

pub and_over : (a b c : Bool) → (a && c || b && c) ≡ ((a || b) && c)
and_over true true true = refl
and_over true true false = refl
and_over true false c = or_end c
and_over false b c = refl

-- tests that agree where the first passes
pub and_where : (a b c : Bool) → (a ≡ true → b ≡ c) → (a && b) ≡ (a && c)
and_where true b c h = h refl
and_where false b c h = refl

-- two tests are equal where each passes with the other
pub same_test : (a b : Bool) → (a ≡ true → b ≡ true) → (b ≡ true → a ≡ true) → a ≡ b
same_test true b p q = sym (p refl)
same_test false true p q = q refl
same_test false false p q = refl

-- Numbers

pub eqb_sym : (a b : ℕ) → eqb a b ≡ eqb b a
eqb_sym a b =
    same_test (eqb a b) (eqb b a)
    (λ h. eq-eqb b a (sym (eqb-true a b h)))
    (λ h. eq-eqb a b (sym (eqb-true b a h)))

-- a bound one higher changes the test at one number only
pub ltb_more : (j k : ℕ) → (j ≡ k → ⊥) → ltb j (k + 1) ≡ ltb j k
ltb_more j k n =
    same_test (ltb j (k + 1)) (ltb j k)
    (λ e. lt-ltb j k (omega (arith, ltb-true j (k + 1) e)))
    (λ e. lt-ltb j (k + 1) (omega (arith, ltb-true j k e)))

-- Cases

-- a case analysis on a test, as a function of the test that can be rewritten
pub by_cases : {A : Type 0} (b : Bool) (x y : A) → (elim b as (λ t. A) [ true ↦ x | false ↦ y ]) ≡ cond b x y
by_cases true x y = refl
by_cases false x y = refl

-- What is kept of a list, one element more

module _ {A : Type 0} (f : A → Bool) (x : A) (l : List A) where
  pub keep_in : f x ≡ true → keep f (x ∷ l) ≡ x ∷ keep f l
  unfolding keep
  keep_in h = rw (keep, h)

  pub keep_out : f x ≡ false → keep f (x ∷ l) ≡ keep f l
  unfolding keep
  keep_out h = rw (keep, h)

-- Quantifiers over a list

module _ {A : Type 0} (f : A → Bool) where
  pub all_append : (s t : List A) → all f (s ++ t) ≡ (all f s && all f t)
  unfolding all
  all_append [] t = refl
  all_append (x ∷ s) t = rw (all_append s t) (sym (and_assoc (f x) (all f s) (all f t)))

  pub append_all : (s t : List A) → all f s ≡ true → all f t ≡ true → all f (s ++ t) ≡ true
  append_all s t p q = all_append s t ∙ and_true (all f s) (all f t) p q

  pub any_append : (s t : List A) → any f (s ++ t) ≡ (any f s || any f t)
  unfolding any
  any_append [] t = refl
  any_append (x ∷ s) t = rw (any_append s t) (sym (or_assoc (f x) (any f s) (any f t)))

  pub all_one : (x : A) → all f (x ∷ []) ≡ f x
  unfolding all
  all_one x = and_end (f x)

  pub any_one : (x : A) → any f (x ∷ []) ≡ f x
  unfolding any
  any_one x = or_end (f x)

  pub any_nil : any f [] ≡ false
  unfolding any
  any_nil = refl

  pub any_guarded : (b : Bool) (l : List A) → any f (cond b l []) ≡ (b && any f l)
  unfolding any
  any_guarded true l = refl
  any_guarded false l = refl

  pub all_guarded : (b : Bool) (l : List A) → (b ≡ true → all f l ≡ true) → all f (cond b l []) ≡ true
  unfolding all
  all_guarded true l h = h refl
  all_guarded false l h = refl

  pub any_map : {B : Type 0} (g : B → A) (l : List B) → any f (map g l) ≡ any (λ x. f (g x)) l
  unfolding any
  any_map g [] = refl
  any_map g (x ∷ l) = ap (λ (b : Bool). f (g x) || b) (any_map g l)

  pub map_all :
      {B : Type 0} (g : B → A) (h : B → Bool)
      → ((x : B) → h x ≡ true → f (g x) ≡ true)
      → (l : List B) → all h l ≡ true → all f (map g l) ≡ true
  unfolding all
  map_all g h e [] p = refl
  map_all g h e (x ∷ l) p =
      and_true (f (g x)) (all f (map g l)) (e x (and_left (h x) (all h l) p))
      (map_all g h e l (and_right (h x) (all h l) p))

  -- a test that does not look at the element
  pub any_with : (b : Bool) (l : List A) → any (λ x. f x && b) l ≡ (any f l && b)
  unfolding any
  any_with b [] = refl
  any_with b (x ∷ l) = rw (any_with b l) (and_over (f x) (any f l) b)

  pub any_where : (b : Bool) (l : List A) → any (λ x. b && f x) l ≡ (b && any f l)
  unfolding any
  any_where true l = refl
  any_where false [] = refl
  any_where false (x ∷ l) = any_where false l

  pub not_any : (l : List A) → not (any f l) ≡ all (λ x. not (f x)) l
  unfolding any all
  not_any [] = refl
  not_any (x ∷ l) = rw (not_or (f x) (any f l), not_any l)

-- the first i + 1 elements of a list of numbers
module _ (f : ℕ → Bool) (l : List ℕ) (i : ℕ) (h : i < length l) where
  pub all_take : all f (take (i + 1) l) ≡ (all f (take i l) && f (get_or l i 0))
  all_take = rw (add-one, take-suc l i 0 h, all_append, all_one)

  pub any_take : any f (take (i + 1) l) ≡ (any f (take i l) || f (get_or l i 0))
  any_take = rw (add-one, take-suc l i 0 h, any_append, any_one)

module _ {A : Type 0} (f g : A → Bool) where
  -- tests that agree everywhere have equal quantifiers over any list
  pub all_same : ((x : A) → f x ≡ g x) → (l : List A) → all f l ≡ all g l
  unfolding all
  all_same e [] = refl
  all_same e (x ∷ l) = rw (e x, all_same e l)

  pub any_same : ((x : A) → f x ≡ g x) → (l : List A) → any f l ≡ any g l
  unfolding any
  any_same e [] = refl
  any_same e (x ∷ l) = rw (e x, any_same e l)

  pub any_both : (l : List A) → any (λ a. f a || g a) l ≡ (any f l || any g l)
  unfolding any
  any_both [] = refl
  any_both (x ∷ l) = rw (any_both l) (or_regroup (f x) (g x) (any f l) (any g l))

  -- one that passes a test, where all pass another
  pub any_found : (l : List A) → any f l ≡ true → all g l ≡ true → (x : A) × (f x ≡ true) × (g x ≡ true)
  unfolding any all
  any_found [] p q = absurd (false≢true p)
  any_found (x ∷ l) p q = go (f x) refl p (any_found l)
    where
      go :
          (b : Bool) →
          f x ≡ b →
          (b || any f l) ≡ true →
          (any f l ≡ true → all g l ≡ true → (y : A) × (f y ≡ true) × (g y ≡ true)) →
          (y : A) × (f y ≡ true) × (g y ≡ true)
      go true e h more = (x, e, and_left (g x) (all g l) q)
      go false e h more = more h (and_right (g x) (all g l) q)

-- a test that another one makes pass
pub any_wider :
    {A : Type 0} (f g : A → Bool) (l : List A)
    → ((x : A) → f x ≡ true → g x ≡ true)
    → any f l ≡ true
    → any g l ≡ true
unfolding any
any_wider f g [] h p = p
any_wider f g (x ∷ l) h p =
    or_otherwise (g x) (any g l) (λ e. any_wider f g l h (or_rest (f x) (any f l) p (go (f x) refl e)))
  where
    go : (b : Bool) → f x ≡ b → g x ≡ false → b ≡ false
    go true e n = absurd (false≢true (sym n ∙ h x e))
    go false e n = refl

pub any_nothing : {A : Type 0} (l : List A) → any (λ a. false) l ≡ false
unfolding any
any_nothing [] = refl
any_nothing (x ∷ l) = any_nothing l

-- Quantifiers over the numbers below n

pub from_more : (i n : ℕ) → from i (suc n) ≡ from i n ++ ((i + n) ∷ [])
unfolding from
from_more i zero = rw add-zero
from_more i (suc n) =
    let e : suc i + n ≡ i + suc n = omega arith in
    rw (← e) (ap (λ (l : List ℕ). i ∷ l) (from_more (suc i) n))

pub up_to_more : (n : ℕ) → up_to (suc n) ≡ up_to n ++ (n ∷ [])
unfolding up_to
up_to_more n = from_more 0 n ∙ ap (λ (m : ℕ). from 0 n ++ (m ∷ [])) (zero-add n)

pub from_append : (i m n : ℕ) → from i (m + n) ≡ from i m ++ from (i + m) n
unfolding from
from_append i zero n = rw (zero-add, add-zero)
from_append i (suc m) n =
    let e : suc m + n ≡ suc (m + n) = omega arith in
    let l : i + suc m ≡ suc i + m = omega arith in
    rw (e, l) (ap (λ (s : List ℕ). i ∷ s) (from_append (suc i) m n))

-- tests that agree on the n numbers from i up
pub any_from_same :
    (f g : ℕ → Bool) (i n : ℕ)
    → ((j : ℕ) → i ≤ j → j < i + n → f j ≡ g j)
    → any f (from i n) ≡ any g (from i n)
unfolding any from
any_from_same f g i zero h = refl
any_from_same f g i (suc n) h =
    rw (h i (omega arith) (omega arith), any_from_same f g (suc i) n (λ j lo hi. h j (omega arith) (omega arith)))

module _ (f : ℕ → Bool) where
  pub any_none : any f (up_to 0) ≡ false
  unfolding up_to from any
  any_none = refl

  pub any_more : (i : ℕ) → any f (up_to (i + 1)) ≡ (any f (up_to i) || f i)
  any_more i = rw (add-one, up_to_more, any_append, any_one)

  pub all_none : all f (up_to 0) ≡ true
  unfolding up_to from all
  all_none = refl

  pub all_more : (i : ℕ) → all f (up_to (i + 1)) ≡ (all f (up_to i) && f i)
  all_more i = rw (add-one, up_to_more, all_append, all_one)

  pub all_from : (i n : ℕ) → all f (from i n) ≡ true → (j : ℕ) → i ≤ j → j < i + n → f j ≡ true
  unfolding all from
  all_from i zero h j lo hi = absurd (omega arith)
  all_from i (suc n) h j lo hi =
      ⊎_elim
      (λ (e : i ≡ j). rw e at (and_left (f i) (all f (from (suc i) n)) h))
      (λ (l : i < j). all_from (suc i) n (and_right (f i) (all f (from (suc i) n)) h) j l (omega arith))
      (eq-or-lt_of_le lo)

  pub from_all : (i n : ℕ) → ((j : ℕ) → i ≤ j → j < i + n → f j ≡ true) → all f (from i n) ≡ true
  unfolding all from
  from_all i zero h = refl
  from_all i (suc n) h =
      and_true (f i) (all f (from (suc i) n)) (h i (omega arith) (omega arith))
      (from_all (suc i) n (λ j lo hi. h j (omega arith) (omega arith)))

  -- each number below n passes
  pub all_at : (n : ℕ) → all f (up_to n) ≡ true → (j : ℕ) → j < n → f j ≡ true
  unfolding up_to
  all_at n h j l = all_from 0 n h j (omega arith) (omega arith)

  pub at_all : (n : ℕ) → ((j : ℕ) → j < n → f j ≡ true) → all f (up_to n) ≡ true
  unfolding up_to
  at_all n h = from_all 0 n (λ j lo hi. h j (omega arith))

module _ (f : ℕ → Bool) (n : ℕ) where
  -- no number below n passes
  pub none_at : any f (up_to n) ≡ false → (j : ℕ) → j < n → f j ≡ false
  none_at h j l =
      let none : not (any f (up_to n)) ≡ true = rw h in
      not-true (f j) (all_at (λ x. not (f x)) n (sym (not_any f (up_to n)) ∙ none) j l)

  pub at_none : ((j : ℕ) → j < n → f j ≡ false) → any f (up_to n) ≡ false
  at_none h =
      not-true (any f (up_to n)) (not_any f (up_to n) ∙ at_all (λ x. not (f x)) n (λ j l. rw (h j l)))

pub all_three : (f : ℕ → Bool) → all f (up_to 3) ≡ (f 0 && (f 1 && f 2))
unfolding all up_to from
all_three f = rw and_end
