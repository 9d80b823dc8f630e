-- Laws of paths and of what reaches a row: by the row's kind, and for a plan with rows added. Assumes nothing.
use Prim.Native.Nat.{ℕ, zero, suc, ◌+◌, ◌*◌, ◌%◌, ◌≤◌, ◌<◌}
use native.Mathlib.Omega.{arith}
use mathlib.Core.Path.{◌≡◌, refl, sym, ap, ◌∙◌}
use mathlib.Core.Bool.{Bool, true, false, ◌&&◌, ◌||◌, not, cond, false≢true}
use mathlib.Core.List.{List, [], ◌∷◌, ◌++◌, map}
use lib.ListN.{length, length-append, get_or-append, get_or-eq_default}
use lib.Dec.{eqb, ltb}
use borrow.Author.Tests.{ltb-true, lt-ltb, le-ltb, ne_eqb}
use Rattle.book.specs.Lists.{from, up_to, any}
use Rattle.book.specs.Head.{operation}
use Rattle.book.proofs.Lists.{and_false, and_or, and_where, any_append, any_one, any_nil, any_guarded, by_cases, or_end}
use Rattle.book.proofs.Lists.{any_map, any_same, any_both, any_with, any_where, from_append, any_from_same}
use Rattle.lineage.specs.Rows.{Kind, Column, Apply, Choose, Output, Condition, Unknown}
use Rattle.lineage.specs.Rows.{row_count, kind_of, kind_at, row_a, row_b, row_c, is_value}
use Rattle.lineage.specs.Paths.{Path, applied_as, through, paths_by, paths_in, paths, labels, takes, counting}
use Rattle.lineage.specs.Paths.{first_operation, operation_of, carries}
use Rattle.lineage.specs.Accesses.{reaches, gives, is_access}
use Rattle.lineage.specs.Inner.Table.{mixes, stands, word_for}
use Rattle.lineage.proofs.Counting.{moved_word, word_one, word_two, by_word, in_last}

-- The rows below: enough steps are as good as any

guarded_same : (b : Bool) (x y : List Path) → (b ≡ true → x ≡ y) → cond b x [] ≡ cond b y []
guarded_same true x y h = h refl
guarded_same false x y h = refl

paths_by_same :
    (kind : Kind) (f g : ℕ → List Path) (a b c : ℕ) →
    f b ≡ g b →
    f c ≡ g c →
    paths_by kind f a b c ≡ paths_by kind g a b c
unfolding paths_by
paths_by_same Column f g a b c p q = refl
paths_by_same Apply f g a b c p q = rw (p, q)
paths_by_same Choose f g a b c p q = rw (p, q)
paths_by_same Output f g a b c p q = refl
paths_by_same Condition f g a b c p q = refl
paths_by_same Unknown f g a b c p q = refl

paths_by_none :
    (kind : Kind) (f : ℕ → List Path) (a b c : ℕ) → is_value kind ≡ false → paths_by kind f a b c ≡ []
unfolding paths_by is_value
paths_by_none Column f a b c h = absurd (false≢true (sym h))
paths_by_none Apply f a b c h = absurd (false≢true (sym h))
paths_by_none Choose f a b c h = absurd (false≢true (sym h))
paths_by_none Output f a b c h = refl
paths_by_none Condition f a b c h = refl
paths_by_none Unknown f a b c h = refl

module _ (plan : List ℕ) where
  paths_in_nil : (i : ℕ) → paths_in 0 plan i ≡ []
  unfolding paths_in
  paths_in_nil i = refl

  paths_in_step :
      (steps i : ℕ) →
      paths_in (suc steps) plan i ≡
      paths_by (kind_at plan i) (λ r. cond (ltb r i) (paths_in steps plan r) []) (row_a plan i) (row_b plan i) (row_c plan i)
  unfolding paths_in
  paths_in_step steps i =
      paths_by_same (kind_at plan i)
      (λ r. elim (ltb r i) as (λ b. List Path) [ true ↦ paths_in steps plan r | false ↦ [] ])
      (λ r. cond (ltb r i) (paths_in steps plan r) [])
      (row_a plan i) (row_b plan i) (row_c plan i)
      (by_cases (ltb (row_b plan i) i) (paths_in steps plan (row_b plan i)) [])
      (by_cases (ltb (row_c plan i) i) (paths_in steps plan (row_c plan i)) [])

  paths_in_enough : (m n i : ℕ) → i < m → i < n → paths_in m plan i ≡ paths_in n plan i
  paths_in_enough zero n i p q = absurd (omega arith)
  paths_in_enough (suc m) zero i p q = absurd (omega arith)
  paths_in_enough (suc m) (suc n) i p q =
      paths_in_step m i
      ∙ paths_by_same (kind_at plan i)
      (λ r. cond (ltb r i) (paths_in m plan r) [])
      (λ r. cond (ltb r i) (paths_in n plan r) [])
      (row_a plan i) (row_b plan i) (row_c plan i)
      (lower (row_b plan i) (paths_in_enough m n (row_b plan i)))
      (lower (row_c plan i) (paths_in_enough m n (row_c plan i)))
      ∙ sym (paths_in_step n i)
    where
      lower :
          (r : ℕ) →
          (r < m → r < n → paths_in m plan r ≡ paths_in n plan r) →
          cond (ltb r i) (paths_in m plan r) [] ≡ cond (ltb r i) (paths_in n plan r) []
      lower r h =
          guarded_same (ltb r i) (paths_in m plan r) (paths_in n plan r)
          (λ t. let l : r < i = ltb-true r i t in h (omega arith) (omega arith))

  -- the paths of a row by its kind, from those of the rows below
  pub paths_step :
      (i : ℕ) →
      paths plan i ≡
      paths_by (kind_at plan i) (λ r. cond (ltb r i) (paths plan r) []) (row_a plan i) (row_b plan i) (row_c plan i)
  unfolding paths
  paths_step i =
      paths_in_step i i
      ∙ paths_by_same (kind_at plan i)
      (λ r. cond (ltb r i) (paths_in i plan r) [])
      (λ r. cond (ltb r i) (paths_in (suc r) plan r) [])
      (row_a plan i) (row_b plan i) (row_c plan i)
      (lower (row_b plan i))
      (lower (row_c plan i))
    where
      lower : (r : ℕ) → cond (ltb r i) (paths_in i plan r) [] ≡ cond (ltb r i) (paths_in (suc r) plan r) []
      lower r =
          guarded_same (ltb r i) (paths_in i plan r) (paths_in (suc r) plan r)
          (λ t. let l : r < i = ltb-true r i t in paths_in_enough i (suc r) r l (omega arith))

-- What the paths of a row carry, by its kind

module _ (plan : List ℕ) (i : ℕ) where
  pub paths_column : kind_at plan i ≡ Column → paths plan i ≡ record { column = row_a plan i; applies = [] } ∷ []
  unfolding paths_by
  paths_column e = rw (paths_step plan i, e)

  -- an Apply whose b is a lower row and whose c is none
  pub paths_apply :
      kind_at plan i ≡ Apply →
      row_b plan i < i →
      i ≤ row_c plan i →
      paths plan i ≡ map (through (applied_as (row_a plan i) (row_c plan i))) (paths plan (row_b plan i) ++ [])
  unfolding paths_by
  paths_apply e low high = rw (paths_step plan i, e, lt-ltb (row_b plan i) i low, le-ltb (row_c plan i) i high)

  -- Output, Condition and every other kind
  paths_none : is_value (kind_at plan i) ≡ false → paths plan i ≡ []
  paths_none h =
      paths_step plan i
      ∙ paths_by_none (kind_at plan i) (λ r. cond (ltb r i) (paths plan r) []) (row_a plan i) (row_b plan i) (row_c plan i) h

  -- past the end every kind is 0
  pub paths_past : length plan % 4 ≡ 0 → row_count plan ≤ i → paths plan i ≡ []
  unfolding kind_at kind_of is_value
  paths_past whole past =
      let l : length plan ≤ 4 * i = omega arith in
      paths_none (rw (get_or-eq_default plan 0 l))

  pub any_lower :
      (f : Path → Bool) (b c : ℕ) →
      any f (cond (ltb b i) (paths plan b) [] ++ cond (ltb c i) (paths plan c) []) ≡
      ((ltb b i && any f (paths plan b)) || (ltb c i && any f (paths plan c)))
  any_lower f b c =
      rw (
        any_append f (cond (ltb b i) (paths plan b) []) (cond (ltb c i) (paths plan c) []),
        any_guarded f (ltb b i) (paths plan b),
        any_guarded f (ltb c i) (paths plan c),
      )

module _ (head plan : List ℕ) (i d w : ℕ) where
  -- label d in word w of a row that b or c names
  abbrev lower : ℕ → Bool
  lower w =
      (ltb (row_b plan i) i && stands head plan (row_b plan i) d w)
      || (ltb (row_c plan i) i && stands head plan (row_c plan i) d w)

  -- label d in word w of a path
  abbrev stood : ℕ → Path → Bool
  stood w p = any (eqb d) (labels head p.column) && eqb w (word_for head d p)

  pub stands_column :
      kind_at plan i ≡ Column → stands head plan i d w ≡ (any (eqb d) (labels head (row_a plan i)) && eqb w 0)
  unfolding stands word_for mixes operation_of counting first_operation
  stands_column e =
      rw (paths_column plan i e) (any_one (stood w) (record { column = row_a plan i; applies = [] }))

  pub stands_choose : kind_at plan i ≡ Choose → stands head plan i d w ≡ lower w
  unfolding stands paths_by
  stands_choose e = rw (paths_step plan i, e) (any_lower plan i (stood w) (row_b plan i) (row_c plan i))

  -- an Apply row that moves labels from word 0 to word o where m holds
  stands_moved :
      (m : Bool) (o : ℕ) →
      ((p : Path) →
      word_for head d (through (applied_as (row_a plan i) (row_c plan i)) p) ≡
      cond (eqb (word_for head d p) 0) (cond m o 0) (word_for head d p)) →
      kind_at plan i ≡ Apply →
      stands head plan i d w ≡ ((lower w && not (eqb w 0 && m)) || (eqb w o && (m && lower 0)))
  unfolding stands paths_by through
  stands_moved m o word e =
      let b = row_b plan i in
      let c = row_c plan i in
      let row = applied_as (row_a plan i) c in
      let kept = not (eqb w 0 && m) in
      let l = cond (ltb b i) (paths plan b) [] ++ cond (ltb c i) (paths plan c) [] in
      rw (paths_step plan i, e)
      (any_map (stood w) (through row) l
      ∙ any_same (λ p. stood w (through row p)) (λ p. (stood w p && kept) || (eqb w o && (m && stood 0 p)))
      (λ p. moved_word head d w o m p (through row p) refl (word p)) l
      ∙ any_both (λ p. stood w p && kept) (λ p. eqb w o && (m && stood 0 p)) l
      ∙ rw (
        any_with (stood w) kept l,
        any_where (λ p. m && stood 0 p) (eqb w o) l,
        any_where (stood 0) m l,
        any_lower plan i (stood w) b c,
        any_lower plan i (stood 0) b c,
      ))

  -- an Apply with one row
  pub stands_one :
      kind_at plan i ≡ Apply →
      eqb (row_c plan i) 255 ≡ true →
      stands head plan i d w ≡
      ((lower w && not (eqb w 0 && takes head d (operation head (row_a plan i))))
      || (eqb w (operation head (row_a plan i)) && (takes head d (operation head (row_a plan i)) && lower 0)))
  unfolding applied_as
  stands_one e one =
      stands_moved (takes head d (operation head (row_a plan i))) (operation head (row_a plan i))
      (λ p. rw one (word_one head d (row_a plan i) p)) e

  -- an Apply with two rows
  pub stands_two :
      kind_at plan i ≡ Apply →
      eqb (row_c plan i) 255 ≡ false →
      stands head plan i d w ≡ ((lower w && not (eqb w 0 && true)) || (eqb w 16 && (true && lower 0)))
  unfolding applied_as
  stands_two e two = stands_moved true 16 (λ p. rw two (word_two head d (row_a plan i) p)) e

  pub stands_none : is_value (kind_at plan i) ≡ false → stands head plan i d w ≡ false
  unfolding stands
  stands_none h = rw (paths_none plan i h) (any_nil (stood w))

-- what reaches a row with operation k is in word k, or in word 16 where k is 0
module _ (head plan : List ℕ) (i d k : ℕ) where
  pub reaches_stands :
      k < 16 →
      reaches head plan i d 16 ≡ false →
      reaches head plan i d k ≡ (stands head plan i d k || (eqb k 0 && stands head plan i d 16))
  unfolding reaches stands carries word_for
  reaches_stands small none =
      let l = paths plan i in
      any_same (λ p. held p && eqb k (operation_of head d p)) (λ p. (held p && eqb k (word_for head d p)) || (eqb k 0 && mixed p))
      (λ p.
      split (held p) (eqb k (operation_of head d p)) (eqb k (word_for head d p)) (eqb k 0)
      (mixes p.applies && eqb (operation_of head d p) 0)
      (by_word (mixes p.applies) k (operation_of head d p) (ne_eqb k 16 (λ z. omega arith)))) l
      ∙ any_both (λ p. held p && eqb k (word_for head d p)) (λ p. eqb k 0 && mixed p) l
      ∙ rw (any_where mixed (eqb k 0) l, last)
    where
      held : Path → Bool
      held p = any (eqb d) (labels head p.column)

      mixed : Path → Bool
      mixed p = held p && (mixes p.applies && eqb (operation_of head d p) 0)

      split : (h x y z n : Bool) → x ≡ (y || (z && n)) → (h && x) ≡ ((h && y) || (z && (h && n)))
      split true x y z n e = e
      split false x y z n e = sym (and_false z)

      last : any mixed (paths plan i) ≡ any (λ p. held p && eqb 16 (word_for head d p)) (paths plan i)
      last =
          sym
          (any_same (λ p. held p && eqb 16 (word_for head d p)) (λ p. mixed p || (held p && eqb 16 (operation_of head d p)))
          (λ p. rw (in_last (mixes p.applies) (operation_of head d p))
          (and_or (held p) (mixes p.applies && eqb (operation_of head d p) 0) (eqb 16 (operation_of head d p)))) (paths plan i)
          ∙ any_both mixed (λ p. held p && eqb 16 (operation_of head d p)) (paths plan i)
          ∙ rw none (or_end (any mixed (paths plan i))))

-- A plan with rows added: what stands before them sees lower rows only

module _ (p t : List ℕ) (i : ℕ) (l : i < row_count p) where
  pub kind_prefix : kind_at (p ++ t) i ≡ kind_at p i
  unfolding kind_at
  kind_prefix = ap kind_of (get_or-append p t 0 (4 * i) (omega arith))

  pub a_prefix : row_a (p ++ t) i ≡ row_a p i
  a_prefix = get_or-append p t 0 (4 * i + 1) (omega arith)

  pub b_prefix : row_b (p ++ t) i ≡ row_b p i
  b_prefix = get_or-append p t 0 (4 * i + 2) (omega arith)

  pub c_prefix : row_c (p ++ t) i ≡ row_c p i
  c_prefix = get_or-append p t 0 (4 * i + 3) (omega arith)

module _ (p t : List ℕ) where
  paths_in_prefix : (steps i : ℕ) → i < row_count p → paths_in steps (p ++ t) i ≡ paths_in steps p i
  paths_in_prefix zero i l = paths_in_nil (p ++ t) i ∙ sym (paths_in_nil p i)
  paths_in_prefix (suc steps) i l =
      paths_in_step (p ++ t) steps i
      ∙ rw (kind_prefix p t i l, a_prefix p t i l, b_prefix p t i l, c_prefix p t i l)
      (paths_by_same (kind_at p i)
      (λ r. cond (ltb r i) (paths_in steps (p ++ t) r) [])
      (λ r. cond (ltb r i) (paths_in steps p r) [])
      (row_a p i) (row_b p i) (row_c p i)
      (lower (row_b p i) (paths_in_prefix steps (row_b p i)))
      (lower (row_c p i) (paths_in_prefix steps (row_c p i))))
      ∙ sym (paths_in_step p steps i)
    where
      lower :
          (r : ℕ) →
          (r < row_count p → paths_in steps (p ++ t) r ≡ paths_in steps p r) →
          cond (ltb r i) (paths_in steps (p ++ t) r) [] ≡ cond (ltb r i) (paths_in steps p r) []
      lower r h =
          guarded_same (ltb r i) (paths_in steps (p ++ t) r) (paths_in steps p r)
          (λ b. let m : r < i = ltb-true r i b in h (omega arith))

  pub paths_prefix : (i : ℕ) → i < row_count p → paths (p ++ t) i ≡ paths p i
  unfolding paths
  paths_prefix i l = paths_in_prefix (suc i) i l

  pub reaches_prefix :
      (head : List ℕ) (i d k : ℕ) → i < row_count p → reaches head (p ++ t) i d k ≡ reaches head p i d k
  unfolding reaches
  reaches_prefix head i d k l = rw (paths_prefix i l)

  given_prefix :
      (head : List ℕ) (i s d k : ℕ) →
      i < row_count p →
      (gives (kind_at p i) s ≡ true → row_a p i < row_count p) →
      (gives (kind_at (p ++ t) i) s && reaches head (p ++ t) (row_a (p ++ t) i) d k) ≡
      (gives (kind_at p i) s && reaches head p (row_a p i) d k)
  given_prefix head i s d k l lower =
      rw (kind_prefix p t i l, a_prefix p t i l)
      (and_where (gives (kind_at p i) s) (reaches head (p ++ t) (row_a p i) d k) (reaches head p (row_a p i) d k)
      (λ g. reaches_prefix head (row_a p i) d k (lower g)))

  -- the accesses are those of the rows before, where these give those of rows before, and what the added rows give
  pub access_append :
      (head : List ℕ) (s d k : ℕ) →
      length p % 4 ≡ 0 →
      ((i s : ℕ) → i < row_count p → gives (kind_at p i) s ≡ true → row_a p i < row_count p) →
      is_access head (p ++ t) s d k ≡
      (is_access head p s d k
      || any (λ i. gives (kind_at (p ++ t) i) s && reaches head (p ++ t) (row_a (p ++ t) i) d k)
      (from (row_count p) (row_count t)))
  unfolding is_access up_to
  access_append head s d k whole lower =
      let f : ℕ → Bool = λ i. gives (kind_at (p ++ t) i) s && reaches head (p ++ t) (row_a (p ++ t) i) d k in
      let g : ℕ → Bool = λ i. gives (kind_at p i) s && reaches head p (row_a p i) d k in
      let n = row_count p in
      let m = row_count t in
      let e : row_count (p ++ t) ≡ n + m = omega (arith, length-append p t) in
      let z : 0 + n ≡ n = omega arith in
      ap (λ (c : ℕ). any f (from 0 c)) e
      ∙ rw (from_append 0 n m, any_append f (from 0 n) (from (0 + n) m), z)
      (ap (λ (b : Bool). b || any f (from n m))
      (any_from_same f g 0 n (λ i lo hi. given_prefix head i s d k (omega arith) (lower i s (omega arith)))))
