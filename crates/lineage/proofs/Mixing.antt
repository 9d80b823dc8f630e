-- Theorems about the definitions of document 02, N5: which functions of a path count, what an Apply over one with two
-- rows carries, that plans whose Apply rows have one row each have document 01's accesses, and what became of the
-- accesses of every other plan. Assumes nothing.
use Prim.Native.Nat.{ℕ, zero, suc, ◌≤◌, ◌<◌}
use native.Mathlib.Omega.{arith}
use mathlib.Core.Path.{◌≡◌, refl, sym, ap, ◌∙◌}
use mathlib.Core.Logic.{◌⊎◌, inl, inr}
use mathlib.Core.Bool.{Bool, true, false, ◌&&◌, ◌||◌, not, cond, false≢true}
use mathlib.Core.List.{List, [], ◌∷◌, ◌++◌, map, append_assoc, append-nil}
use lib.Dec.{eqb, ltb}
use borrow.Author.Tests.{eq-eqb, eqb-true, ltb-true, lt-ltb, ne_eqb}
use Rattle.book.specs.Lists.{all, any, up_to}
use Rattle.book.specs.Head.{operation}
use Rattle.book.proofs.Lists.{and_both, and_true, append_all, all_guarded, any_both, any_map, any_same, any_wider}
use Rattle.book.proofs.Lists.{map_all, or_left, or_rest, or_right, or_true}
use Rattle.lineage.specs.Rows.{Kind, Column, Apply, Choose, Output, Condition, Unknown}
use Rattle.lineage.specs.Rows.{row_count, kind_at, row_a, row_b, row_c}
use Rattle.lineage.specs.Paths.{Applied, OneRow, TwoRows, applied_as, Path, through, paths_by, paths, labels, takes}
use Rattle.lineage.specs.Paths.{counting, first_operation, operation_of, carries}
use Rattle.lineage.specs.Accesses.{reaches, gives, is_access}
use Rattle.lineage.specs.Inner.Table.{mixes}
use Rattle.lineage.proofs.Counting.{mixes_one, mixing_ends}
use Rattle.lineage.proofs.Paths.{any_lower, paths_apply, paths_step}

-- Which functions count

-- on a path of Apply rows with one row each, all of them
pub all_count : (fs : List ℕ) → counting (map OneRow fs) ≡ fs
unfolding counting
all_count [] = refl
all_count (f ∷ fs) = ap (λ (l : List ℕ). f ∷ l) (all_count fs)

-- on any other path, those below its first Apply with two rows, and no more
pub those_below_count :
    (fs : List ℕ) (f : ℕ) (above : List Applied) → counting (map OneRow fs ++ (TwoRows f ∷ above)) ≡ fs
those_below_count fs f above = mixing_ends (map OneRow fs) f above ∙ all_count fs

-- row b twice is two rows
pub same_row_twice :
    (plan : List ℕ) (i : ℕ) →
    kind_at plan i ≡ Apply →
    row_c plan i ≡ row_b plan i →
    row_b plan i < i →
    i ≤ 255 →
    paths plan i ≡
    map (through (TwoRows (row_a plan i))) (paths plan (row_b plan i) ++ paths plan (row_b plan i))
unfolding paths_by applied_as
same_row_twice plan i e twice low few =
    let n : row_b plan i ≡ 255 → ⊥ = λ z. omega arith in
    rw (paths_step plan i, e, twice, lt-ltb (row_b plan i) i low, ne_eqb (row_b plan i) 255 n)

-- "an average over concatenated columns protects neither": an Apply with one row over an Apply with two rows, whatever
-- their functions, carries what those two rows carry
module _ (head plan : List ℕ) (i : ℕ) (upper : kind_at plan i ≡ Apply) (one : row_c plan i ≡ 255) (few : i ≤ 255)
    (low : row_b plan i < i) (lower : kind_at plan (row_b plan i) ≡ Apply)
    (two : row_c plan (row_b plan i) ≡ 255 → ⊥) where
  abbrev mix : ℕ
  mix = row_b plan i

  above_mix :
      (d k : ℕ) (p : Path) →
      carries head d k (through (applied_as (row_a plan i) 255) (through (TwoRows (row_a plan mix)) p)) ≡
      carries head d k p
  unfolding carries operation_of through applied_as
  above_mix d k p =
      let f = row_a plan i in
      let g = row_a plan mix in
      let assoc = append_assoc p.applies (TwoRows g ∷ []) (OneRow f ∷ []) in
      let same = ap counting assoc ∙ mixing_ends p.applies g (OneRow f ∷ []) in
      ap (λ (fs : List ℕ). any (eqb d) (labels head p.column) && eqb k (first_operation head d fs)) same

  pub protects_neither :
      (d k : ℕ) →
      reaches head plan i d k ≡
      ((ltb (row_b plan mix) mix && reaches head plan (row_b plan mix) d k)
      || (ltb (row_c plan mix) mix && reaches head plan (row_c plan mix) d k))
  unfolding reaches paths_by applied_as
  protects_neither d k =
      let f = carries head d k in
      let b = row_b plan mix in
      let c = row_c plan mix in
      let l = cond (ltb b mix) (paths plan b) [] ++ cond (ltb c mix) (paths plan c) [] in
      let outer = applied_as (row_a plan i) 255 in
      let inner = TwoRows (row_a plan mix) in
      ap (any f) (paths_apply plan i upper low (rw one few) ∙ rw (one, append-nil))
      ∙ any_map f (through outer) (paths plan mix)
      ∙ rw (paths_step plan mix, lower, ne_eqb c 255 two)
      (any_map (λ p. f (through outer p)) (through inner) l
      ∙ any_same (λ p. f (through outer (through inner p))) f (above_mix d k) l
      ∙ any_lower plan mix f b c)

-- Document 01's lineage, without N5: every function on a path counts

unfoldable pub functions : List Applied → List ℕ
functions [] = []
functions (OneRow f ∷ above) = f ∷ functions above
functions (TwoRows f ∷ above) = f ∷ functions above

unfoldable pub carried_before : (head : List ℕ) (label operation : ℕ) → Path → Bool
carried_before head d k p =
    any (eqb d) (labels head p.column) && eqb k (first_operation head d (functions p.applies))

unfoldable pub reached_before : (head plan : List ℕ) (row label operation : ℕ) → Bool
reached_before head plan i d k = any (carried_before head d k) (paths plan i)

unfoldable pub access_before : (head plan : List ℕ) (channel label operation : ℕ) → Bool
access_before head plan s d k =
    any (λ i. gives (kind_at plan i) s && reached_before head plan (row_a plan i) d k) (up_to (row_count plan))

-- "An Apply with one row, and Choose, are as before."

any_among :
    {A : Type 0} (f g h : A → Bool) (l : List A) →
    ((x : A) → h x ≡ true → f x ≡ g x) →
    all h l ≡ true →
    any f l ≡ any g l
unfolding any all
any_among f g h [] e p = refl
any_among f g h (x ∷ l) e p =
    let b = and_both (h x) (all h l) p in
    rw (e x b.0, any_among f g h l e b.1)

-- no Apply on the path has two rows
unfoldable unmixed : Path → Bool
unmixed p = not (mixes p.applies)

all_functions : (rows : List Applied) → not (mixes rows) ≡ true → counting rows ≡ functions rows
unfolding counting functions mixes
all_functions [] h = refl
all_functions (OneRow f ∷ above) h = ap (λ (l : List ℕ). f ∷ l) (all_functions above h)
all_functions (TwoRows f ∷ above) h = absurd (false≢true h)

module _ (plan : List ℕ) (each : (i : ℕ) → kind_at plan i ≡ Apply → row_c plan i ≡ 255) where
  paths_unmixed : (n i : ℕ) → i < n → all unmixed (paths plan i) ≡ true
  unfolding paths_by all through applied_as mixes unmixed
  paths_unmixed zero i m = absurd (omega arith)
  paths_unmixed (suc n) i m =
      rw (paths_step plan i)
      (go (kind_at plan i) refl (lower (row_b plan i) (paths_unmixed n (row_b plan i)))
      (lower (row_c plan i) (paths_unmixed n (row_c plan i))))
    where
      low : ℕ → List Path
      low r = cond (ltb r i) (paths plan r) []

      lower : (r : ℕ) → (r < n → all unmixed (paths plan r) ≡ true) → all unmixed (low r) ≡ true
      lower r h =
          all_guarded unmixed (ltb r i) (paths plan r) (λ t. let b : r < i = ltb-true r i t in h (omega arith))

      go :
          (kind : Kind) →
          kind_at plan i ≡ kind →
          all unmixed (low (row_b plan i)) ≡ true →
          all unmixed (low (row_c plan i)) ≡ true →
          all unmixed (paths_by kind low (row_a plan i) (row_b plan i) (row_c plan i)) ≡ true
      go Column e b c = refl
      go Apply e b c =
          map_all unmixed (through (applied_as (row_a plan i) (row_c plan i))) unmixed
          (λ p h. rw (each i e, mixes_one p.applies (row_a plan i)) h)
          (low (row_b plan i) ++ low (row_c plan i))
          (append_all unmixed (low (row_b plan i)) (low (row_c plan i)) b c)
      go Choose e b c = append_all unmixed (low (row_b plan i)) (low (row_c plan i)) b c
      go Output e b c = refl
      go Condition e b c = refl
      go Unknown e b c = refl

  pub as_before : (head : List ℕ) (s d k : ℕ) → is_access head plan s d k ≡ access_before head plan s d k
  unfolding is_access access_before reaches reached_before carries carried_before operation_of unmixed
  as_before head s d k =
      any_same (λ i. gives (kind_at plan i) s && reaches head plan (row_a plan i) d k)
      (λ i. gives (kind_at plan i) s && reached_before head plan (row_a plan i) d k)
      (λ i.
      ap (λ (b : Bool). gives (kind_at plan i) s && b)
      (any_among (carries head d k) (carried_before head d k) unmixed (paths plan (row_a plan i))
      (λ p h. rw (all_functions p.applies h)) (paths_unmixed (suc (row_a plan i)) (row_a plan i) (omega arith))))
      (up_to (row_count plan))

-- Every other plan: an access keeps its operation or loses it, none gets one, and there are no others

module _ (head : List ℕ) (d : ℕ) where
  same_or_none :
      (rows : List Applied) →
      (first_operation head d (counting rows) ≡ first_operation head d (functions rows))
      ⊎ (first_operation head d (counting rows) ≡ 0)
  unfolding counting functions first_operation
  same_or_none [] = inl refl
  same_or_none (OneRow f ∷ above) = go (takes head d (operation head f)) (same_or_none above)
    where
      now : ℕ
      now = first_operation head d (counting above)

      before : ℕ
      before = first_operation head d (functions above)

      go :
          (b : Bool) →
          (now ≡ before) ⊎ (now ≡ 0) →
          (cond b (operation head f) now ≡ cond b (operation head f) before) ⊎ (cond b (operation head f) now ≡ 0)
      go true h = inl refl
      go false h = h
  same_or_none (TwoRows f ∷ above) = inr refl

  module _ (k : ℕ) (p : Path) where
    abbrev held : Bool
    held = any (eqb d) (labels head p.column)

    kept_or_none : carried_before head d k p ≡ true → (carries head d k p || carries head d 0 p) ≡ true
    unfolding carried_before carries operation_of
    kept_or_none h =
        let b = and_both held (eqb k (first_operation head d (functions p.applies))) h in
        go b.0 (eqb-true k (first_operation head d (functions p.applies)) b.1) (same_or_none p.applies)
      where
        now : ℕ
        now = first_operation head d (counting p.applies)

        go :
            held ≡ true →
            k ≡ first_operation head d (functions p.applies) →
            (now ≡ first_operation head d (functions p.applies)) ⊎ (now ≡ 0) →
            ((held && eqb k now) || (held && eqb 0 now)) ≡ true
        go t e (inl same) = rw (t, eq-eqb k now (e ∙ sym same))
        go t e (inr none) = rw (t, none) (or_true (eqb k 0))

    none_new : (k ≡ 0 → ⊥) → carries head d k p ≡ true → carried_before head d k p ≡ true
    unfolding carried_before carries operation_of
    none_new some h =
        let b = and_both held (eqb k (first_operation head d (counting p.applies))) h in
        go b.0 (eqb-true k (first_operation head d (counting p.applies)) b.1) (same_or_none p.applies)
      where
        now : ℕ
        now = first_operation head d (counting p.applies)

        before : ℕ
        before = first_operation head d (functions p.applies)

        go :
            held ≡ true →
            k ≡ now →
            (now ≡ before) ⊎ (now ≡ 0) →
            (held && eqb k before) ≡ true
        go t e (inl same) = rw (t, eq-eqb k before (e ∙ same))
        go t e (inr none) = absurd (some (e ∙ none))

    had_some : carries head d k p ≡ true → (o : ℕ) × (carried_before head d o p ≡ true)
    unfolding carried_before carries
    had_some h =
        let o = first_operation head d (functions p.applies) in
        let b = and_both held (eqb k (operation_of head d p)) h in
        (o, and_true held (eqb o o) b.0 (eq-eqb o o refl))

any_some :
    {A : Type 0} (f : A → Bool) (g : ℕ → A → Bool) (l : List A) →
    ((x : A) → f x ≡ true → (o : ℕ) × (g o x ≡ true)) →
    any f l ≡ true →
    (o : ℕ) × (any (g o) l ≡ true)
unfolding any
any_some f g [] h p = absurd (false≢true p)
any_some f g (x ∷ l) h p = go (f x) refl (any_some f g l h)
  where
    go :
        (b : Bool) →
        f x ≡ b →
        (any f l ≡ true → (o : ℕ) × (any (g o) l ≡ true)) →
        (o : ℕ) × ((g o x || any (g o) l) ≡ true)
    go true e more =
        let w = h x e in
        (w.0, or_left (g w.0 x) (any (g w.0) l) w.1)
    go false e more =
        let w = more (or_rest (f x) (any f l) p e) in
        (w.0, or_right (g w.0 x) (any (g w.0) l) w.1)

module _ (head plan : List ℕ) (s d k : ℕ) where
  -- an access of document 01's is one still, or the label's raw access is
  pub kept_or_raw :
      access_before head plan s d k ≡ true → (is_access head plan s d k || is_access head plan s d 0) ≡ true
  unfolding access_before is_access reached_before reaches
  kept_or_raw h =
      let l = up_to (row_count plan) in
      let now : ℕ → ℕ → Bool = λ o i. gives (kind_at plan i) s && any (carries head d o) (paths plan (row_a plan i)) in
      sym (any_both (now k) (now 0) l)
      ∙ any_wider (λ i. gives (kind_at plan i) s && any (carried_before head d k) (paths plan (row_a plan i)))
      (λ i. now k i || now 0 i) l
      (λ i t.
      let b = and_both (gives (kind_at plan i) s) (any (carried_before head d k) (paths plan (row_a plan i))) t in
      rw b.0
      (sym (any_both (carries head d k) (carries head d 0) (paths plan (row_a plan i)))
      ∙ any_wider (carried_before head d k) (λ p. carries head d k p || carries head d 0 p) (paths plan (row_a plan i))
      (kept_or_none head d k) b.1))
      h

  -- an access with an operation was one of document 01's
  pub no_new_operation : (k ≡ 0 → ⊥) → is_access head plan s d k ≡ true → access_before head plan s d k ≡ true
  unfolding access_before is_access reached_before reaches
  no_new_operation some h =
      any_wider (λ i. gives (kind_at plan i) s && any (carries head d k) (paths plan (row_a plan i)))
      (λ i. gives (kind_at plan i) s && any (carried_before head d k) (paths plan (row_a plan i))) (up_to (row_count plan))
      (λ i t.
      let b = and_both (gives (kind_at plan i) s) (any (carries head d k) (paths plan (row_a plan i))) t in
      rw b.0
      (any_wider (carries head d k) (carried_before head d k) (paths plan (row_a plan i))
      (λ p. none_new head d k p some) b.1))
      h

  -- an access was one of document 01's, with the same operation or another
  pub none_added : is_access head plan s d k ≡ true → (o : ℕ) × (access_before head plan s d o ≡ true)
  unfolding access_before is_access reached_before reaches
  none_added h =
      any_some (λ i. gives (kind_at plan i) s && any (carries head d k) (paths plan (row_a plan i)))
      (λ o i. gives (kind_at plan i) s && any (carried_before head d o) (paths plan (row_a plan i))) (up_to (row_count plan))
      (λ i t.
      let b = and_both (gives (kind_at plan i) s) (any (carries head d k) (paths plan (row_a plan i))) t in
      let w =
      any_some (carries head d k) (carried_before head d) (paths plan (row_a plan i)) (had_some head d k) b.1 in
      let before = any (carried_before head d w.0) (paths plan (row_a plan i)) in
      (w.0, and_true (gives (kind_at plan i) s) before b.0 w.1))
      h
