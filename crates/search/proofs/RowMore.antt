-- Laws of a plan with one row more: it stands where the row holds, and what the row reaches and gives. Assumes nothing.
use Prim.Native.Nat.{ℕ, zero, suc, ◌+◌, ◌*◌, ◌<◌}
use native.Mathlib.Omega.{arith}
use mathlib.Core.Path.{◌≡◌, refl, sym, ap, ◌∙◌}
use mathlib.Core.Bool.{Bool, true, false, ◌&&◌, ◌||◌, cond}
use mathlib.Core.List.{List, [], ◌∷◌, ◌++◌}
use lib.ListN.{length, length-append}
use lib.Seq.{get_or-append-add}
use lib.Dec.{eqb, ltb}
use borrow.Author.Tests.{ltb-true, ltb-false, lt-ltb, eqb-true}
use Rattle.book.specs.Lists.{any, from}
use Rattle.book.specs.Head.{column_count, function_count, label, operation}
use Rattle.book.proofs.Lists.{and_where, any_one, or_end}
use Rattle.lineage.specs.Rows.{Kind, Column, Apply, Choose, Output, Condition, Unknown}
use Rattle.lineage.specs.Rows.{row_count, kind_of, kind_at, row_a, row_b, row_c, is_value, names, sound_as, row_holds}
use Rattle.lineage.specs.Paths.{OneRow, applied_as, Path, through, paths, labels, takes, counting, first_operation}
use Rattle.lineage.specs.Paths.{operation_of, carries}
use Rattle.lineage.specs.Accesses.{reaches, gives, is_access}
use Rattle.lineage.proofs.Paths.{kind_prefix, a_prefix, b_prefix, c_prefix, paths_prefix, access_append}
use Rattle.lineage.proofs.Paths.{paths_column, paths_apply}
use Rattle.lineage.proofs.Accepted.{gives_lower, labelled_by}
use Rattle.search.specs.Shown.{last_row}

-- The bytes of the row

abbrev pub row : ℕ → ℕ → ℕ → ℕ → List ℕ
row kind a b c = kind ∷ a ∷ b ∷ c ∷ []

module _ (p : List ℕ) (n kind a b c : ℕ) (whole : length p ≡ 4 * n) where
  row_kind : kind_at (p ++ row kind a b c) n ≡ kind_of kind
  unfolding kind_at
  row_kind =
      let e : 4 * n ≡ length p + 0 = omega arith in
      rw e (ap kind_of (get_or-append-add p (row kind a b c) 0 0))

  row_a_law : row_a (p ++ row kind a b c) n ≡ a
  row_a_law =
      let e : 4 * n + 1 ≡ length p + 1 = omega arith in
      rw e (get_or-append-add p (row kind a b c) 1 0)

  row_b_law : row_b (p ++ row kind a b c) n ≡ b
  row_b_law =
      let e : 4 * n + 2 ≡ length p + 2 = omega arith in
      rw e (get_or-append-add p (row kind a b c) 2 0)

  row_c_law : row_c (p ++ row kind a b c) n ≡ c
  row_c_law =
      let e : 4 * n + 3 ≡ length p + 3 = omega arith in
      rw e (get_or-append-add p (row kind a b c) 3 0)

-- The rows before it

module _ (head p t : List ℕ) (i : ℕ) (l : i < row_count p) where
  names_prefix : (r : ℕ) → names (p ++ t) i r ≡ names p i r
  unfolding names
  names_prefix r =
      and_where (ltb r i) (is_value (kind_at (p ++ t) r)) (is_value (kind_at p r))
      (λ e. let m : r < i = ltb-true r i e in ap is_value (kind_prefix p t r (omega arith)))

  sound_prefix : (kind : Kind) (a b c : ℕ) → sound_as kind head (p ++ t) i a b c ≡ sound_as kind head p i a b c
  unfolding sound_as
  sound_prefix Column a b c = refl
  sound_prefix Apply a b c = rw (names_prefix b, names_prefix c)
  sound_prefix Choose a b c = rw (names_prefix a, names_prefix b, names_prefix c)
  sound_prefix Output a b c = rw (names_prefix a)
  sound_prefix Condition a b c = rw (names_prefix a)
  sound_prefix Unknown a b c = refl

  holds_prefix : row_holds head (p ++ t) i ≡ row_holds head p i
  unfolding row_holds
  holds_prefix =
      rw (kind_prefix p t i l, a_prefix p t i l, b_prefix p t i l, c_prefix p t i l)
      (sound_prefix (kind_at p i) (row_a p i) (row_b p i) (row_c p i))

-- A plan that stands: n rows, each of which holds, and every Apply of which has one row

pub record Standing (head p : List ℕ) (n : ℕ) : Type 0 where
  pub whole : length p ≡ 4 * n
  pub rows : (i : ℕ) → i < n → row_holds head p i ≡ true
  pub single : (i : ℕ) → i < n → kind_at p i ≡ Apply → row_c p i ≡ 255

pub standing_none : (head : List ℕ) → Standing head [] 0
standing_none head =
    record { whole = refl; rows = λ i l. absurd (omega arith); single = λ i l e. absurd (omega arith) }

module _ (head p : List ℕ) (n kind a b c : ℕ) (stands : Standing head p n) where
  pub standing_more :
      sound_as (kind_of kind) head (p ++ row kind a b c) n a b c ≡ true
      → (kind_of kind ≡ Apply → c ≡ 255)
      → Standing head (p ++ row kind a b c) (suc n)
  unfolding row_holds
  standing_more h one =
      let w = stands.whole in
      record {
        whole = omega (arith, length-append p (row kind a b c));
        rows = λ i l. go i l (ltb i n) refl;
        single = λ i l. only i l (ltb i n) refl;
      }
    where
      only :
          (i : ℕ)
          → i < suc n
          → (t : Bool)
          → ltb i n ≡ t
          → kind_at (p ++ row kind a b c) i ≡ Apply
          → row_c (p ++ row kind a b c) i ≡ 255
      only i l true e apply =
          let m = ltb-true i n e in
          let w = stands.whole in
          let t = row kind a b c in
          c_prefix p t i (omega arith) ∙ stands.single i m (sym (kind_prefix p t i (omega arith)) ∙ apply)
      only i l false e apply =
          let m = ltb-false i n e in
          let w = stands.whole in
          let q : i ≡ n = omega arith in
          rw (q, row_c_law p n kind a b c w)
          (one (sym (row_kind p n kind a b c w) ∙ rw q at apply))

      go : (i : ℕ) → i < suc n → (t : Bool) → ltb i n ≡ t → row_holds head (p ++ row kind a b c) i ≡ true
      go i l true e =
          let m = ltb-true i n e in
          let w = stands.whole in
          holds_prefix head p (row kind a b c) i (omega arith) ∙ stands.rows i m
      go i l false e =
          let m = ltb-false i n e in
          let w = stands.whole in
          let q : i ≡ n = omega arith in
          rw (q, row_kind p n kind a b c w, row_a_law p n kind a b c w, row_b_law p n kind a b c w, row_c_law p n kind a b c w) h

  -- what it gives, besides what was given before
  pub row_gives :
      (s d k : ℕ)
      → is_access head (p ++ row kind a b c) s d k
      ≡ (is_access head p s d k || (gives (kind_of kind) s && reaches head (p ++ row kind a b c) a d k))
  unfolding from
  row_gives s d k =
      let w = stands.whole in
      let m : row_count p ≡ n = omega arith in
      access_append p (row kind a b c) head s d k (omega arith)
      (λ i s l g.
      let low : row_a p i < i = gives_lower head p i (stands.rows i (omega arith)) s g in
      omega arith)
      ∙ rw (m, any_one, row_kind p n kind a b c w, row_a_law p n kind a b c w)

-- A plan whose last row is a value with one path; it gives what another plan gives

pub record Reaching (head before p : List ℕ) (n : ℕ) (only : Path) : Type 0 where
  pub stands : Standing head p (suc n)
  pub value : is_value (kind_at p n) ≡ true
  pub path : paths p n ≡ only ∷ []
  pub given : (s d k : ℕ) → is_access head p s d k ≡ is_access head before s d k

names_last :
    (p t : List ℕ) (n : ℕ) → length p ≡ 4 * suc n → is_value (kind_at p n) ≡ true → names (p ++ t) (suc n) n ≡ true
unfolding names
names_last p t n w v = rw (lt-ltb n (suc n) (omega arith), kind_prefix p t n (omega arith)) v

-- a column with the label
any_label :
    (head : List ℕ) (d₀ column : ℕ) → any (eqb d₀) (labels head column) ≡ true → (d : ℕ)
    → any (eqb d) (labels head column) ≡ eqb d d₀
unfolding labels
any_label head d₀ column h d =
    let l = labelled_by head d₀ column h in
    rw (l.1, l.0) (any_one (eqb d) (label head column))

-- the path of a column, and that of an Apply with one row over it: what they carry
abbrev pub raw_path : (column : ℕ) → Path
raw_path column = record { column = column; applies = [] }

abbrev pub operated_path : (column function : ℕ) → Path
operated_path column f = record { column = column; applies = OneRow f ∷ [] }

module _ (head : List ℕ) (d₀ column : ℕ) (h : any (eqb d₀) (labels head column) ≡ true) where
  pub carries_raw : (d k : ℕ) → carries head d k (raw_path column) ≡ (eqb d d₀ && eqb k 0)
  unfolding carries operation_of counting first_operation
  carries_raw d k = rw (any_label head d₀ column h d)

  pub carries_operated :
      (function k₀ : ℕ)
      → operation head function ≡ k₀
      → takes head d₀ k₀ ≡ true
      → (d k : ℕ)
      → carries head d k (operated_path column function) ≡ (eqb d d₀ && eqb k k₀)
  unfolding carries operation_of counting first_operation
  carries_operated function k₀ o t d k =
      rw (any_label head d₀ column h d, o)
      (and_where (eqb d d₀) (eqb k (cond (takes head d k₀) k₀ 0)) (eqb k k₀)
      (λ e. let same : d ≡ d₀ = eqb-true d d₀ e in rw (same, t)))

module _ (head p : List ℕ) (n column : ℕ) (stands : Standing head p n) where
  pub after_column : column < column_count head → Reaching head p (p ++ row 1 column 0 0) n (raw_path column)
  unfolding kind_of is_value sound_as gives
  after_column l =
      let w = stands.whole in
      let kind = row_kind p n 1 column 0 0 w in
      record {
        stands =
            standing_more head p n 1 column 0 0 stands (rw (lt-ltb column (column_count head) l))
            (λ e. absurd (other e));
        value = rw kind;
        path = paths_column (p ++ row 1 column 0 0) n kind ∙ rw (row_a_law p n 1 column 0 0 w);
        given = λ s d k. row_gives head p n 1 column 0 0 stands s d k ∙ or_end (is_access head p s d k);
      }
    where
      other : kind_of 1 ≡ Apply → ⊥
      other e = let z : ◌≡◌ {A = ℕ} 0 1 = cc in omega arith

-- c is 255: an Apply with one row
module _ (head before p : List ℕ) (n column function : ℕ) (old : Reaching head before p n (raw_path column)) where
  pub after_apply :
      n < 255
      → function < function_count head
      → Reaching head before (p ++ row 2 function n 255) (suc n) (operated_path column function)
  unfolding kind_of is_value sound_as gives applied_as through
  after_apply few l =
      let w = old.stands.whole in
      let t = row 2 function n 255 in
      let kind = row_kind p (suc n) 2 function n 255 w in
      let at_a = row_a_law p (suc n) 2 function n 255 w in
      let at_b = row_b_law p (suc n) 2 function n 255 w in
      let at_c = row_c_law p (suc n) 2 function n 255 w in
      record {
        stands =
            standing_more head p (suc n) 2 function n 255 old.stands
            (rw (lt-ltb function (function_count head) l, names_last p t n w old.value)) (λ e. refl);
        value = rw kind;
        path =
            paths_apply (p ++ t) (suc n) kind (rw at_b (omega arith)) (rw at_c (omega arith))
            ∙ rw (at_a, at_b, at_c, paths_prefix p t n (omega arith), old.path);
        given = λ s d k.
            row_gives head p (suc n) 2 function n 255 old.stands s d k
            ∙ or_end (is_access head p s d k)
            ∙ old.given s d k;
      }

-- an Output or a Condition row gives what reaches the row that it names
gives_last : (s₀ s : ℕ) → s₀ < 2 → gives (kind_of (cond (eqb s₀ 0) 4 5)) s ≡ eqb s s₀
unfolding gives kind_of
gives_last zero s l = refl
gives_last (suc zero) s l = refl
gives_last (suc (suc s₀)) s l = absurd (omega arith)

last_sound :
    (head p : List ℕ) (s₀ i r : ℕ) → names p i r ≡ true → sound_as (kind_of (cond (eqb s₀ 0) 4 5)) head p i r 0 0 ≡ true
unfolding sound_as kind_of
last_sound head p s₀ i r h = go (eqb s₀ 0)
  where
    go : (b : Bool) → sound_as (kind_of (cond b 4 5)) head p i r 0 0 ≡ true
    go true = rw h
    go false = rw h

last_other : (s₀ : ℕ) → kind_of (cond (eqb s₀ 0) 4 5) ≡ Apply → ⊥
unfolding kind_of
last_other s₀ = go (eqb s₀ 0)
  where
    go : (b : Bool) → kind_of (cond b 4 5) ≡ Apply → ⊥
    go true e = let z : ◌≡◌ {A = ℕ} 0 1 = cc in omega arith
    go false e = let z : ◌≡◌ {A = ℕ} 0 1 = cc in omega arith

module _ (head before p : List ℕ) (n d₀ k₀ s₀ : ℕ) {only : Path} (old : Reaching head before p n only)
    (carried : (d k : ℕ) → carries head d k only ≡ (eqb d d₀ && eqb k k₀)) where
  reached : (t : List ℕ) (d k : ℕ) → reaches head (p ++ t) n d k ≡ (eqb d d₀ && eqb k k₀)
  unfolding reaches
  reached t d k =
      let w = old.stands.whole in
      rw (paths_prefix p t n (omega arith), old.path) (any_one (carries head d k) only ∙ carried d k)

  pub after_last :
      s₀ < 2
      → Standing head (p ++ last_row n s₀) (suc (suc n))
      × ((s d k : ℕ)
      → is_access head (p ++ last_row n s₀) s d k
      ≡ (is_access head before s d k || (eqb s s₀ && (eqb d d₀ && eqb k k₀))))
  unfolding last_row
  after_last l =
      let w = old.stands.whole in
      let kind : ℕ = cond (eqb s₀ 0) 4 5 in
      let t = row kind n 0 0 in (
        standing_more head p (suc n) kind n 0 0 old.stands
            (last_sound head (p ++ t) s₀ (suc n) n (names_last p t n w old.value)) (λ e. absurd (last_other s₀ e)),
        λ s d k.
            row_gives head p (suc n) kind n 0 0 old.stands s d k
            ∙ rw (old.given s d k, gives_last s₀ s l, reached t d k),
      )
