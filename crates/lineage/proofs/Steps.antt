-- Laws of the pass up the rows: what the words of a row hold, by the row's kind. Assumes nothing.
use Prim.Native.Nat.{ℕ, zero, suc, ◌+◌, ◌-◌, ◌^◌, ◌≤◌, ◌<◌}
use native.Mathlib.Omega.{arith}
use mathlib.Core.Path.{◌≡◌, refl, sym, ◌∙◌}
use mathlib.Core.Bool.{Bool, true, false, ◌&&◌, ◌||◌, not, cond, false≢true}
use mathlib.Core.List.{List, [], ◌∷◌}
use lib.ListN.{length, get_or, set, take, length-set, replicate, length-replicate, get_or-replicate, get_or-eq_default}
use Rattle.std.specs.Prelude.{◌≢◌}
use Rattle.std.proofs.lemmas.List.{get_or-take}
use lib.Seq.{get_or-set_same, get_or-set_other}
use native.Mathlib.Nat.{lt_of_le_of_lt}
use lib.Bits.{bit_and, bit_or, and_le_l, or_zero_l}
use lib.Dec.{eqb, ltb}
use borrow.Author.Tests.{ltb-true, ltb-false, lt-ltb, le-ltb, eqb-true, eqb-false, eq-eqb, ne_eqb}
use Rattle.book.specs.Lists.{any}
use Rattle.book.specs.Sets.{has, WordOf}
use Rattle.book.specs.Head.{is_data_leaf, label, operation, supports}
use Rattle.book.proofs.Lists.{and_end, and_false, and_never, and_or, or_end, ltb_more}
use Rattle.book.proofs.Members.{has_zero, has_and, has_or, has_minus}
use Rattle.lineage.specs.Rows.{Column, Apply, Choose, Unknown, is_value, kind_at, row_a, row_b, row_c}
use Rattle.lineage.specs.Inner.Reading.{kind_using}
use Rattle.lineage.specs.declared.rows.Channel.{Channel}
use Rattle.lineage.specs.declared.rows.Channel.TheVariants as channel
use Rattle.lineage.specs.Paths.{labels, takes}
use Rattle.lineage.specs.Inner.Table.{Brought, ByOperation, Mixed, Moved, Operated, PlanSound, Reached}
use Rattle.lineage.specs.Inner.Table.{RowReached, stands, word}
use Rattle.book.specs.Inner.Reading.{Supporting}
use Rattle.lineage.proofs.Paths.{stands_column, stands_choose, stands_one, stands_two, stands_none}

-- Empty words

pub get_d_zeros : (n j : ℕ) → ◌≡◌ {A = ℕ} (get_or (replicate n 0) j 0) 0
get_d_zeros n j = go (ltb j n) refl
  where
    go : (b : Bool) → ltb j n ≡ b → ◌≡◌ {A = ℕ} (get_or (replicate n 0) j 0) 0
    go true t = get_or-replicate {A = ℕ} n j 0 0 (ltb-true j n t)
    go false t = get_or-eq_default {A = ℕ} (replicate n 0) 0 (rw length-replicate (ltb-false j n t))

-- Column

any_single : (d l : ℕ) → any (eqb d) (l ∷ []) ≡ eqb d l
unfolding any
any_single d l = or_end (eqb d l)

any_empty : (d : ℕ) → any (eqb d) [] ≡ false
unfolding any
any_empty d = refl

pub label_word :
    (head : List ℕ) (column l word : ℕ) →
    l ≡ label head column →
    WordOf (λ d. eqb d l) word →
    WordOf (λ d. any (eqb d) (labels head column)) word
unfolding labels
label_word head column l word e at d = at d ∙ rw (← e) (go (eqb l 255) refl)
  where
    go : (b : Bool) → eqb l 255 ≡ b → (ltb d 64 && eqb d l) ≡ (ltb d 64 && any (eqb d) (cond b [] (l ∷ [])))
    go true q =
        let z : l ≡ 255 = eqb-true l 255 q in
        rw (any_empty d, and_false (ltb d 64))
        (and_never (ltb d 64) (eqb d l)
        (λ t.
        let s : d < 64 = ltb-true d 64 t in
        ne_eqb d l (λ y. omega arith)))
    go false q = rw (any_single d l)

pub column_words :
    (f : ℕ → Bool) (word : ℕ) →
    WordOf f word →
    (k : ℕ) → k < 17 → WordOf (λ d. f d && eqb k 0) (get_or (set (replicate 17 0) 0 word) k 0)
column_words f word at zero small d =
    rw (get_or-set_same {A = ℕ} (replicate 17 0) 0 word 0 (omega arith), and_end (f d)) (at d)
column_words f word at (suc k) small d =
    rw (
      get_or-set_other {A = ℕ} (replicate 17 0) 0 (suc k) word 0 (λ z. omega arith),
      get_or-replicate {A = ℕ} 17 (suc k) 0 0 small,
      has_zero d,
      ne_eqb (suc k) 0 (λ z. omega arith),
      and_false (f d),
      and_false (ltb d 64),
    )

-- Apply: the words after members of word 0 have gone to another

-- nothing goes
untaken : (x e z m y : Bool) → m ≡ false → x ≡ ((x && not (z && m)) || (e && (m && y)))
untaken true e z m y q = rw (q, and_false z)
untaken false e z m y q = rw (q, and_false e)

pub operated_zero : (row supporting : List ℕ) (o : ℕ) → o ≡ 0 → Operated row o supporting row
operated_zero row supporting o e k d small =
    untaken (has (get_or row k 0) d) (eqb k o) (eqb k 0) (not (eqb o 0) && has (get_or supporting o 0) d)
    (has (get_or row 0 0) d) (rw (eq-eqb o 0 e))

pub operated_past : (row supporting : List ℕ) (o : ℕ) → length supporting ≤ o → Operated row o supporting row
operated_past row supporting o l k d small =
    untaken (has (get_or row k 0) d) (eqb k o) (eqb k 0) (not (eqb o 0) && has (get_or supporting o 0) d)
    (has (get_or row 0 0) d) (rw (get_or-eq_default supporting 0 l, has_zero d, and_false (not (eqb o 0))))

unmoved : (a : Bool) → a ≡ ((a && true) || false)
unmoved true = refl
unmoved false = refl

left_over : (a b : Bool) → (a && not (a && b)) ≡ ((a && not b) || false)
left_over true true = refl
left_over true false = refl
left_over false b = refl

taken_too : (a b c : Bool) → (a || (c && b)) ≡ ((a && true) || (b && c))
taken_too true b c = refl
taken_too false true true = refl
taken_too false true false = refl
taken_too false false true = refl
taken_too false false false = refl

-- word 0 is lessened, and what it loses is joined to word o
module _ (row next : List ℕ) (o less more : ℕ) (low : o ≢ 0) (at_zero : get_or next 0 0 ≡ less)
    (at_taken : get_or next o 0 ≡ more) (at_other : (k : ℕ) → k ≢ 0 → k ≢ o → get_or next k 0 ≡ get_or row k 0) where
  moved_by :
      (set : ℕ → Bool) →
      ((d : ℕ) → has less d ≡ (has (get_or row 0 0) d && not (has (get_or row 0 0) d && set d))) →
      ((d : ℕ) → has more d ≡ (has (get_or row o 0) d || (has (get_or row 0 0) d && set d))) →
      Moved row o set next
  moved_by set less_at more_at k d small = go (eqb k 0) refl (eqb k o) refl
    where
      go :
          (z : Bool) →
          eqb k 0 ≡ z →
          (t : Bool) →
          eqb k o ≡ t →
          has (get_or next k 0) d ≡
          ((has (get_or row k 0) d && not (z && set d)) || (t && (set d && has (get_or row 0 0) d)))
      go true z true t =
          let a : k ≡ 0 = eqb-true k 0 z in
          let b : k ≡ o = eqb-true k o t in
          absurd (low (sym b ∙ a))
      go true z false t =
          rw (eqb-true k 0 z, at_zero, less_at d) (left_over (has (get_or row 0 0) d) (set d))
      go false z true t =
          rw (eqb-true k o t, at_taken, more_at d) (taken_too (has (get_or row o 0) d) (set d) (has (get_or row 0 0) d))
      go false z false t =
          rw (at_other k (eqb-false k 0 z) (eqb-false k o t)) (unmoved (has (get_or row k 0) d))

pub operated_some :
    (row supporting : List ℕ) (o : ℕ) →
    length row ≡ 17 →
    o ≢ 0 →
    o < 16 →
    get_or row 0 0 < 2 ^ 64 →
    let taken = bit_and (get_or row 0 0) (get_or supporting o 0) in
    let first = set row 0 (bit_and (get_or row 0 0) ((2 ^ 64 - 1) - taken)) in
    Operated row o supporting (set first o (bit_or (get_or first o 0) taken))
operated_some row supporting o size low high fits =
    let taken = bit_and (get_or row 0 0) (get_or supporting o 0) in
    let less = bit_and (get_or row 0 0) ((2 ^ 64 - 1) - taken) in
    let first = set row 0 less in
    let taken_fits = lt_of_le_of_lt (and_le_l (get_or row 0 0) (get_or supporting o 0)) fits in
    let same : get_or first o 0 ≡ get_or row o 0 = get_or-set_other row 0 o less 0 low in
    moved_by row (set first o (bit_or (get_or first o 0) taken)) o less (bit_or (get_or first o 0) taken) low
    (get_or-set_other first o 0 (bit_or (get_or first o 0) taken) 0 (λ z. low (sym z)) ∙ get_or-set_same row 0 less 0 (omega arith))
    (get_or-set_same first o (bit_or (get_or first o 0) taken) 0 (rw length-set (omega arith)))
    (λ k p q. get_or-set_other first o k (bit_or (get_or first o 0) taken) 0 q ∙ get_or-set_other row 0 k less 0 p)
    (λ d. not (eqb o 0) && has (get_or supporting o 0) d)
    (λ d. rw (
      has_minus 64 (get_or row 0 0) taken d fits taken_fits,
      has_and (get_or row 0 0) (get_or supporting o 0) d,
      ne_eqb o 0 low,
    ))
    (λ d. rw (same, has_or (get_or row o 0) taken d, has_and (get_or row 0 0) (get_or supporting o 0) d, ne_eqb o 0 low))

pub mixed_row :
    (row : List ℕ) → length row ≡ 17 → Mixed row (set (set row 16 (bit_or (get_or row 16 0) (get_or row 0 0))) 0 0)
mixed_row row size =
    let more = bit_or (get_or row 16 0) (get_or row 0 0) in
    let first = set row 16 more in
    moved_by row (set first 0 0) 16 0 more (λ z. omega arith)
    (get_or-set_same first 0 0 0 (rw length-set (omega arith)))
    (get_or-set_other first 0 16 0 0 (λ z. omega arith) ∙ get_or-set_same row 16 more 0 (omega arith))
    (λ k p q. get_or-set_other first 0 k 0 0 p ∙ get_or-set_other row 16 k more 0 q)
    (λ d. true)
    (λ d. rw (has_zero d, and_end (has (get_or row 0 0) d)) (sym (never (has (get_or row 0 0) d))))
    (λ d. rw (has_or (get_or row 16 0) (get_or row 0 0) d, and_end (has (get_or row 0 0) d)))
  where
    never : (a : Bool) → (a && not a) ≡ false
    never true = refl
    never false = refl

-- Leaves by operation: those without one joined

pub by_operation_of :
    (table : List (List ℕ)) (row words : List ℕ) (r : ℕ) →
    get_or table r [] ≡ row →
    length words ≡ 16 →
    words ≡ take 16 row →
    ByOperation table r (set words 0 (bit_or (get_or words 0 0) (get_or row 16 0)))
by_operation_of table row words r at size cut zero small =
    get_or-set_same words 0 (bit_or (get_or words 0 0) (get_or row 16 0)) 0 (omega arith)
    ∙ rw (at, cut, get_or-take 16 row 0 0 (omega arith))
by_operation_of table row words r at size cut (suc k) small =
    get_or-set_other words 0 (suc k) (bit_or (get_or words 0 0) (get_or row 16 0)) 0 (λ z. omega arith)
    ∙ rw (at, cut, ne_eqb (suc k) 0 (λ z. omega arith)) (get_or-take 16 row (suc k) 0 small)

-- The row by its kind

module _ (head plan : List ℕ) (i : ℕ) where
  -- what the rows that b and c name bring
  abbrev pub brought : ℕ → ℕ → Bool
  brought d w =
      (ltb (row_b plan i) i && stands head plan (row_b plan i) d w)
      || (ltb (row_c plan i) i && stands head plan (row_c plan i) d w)

  pub brought_words :
      (table : List (List ℕ)) (both : List ℕ) →
      Reached head plan i table →
      Brought table (row_b plan i) (row_c plan i) both →
      (w : ℕ) → w < 17 → WordOf (λ d. brought d w) (get_or both w 0)
  brought_words table both reached joined w small d =
      rw (
        joined w small,
        has_or (word table (row_b plan i) w) (word table (row_c plan i) w) d,
        reached (row_b plan i) w small d,
        reached (row_c plan i) w small d,
      )
      (sym (and_or (ltb d 64) (ltb (row_b plan i) i && stands head plan (row_b plan i) d w)
      (ltb (row_c plan i) i && stands head plan (row_c plan i) d w)))

  -- 255 in c is no lower row, and row b brings all
  pub below_words :
      (table : List (List ℕ)) (below : List ℕ) →
      Reached head plan i table →
      ((w : ℕ) → w < 17 → get_or below w 0 ≡ bit_or (get_or (replicate 17 0) w 0) (word table (row_b plan i) w)) →
      row_c plan i ≡ 255 →
      i ≤ 255 →
      (w : ℕ) → w < 17 → WordOf (λ d. brought d w) (get_or below w 0)
  below_words table below reached row_at one few w small d =
      rw (
        row_at w small,
        get_d_zeros 17 w,
        or_zero_l (word table (row_b plan i) w),
        reached (row_b plan i) w small d,
        le-ltb (row_c plan i) i (rw one few),
        or_end (ltb (row_b plan i) i && stands head plan (row_b plan i) d w),
      )

  pub column_row_law :
      (row : List ℕ) →
      kind_at plan i ≡ Column →
      ((w : ℕ) → w < 17 → WordOf (λ d. any (eqb d) (labels head (row_a plan i)) && eqb w 0) (get_or row w 0)) →
      RowReached head plan i row
  column_row_law row e at w small d = at w small d ∙ rw (stands_column head plan i d w e)

  pub choose_row :
      (row : List ℕ) →
      kind_at plan i ≡ Choose →
      ((w : ℕ) → w < 17 → WordOf (λ d. brought d w) (get_or row w 0)) →
      RowReached head plan i row
  choose_row row e at w small d = at w small d ∙ rw (stands_choose head plan i d w e)

  pub no_row : is_value (kind_at plan i) ≡ false → RowReached head plan i (replicate 17 0)
  no_row e w small d =
      rw (get_or-replicate {A = ℕ} 17 w 0 0 small, has_zero d, stands_none head plan i d w e, and_false (ltb d 64))

  -- a row that uses another, and one of no kind
  pub no_row_used : (c : Channel) → kind_at plan i ≡ kind_using c → RowReached head plan i (replicate 17 0)
  unfolding is_value
  no_row_used channel.Projection e = no_row (rw e refl)
  no_row_used channel.Condition e = no_row (rw e refl)

  pub no_row_unknown : kind_at plan i ≡ Unknown → RowReached head plan i (replicate 17 0)
  unfolding is_value
  no_row_unknown e = no_row (rw e refl)

  -- what is brought is a leaf, so that the words of leaves tell what is supported
  leaf_brought : PlanSound head plan → (d w : ℕ) → is_data_leaf head d ≡ false → brought d w ≡ false
  leaf_brought sound d w l =
      go (stands head plan (row_b plan i) d w) refl (stands head plan (row_c plan i) d w) refl
    where
      never : (r : ℕ) → stands head plan r d w ≡ true → ⊥
      never r t = false≢true (sym l ∙ sound.leaves r d w t)

      go :
          (x : Bool) →
          stands head plan (row_b plan i) d w ≡ x →
          (y : Bool) →
          stands head plan (row_c plan i) d w ≡ y →
          ((ltb (row_b plan i) i && x) || (ltb (row_c plan i) i && y)) ≡ false
      go true p y q = absurd (never (row_b plan i) p)
      go false p true q = absurd (never (row_c plan i) q)
      go false p false q = rw (and_false (ltb (row_b plan i) i), and_false (ltb (row_c plan i) i))

  module _ (both supporting row : List ℕ) (e : kind_at plan i ≡ Apply) (sound : PlanSound head plan)
      (supports_at : Supporting head supporting)
      (both_at : (w : ℕ) → w < 17 → WordOf (λ d. brought d w) (get_or both w 0)) where
    pub one_row :
        eqb (row_c plan i) 255 ≡ true →
        Operated both (operation head (row_a plan i)) supporting row →
        RowReached head plan i row
    unfolding takes
    one_row one operated_at w small d =
        operated_at w d small
        ∙ rw (both_at w small d, both_at 0 (omega arith) d, supports_at o (sound.operations i e) d, stands_one head plan i d w e one)
        (go (ltb d 64) (is_data_leaf head d) refl)
      where
        o : ℕ
        o = operation head (row_a plan i)

        go :
            (t l : Bool) →
            is_data_leaf head d ≡ l →
            (((t && brought d w) && not (eqb w 0 && (not (eqb o 0) && (t && (l && supports head d o)))))
            || (eqb w o && ((not (eqb o 0) && (t && (l && supports head d o))) && (t && brought d 0)))) ≡
            (t
            && ((brought d w && not (eqb w 0 && (not (eqb o 0) && supports head d o)))
            || (eqb w o && ((not (eqb o 0) && supports head d o) && brought d 0))))
        go true true q = refl
        go true false q = simp (leaf_brought sound d w q, leaf_brought sound d 0 q, and_false)
        go false l q = simp and_false

    pub two_rows : eqb (row_c plan i) 255 ≡ false → Mixed both row → RowReached head plan i row
    two_rows two mixed_at w small d =
        mixed_at w d small
        ∙ rw (both_at w small d, both_at 0 (omega arith) d, stands_two head plan i d w e two) (go (ltb d 64))
      where
        go :
            (t : Bool) →
            (((t && brought d w) && not (eqb w 0 && true)) || (eqb w 16 && (true && (t && brought d 0)))) ≡
            (t && ((brought d w && not (eqb w 0 && true)) || (eqb w 16 && (true && brought d 0))))
        go true = refl
        go false = and_false (eqb w 16)

-- The table, row by row

pub word_zeros : (n m r w : ℕ) → word (replicate n (replicate m 0)) r w ≡ 0
word_zeros n m r w = go (ltb r n) refl
  where
    go : (b : Bool) → ltb r n ≡ b → word (replicate n (replicate m 0)) r w ≡ 0
    go true t = rw (get_or-replicate {A = List ℕ} n r (replicate m 0) [] (ltb-true r n t)) (get_d_zeros m w)
    go false t =
        let table : List (List ℕ) = replicate n (replicate m 0) in
        let past : length table ≤ r = rw length-replicate (ltb-false r n t) in
        rw (get_or-eq_default table [] past) refl

module _ (head plan : List ℕ) where
  pub reached_none : Reached head plan 0 (replicate 64 (replicate 17 0))
  reached_none r w small d = rw (word_zeros 64 17 r w, has_zero d, le-ltb r 0 (omega arith), and_false (ltb d 64))

  pub reached_more :
      (i : ℕ) (row : List ℕ) (before : List (List ℕ)) →
      i < length before →
      Reached head plan i before →
      RowReached head plan i row →
      Reached head plan (i + 1) (set before i row)
  reached_more i row before few reached row_at r w small d = go (eqb r i) refl
    where
      go :
          (t : Bool) →
          eqb r i ≡ t →
          has (word (set before i row) r w) d ≡ (ltb d 64 && (ltb r (i + 1) && stands head plan r d w))
      go true t =
          rw (eqb-true r i t, get_or-set_same before i row [] few, lt-ltb i (i + 1) (omega arith)) (row_at w small d)
      go false t =
          rw (get_or-set_other before i r row [] (eqb-false r i t), ltb_more r i (eqb-false r i t)) (reached r w small d)
