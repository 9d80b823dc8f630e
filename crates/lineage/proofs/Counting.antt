-- Laws of a path with one Apply row more: which functions count, and in which word its label then stands. Assumes
-- nothing.
use Prim.Native.Nat.{ℕ}
use mathlib.Core.Path.{◌≡◌, refl, sym, ap, ◌∙◌}
use mathlib.Core.Bool.{Bool, true, false, ◌&&◌, ◌||◌, not, cond, false≢true}
use mathlib.Core.List.{List, [], ◌∷◌, ◌++◌}
use lib.Dec.{eqb}
use borrow.Author.Tests.{eqb-true, eqb-false, ne_eqb, not-true}
use Rattle.book.specs.Lists.{any}
use Rattle.book.specs.Head.{operation}
use Rattle.book.proofs.Lists.{and_both, and_end, and_false, and_left, and_never, or_end}
use Rattle.lineage.specs.Paths.{Applied, OneRow, TwoRows, Path, through, labels, takes, counting, first_operation}
use Rattle.lineage.specs.Paths.{operation_of}
use Rattle.lineage.specs.Inner.Table.{mixes, word_for}

-- Which functions count

-- "an Apply with two rows doesn't count as an operation, and nothing above it does"; what is below it counts as before
pub mixing_ends :
    (below : List Applied) (f : ℕ) (above : List Applied) → counting (below ++ (TwoRows f ∷ above)) ≡ counting below
unfolding counting
mixing_ends [] f above = refl
mixing_ends (OneRow g ∷ below) f above = ap (λ (fs : List ℕ). g ∷ fs) (mixing_ends below f above)
mixing_ends (TwoRows g ∷ below) f above = refl

counting_mixed : (below above : List Applied) → mixes below ≡ true → counting (below ++ above) ≡ counting below
unfolding counting mixes
counting_mixed [] above h = absurd (false≢true h)
counting_mixed (OneRow g ∷ below) above h = ap (λ (fs : List ℕ). g ∷ fs) (counting_mixed below above h)
counting_mixed (TwoRows g ∷ below) above h = refl

counting_one :
    (below : List Applied) (f : ℕ) →
    mixes below ≡ false →
    counting (below ++ (OneRow f ∷ [])) ≡ counting below ++ (f ∷ [])
unfolding counting mixes
counting_one [] f h = refl
counting_one (OneRow g ∷ below) f h = ap (λ (fs : List ℕ). g ∷ fs) (counting_one below f h)
counting_one (TwoRows g ∷ below) f h = absurd (false≢true (sym h))

pub mixes_one : (below : List Applied) (f : ℕ) → mixes (below ++ (OneRow f ∷ [])) ≡ mixes below
unfolding mixes
mixes_one [] f = refl
mixes_one (OneRow g ∷ below) f = mixes_one below f
mixes_one (TwoRows g ∷ below) f = refl

mixes_two : (below : List Applied) (f : ℕ) → mixes (below ++ (TwoRows f ∷ [])) ≡ true
unfolding mixes
mixes_two [] f = refl
mixes_two (OneRow g ∷ below) f = mixes_two below f
mixes_two (TwoRows g ∷ below) f = refl

-- The first operation of functions, and one more

-- an operation that is taken is not 0
taken_not_none : (head : List ℕ) (d k : ℕ) → takes head d k ≡ true → eqb k 0 ≡ false
unfolding takes
taken_not_none head d k h = not-true (eqb k 0) (and_left (not (eqb k 0)) _ h)

module _ (head : List ℕ) (d : ℕ) where
  first_more :
      (fs : List ℕ) (f : ℕ) →
      first_operation head d (fs ++ (f ∷ [])) ≡
      cond (eqb (first_operation head d fs) 0) (cond (takes head d (operation head f)) (operation head f) 0)
      (first_operation head d fs)
  unfolding first_operation
  first_more [] f = refl
  first_more (g ∷ fs) f = go (takes head d (operation head g)) refl (first_more fs f)
    where
      go :
          (b : Bool) →
          takes head d (operation head g) ≡ b →
          first_operation head d (fs ++ (f ∷ [])) ≡
          cond (eqb (first_operation head d fs) 0) (cond (takes head d (operation head f)) (operation head f) 0)
          (first_operation head d fs) →
          cond b (operation head g) (first_operation head d (fs ++ (f ∷ []))) ≡
          cond (eqb (cond b (operation head g) (first_operation head d fs)) 0)
          (cond (takes head d (operation head f)) (operation head f) 0)
          (cond b (operation head g) (first_operation head d fs))
      go true e more = rw (taken_not_none head d (operation head g) e)
      go false e more = more

  -- The word in which a label stands

  -- once in word 16, it stays there
  mixed_stays : (new x : ℕ) → cond (eqb x 0) 16 x ≡ cond (eqb (cond (eqb x 0) 16 x) 0) new (cond (eqb x 0) 16 x)
  mixed_stays new x = go (eqb x 0) refl
    where
      go : (b : Bool) → eqb x 0 ≡ b → cond b 16 x ≡ cond (eqb (cond b 16 x) 0) new (cond b 16 x)
      go true e = refl
      go false e = rw e

  -- a label in word 0 takes the function's operation, if it supports it; every other stays where it is
  pub word_one :
      (f : ℕ) (p : Path) →
      word_for head d (through (OneRow f) p) ≡
      cond (eqb (word_for head d p) 0) (cond (takes head d (operation head f)) (operation head f) 0) (word_for head d p)
  unfolding word_for operation_of through
  word_one f p = rw (mixes_one p.applies f) (go (mixes p.applies) refl)
    where
      new : ℕ
      new = cond (takes head d (operation head f)) (operation head f) 0

      old : ℕ
      old = first_operation head d (counting p.applies)

      next : ℕ
      next = first_operation head d (counting (p.applies ++ (OneRow f ∷ [])))

      go :
          (b : Bool) →
          mixes p.applies ≡ b →
          cond (b && eqb next 0) 16 next ≡
          cond (eqb (cond (b && eqb old 0) 16 old) 0) new (cond (b && eqb old 0) 16 old)
      go true e = rw (counting_mixed p.applies (OneRow f ∷ []) e) (mixed_stays new old)
      go false e = rw (counting_one p.applies f e) (first_more (counting p.applies) f)

  -- a label in word 0 goes to word 16
  pub word_two :
      (f : ℕ) (p : Path) →
      word_for head d (through (TwoRows f) p) ≡ cond (eqb (word_for head d p) 0) 16 (word_for head d p)
  unfolding word_for operation_of through
  word_two f p = rw (mixes_two p.applies f, mixing_ends p.applies f []) (go (mixes p.applies))
    where
      old : ℕ
      old = first_operation head d (counting p.applies)

      go :
          (b : Bool) →
          cond (eqb old 0) 16 old ≡ cond (eqb (cond (b && eqb old 0) 16 old) 0) 16 (cond (b && eqb old 0) 16 old)
      go true = mixed_stays 16 old
      go false = refl

-- Whether a label that goes to word o where m holds, from word 0 alone, is then in word w

moved_none :
    (m zero_is here : Bool) →
    cond m here zero_is ≡ ((zero_is && not (zero_is && m)) || (here && (m && true)))
moved_none true true true = refl
moved_none true true false = refl
moved_none true false true = refl
moved_none true false false = refl
moved_none false true here = refl
moved_none false false here = sym (and_false here)

moved_some :
    (m zero_is here same : Bool) →
    (same && zero_is) ≡ false →
    same ≡ ((same && not (zero_is && m)) || (here && (m && false)))
moved_some m true here true h = absurd (false≢true (sym h))
moved_some true false here true h = refl
moved_some false false here true h = refl
moved_some m zero_is here false h = rw (and_false m) (sym (and_false here))

eqb_choice : (m : Bool) (k a b : ℕ) → eqb k (cond m a b) ≡ cond m (eqb k a) (eqb k b)
eqb_choice true k a b = refl
eqb_choice false k a b = refl

moved_test :
    (m : Bool) (w o x : ℕ) →
    eqb w (cond (eqb x 0) (cond m o 0) x) ≡
    ((eqb w x && not (eqb w 0 && m)) || (eqb w o && (m && eqb 0 x)))
moved_test m w o x = go (eqb x 0) refl
  where
    go :
        (b : Bool) →
        eqb x 0 ≡ b →
        eqb w (cond b (cond m o 0) x) ≡ ((eqb w x && not (eqb w 0 && m)) || (eqb w o && (m && eqb 0 x)))
    go true e =
        let z : x ≡ 0 = eqb-true x 0 e in
        rw z (eqb_choice m w o 0 ∙ moved_none m (eqb w 0) (eqb w o))
    go false e =
        let n : x ≡ 0 → ⊥ = eqb-false x 0 e in
        rw (ne_eqb 0 x (λ z. n (sym z)))
        (moved_some m (eqb w 0) (eqb w o) (eqb w x)
        (and_never (eqb w x) (eqb w 0)
        (λ t. let l : w ≡ x = eqb-true w x t in ne_eqb w 0 (λ z. n (sym l ∙ z)))))

moved_held :
    (held a b c m e : Bool) → (held && (a && b || (c && (m && e)))) ≡ (((held && a) && b) || (c && (m && (held && e))))
moved_held true a b c m e = refl
moved_held false a b c m e = rw (and_false m) (sym (and_false c))

pub moved_word :
    (head : List ℕ) (d w o : ℕ) (m : Bool) (p next : Path) →
    next.column ≡ p.column →
    word_for head d next ≡ cond (eqb (word_for head d p) 0) (cond m o 0) (word_for head d p) →
    (any (eqb d) (labels head next.column) && eqb w (word_for head d next)) ≡
    (((any (eqb d) (labels head p.column) && eqb w (word_for head d p)) && not (eqb w 0 && m))
    || (eqb w o && (m && (any (eqb d) (labels head p.column) && eqb 0 (word_for head d p)))))
moved_word head d w o m p next same word =
    let x = word_for head d p in
    let held = any (eqb d) (labels head p.column) in
    rw (word, same, moved_test m w o x)
    (moved_held held (eqb w x) (not (eqb w 0 && m)) (eqb w o) m (eqb 0 x))

-- A label by its operation k: in the word of k, or in word 16 where k is none

pub by_word :
    (mixed : Bool) (k x : ℕ) →
    eqb k 16 ≡ false →
    eqb k x ≡ (eqb k (cond (mixed && eqb x 0) 16 x) || (eqb k 0 && (mixed && eqb x 0)))
by_word mixed k x n = go (mixed && eqb x 0) (λ h. eqb-true x 0 (and_both mixed (eqb x 0) h).1)
  where
    go : (b : Bool) → (b ≡ true → x ≡ 0) → eqb k x ≡ (eqb k (cond b 16 x) || (eqb k 0 && b))
    go true z = rw (z refl, n, and_end (eqb k 0))
    go false z = rw (and_false (eqb k 0), or_end (eqb k x))

pub in_last : (mixed : Bool) (x : ℕ) → eqb 16 (cond (mixed && eqb x 0) 16 x) ≡ ((mixed && eqb x 0) || eqb 16 x)
in_last mixed x = go (mixed && eqb x 0)
  where
    go : (b : Bool) → eqb 16 (cond b 16 x) ≡ (b || eqb 16 x)
    go true = refl
    go false = refl
