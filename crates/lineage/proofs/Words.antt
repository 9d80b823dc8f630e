-- Laws of the 32 words: a word by its members, what one row more gives, and the words of a whole plan. Assumes nothing.
use Prim.Native.Nat.{ℕ, zero, suc, ◌+◌, ◌*◌, ◌/◌, ◌%◌, ◌^◌, ◌<◌}
use native.Mathlib.Nat.{one-mul, lt_trans, zero-add}
use native.Mathlib.Numerals.{add-one}
use native.Mathlib.Omega.{arith}
use mathlib.Core.Path.{◌≡◌, refl, sym, ap, ◌∙◌}
use mathlib.Core.Bool.{Bool, true, false, ◌&&◌, ◌||◌, cond}
use mathlib.Core.List.{List, [], ◌∷◌, ◌++◌, map}
use lib.ListN.{length, get_or, set, replicate}
use lib.Seq.{ext_get_or, get_or-set_same, get_or-set_other}
use lib.Bits.{bit_or, or_shifted, or_zero_l, or_zero_r, or_lt}
use lib.Pow.{pow_pos, pow-lt}
use lib.Dec.{eqb, ltb}
use borrow.Author.Tests.{lt-ltb, le-ltb, eqb-true, eqb-false}
use Rattle.book.specs.Lists.{any, from, up_to}
use Rattle.book.specs.Sets.{has, WordOf}
use Rattle.book.proofs.Lists.{and_end, and_false, and_or, or_end, any_more, any_none, ltb_more, up_to_more}
use Rattle.book.proofs.Members.{has_zero, has_or, has_single, same_members, has_cond}
use Rattle.lineage.specs.Rows.{kind_at, row_a}
use Rattle.lineage.specs.Accesses.{access_words, gives, is_access, reaches, word_of}
use Rattle.lineage.specs.Inner.Table.{ByOperation, Gathered, Given, PlanSound, Reached, RowAdded, stands, word}
use Rattle.lineage.proofs.Paths.{reaches_stands}
use Rattle.lineage.proofs.Steps.{word_zeros}

-- A word by its members

word_of_end : (f : ℕ → Bool) (s : List ℕ) (n : ℕ) → word_of f (s ++ (n ∷ [])) ≡ word_of f s + cond (f n) (2 ^ n) 0
unfolding word_of
word_of_end f [] n = omega arith
word_of_end f (x ∷ s) n = rw (word_of_end f s n) (omega arith)

pub word_more : (f : ℕ → Bool) (n : ℕ) → word_of f (up_to (suc n)) ≡ word_of f (up_to n) + cond (f n) (2 ^ n) 0
word_more f n = ap (word_of f) (up_to_more n) ∙ word_of_end f (up_to n) n

-- the sum that adds bit n, as a union
plus_bit : (b : Bool) (n word : ℕ) → word < 2 ^ n → word + cond b (2 ^ n) 0 ≡ bit_or (cond b (2 ^ n) 0) word
plus_bit true n word h =
    let e : bit_or (1 * 2 ^ n) word ≡ 1 * 2 ^ n + word = or_shifted 1 n word h in
    let o : 1 * 2 ^ n ≡ 2 ^ n = one-mul (2 ^ n) in
    rw (o) at (sum (1 * 2 ^ n) (bit_or (1 * 2 ^ n) word) e)
  where
    sum : (p q : ℕ) → q ≡ p + word → word + p ≡ q
    sum p q e = omega arith
plus_bit false n word h = rw (or_zero_l word) (omega arith)

bit_fits : (b : Bool) (n : ℕ) → cond b (2 ^ n) 0 < 2 ^ suc n
bit_fits true n = pow-lt {i = n} {j = suc n} (omega arith)
bit_fits false n = pow_pos (suc n)

below_or : (f : ℕ → Bool) (n d : ℕ) → ((f n && eqb d n) || (ltb d n && f d)) ≡ (ltb d (n + 1) && f d)
below_or f n d = go (eqb d n) refl
  where
    go : (b : Bool) → eqb d n ≡ b → ((f n && b) || (ltb d n && f d)) ≡ (ltb d (n + 1) && f d)
    go true e =
        let z : d ≡ n = eqb-true d n e in
        rw (z, le-ltb n n (omega arith), lt-ltb n (n + 1) (omega arith), and_end (f n)) (or_end (f n))
    go false e = rw (and_false (f n), ltb_more d n (eqb-false d n e))

pub word_of_law :
    (f : ℕ → Bool) (n : ℕ) →
    (word_of f (up_to n) < 2 ^ n) × ((d : ℕ) → has (word_of f (up_to n)) d ≡ (ltb d n && f d))
unfolding word_of up_to from
word_of_law f zero = (pow_pos 0, λ d. rw (has_zero d, le-ltb d 0 (omega arith)))
word_of_law f (suc n) = step (word_of_law f n)
  where
    step :
        (word_of f (from 0 n) < 2 ^ n) × ((d : ℕ) → has (word_of f (from 0 n)) d ≡ (ltb d n && f d)) →
        (word_of f (from 0 (suc n)) < 2 ^ suc n) × ((d : ℕ) → has (word_of f (from 0 (suc n))) d ≡ (ltb d (suc n) && f d))
    step old =
        let e : word_of f (from 0 (suc n)) ≡ bit_or (cond (f n) (2 ^ n) 0) (word_of f (from 0 n)) =
        word_more f n ∙ plus_bit (f n) n (word_of f (from 0 n)) old.0 in (
          rw e
              (or_lt (suc n) (cond (f n) (2 ^ n) 0) (word_of f (from 0 n)) (bit_fits (f n) n)
              (lt_trans old.0 (pow-lt {i = n} {j = suc n} (omega arith)))),
          λ d.
              rw (e, has_or (cond (f n) (2 ^ n) 0) (word_of f (from 0 n)) d, has_cond (f n) (2 ^ n) d, has_single d n, old.1 d)
              (rw (add-one n) at (below_or f n d)),
        )

-- The words that the rows give

-- a row joined to the words of its channel
pub row_added :
    (words : List (List ℕ)) (s : ℕ) (row own : List ℕ) →
    s < length words →
    ((k : ℕ) → k < 16 → get_or own k 0 ≡ bit_or (word words s k) (get_or row k 0)) →
    RowAdded words s row (set words s own)
row_added words s row own few joined t k channel small = go (eqb t s) refl
  where
    go : (b : Bool) → eqb t s ≡ b → word (set words s own) t k ≡ bit_or (word words t k) (cond b (get_or row k 0) 0)
    go true e = rw (eqb-true t s e, get_or-set_same words s own [] few) (joined k small)
    go false e = rw (get_or-set_other words s t own [] (eqb-false t s e)) (sym (or_zero_r (word words t k)))

module _ (head plan : List ℕ) where
  pub gathered_none : (n m : ℕ) → Gathered head plan 0 (replicate n (replicate m 0))
  gathered_none n m s k channel small d =
      rw (
        word_zeros n m s k,
        has_zero d,
        any_none (λ j. gives (kind_at plan j) s && reaches head plan (row_a plan j) d k),
        and_false (ltb d 64),
      )

  -- word k of a row by operation
  reached_word :
      (r k n : ℕ) (table : List (List ℕ)) →
      PlanSound head plan →
      Reached head plan n table →
      r < n →
      k < 16 →
      (d : ℕ) →
      has (cond (eqb k 0) (bit_or (word table r 0) (word table r 16)) (word table r k)) d ≡
      (ltb d 64 && reaches head plan r d k)
  reached_word r k n table sound reached l small d =
      rw (reaches_stands head plan r d k small none) (go (eqb k 0) refl)
    where
      none : reaches head plan r d 16 ≡ false
      none = never (reaches head plan r d 16) refl
        where
          never : (b : Bool) → reaches head plan r d 16 ≡ b → reaches head plan r d 16 ≡ false
          never true e =
              let m : 16 < 16 = sound.below r d 16 e in
              absurd (omega arith)
          never false e = e

      at : (w : ℕ) → w < 17 → has (word table r w) d ≡ (ltb d 64 && stands head plan r d w)
      at w h = rw (reached r w h d, lt-ltb r n l)

      go :
          (b : Bool) →
          eqb k 0 ≡ b →
          has (cond b (bit_or (word table r 0) (word table r 16)) (word table r k)) d ≡
          (ltb d 64 && (stands head plan r d k || (b && stands head plan r d 16)))
      go true e =
          rw (eqb-true k 0 e, has_or (word table r 0) (word table r 16) d, at 0 (omega arith), at 16 (omega arith))
          (sym (and_or (ltb d 64) (stands head plan r d 0) (stands head plan r d 16)))
      go false e = at k (omega arith) ∙ rw (or_end (stands head plan r d k))

  module _ (i : ℕ) (words : List (List ℕ)) (before : Gathered head plan i words) where
    -- a row that gives accesses by channel s
    pub gathered_more :
        (s n : ℕ) (row : List ℕ) (table next : List (List ℕ)) →
        PlanSound head plan →
        Reached head plan n table →
        Given plan n i →
        ((t : ℕ) → gives (kind_at plan i) t ≡ eqb t s) →
        ByOperation table (row_a plan i) row →
        RowAdded words s row next →
        Gathered head plan (i + 1) next
    gathered_more s n row table next sound reached given action row_at next_at t k channel small d =
        rw (
          next_at t k channel small,
          has_or (word words t k) (cond (eqb t s) (get_or row k 0) 0) d,
          before t k channel small d,
          any_more (λ j. gives (kind_at plan j) t && reaches head plan (row_a plan j) d k) i,
          action t,
        )
        (rw (row_word (eqb t s) refl)
        (sym (and_or (ltb d 64) (any (λ j. gives (kind_at plan j) t && reaches head plan (row_a plan j) d k) (up_to i))
        (eqb t s && reaches head plan (row_a plan i) d k))))
      where
        row_word :
            (b : Bool) →
            eqb t s ≡ b →
            has (cond b (get_or row k 0) 0) d ≡ (ltb d 64 && (b && reaches head plan (row_a plan i) d k))
        row_word true e =
            let l : row_a plan i < n = given t (action t ∙ e) in
            rw (row_at k small) (reached_word (row_a plan i) k n table sound reached l small d)
        row_word false e = rw (has_zero d, and_false (ltb d 64))

    -- a row that gives none
    pub gathered_same :
        ((t : ℕ) → gives (kind_at plan i) t ≡ false) → Gathered head plan (i + 1) words
    gathered_same action t k channel small d =
        rw (
          before t k channel small d,
          any_more (λ j. gives (kind_at plan j) t && reaches head plan (row_a plan j) d k) i,
          action t,
          or_end (any (λ j. gives (kind_at plan j) t && reaches head plan (row_a plan j) d k) (up_to i)),
        )

-- The words of a plan

pub length_from : (g : ℕ → ℕ) (i n : ℕ) → length (map g (from i n)) ≡ n
unfolding from
length_from g i zero = refl
length_from g i (suc n) = ap suc (length_from g (suc i) n)

pub get_d_from : (g : ℕ → ℕ) (i n j : ℕ) → j < n → get_or (map g (from i n)) j 0 ≡ g (i + j)
unfolding from
get_d_from g i zero j h = absurd (omega arith)
get_d_from g i (suc n) zero h = ap g (omega arith)
get_d_from g i (suc n) (suc j) h = get_d_from g (suc i) n j (omega arith) ∙ ap g (omega arith)

pub access_words_law :
    (head plan r : List ℕ) →
    length r ≡ 32 →
    ((w : ℕ) → w < 32 → get_or r w 0 < 2 ^ 64) →
    ((s k : ℕ) → s < 2 → k < 16 → WordOf (λ d. is_access head plan s d k) (get_or r (16 * s + k) 0)) →
    r ≡ access_words head plan
unfolding access_words up_to
access_words_law head plan r size fits at =
    ext_get_or 0 r (map access_word (from 0 32)) (size ∙ sym (length_from access_word 0 32)) (λ w h. each w (rw size at h))
  where
    member : ℕ → ℕ → Bool
    member w d = is_access head plan (w / 16) d (w % 16)

    access_word : ℕ → ℕ
    access_word w = word_of (member w) (from 0 64)

    own : (w : ℕ) → w < 32 → WordOf (member w) (get_or r w 0)
    own w h =
        let z : 16 * (w / 16) + w % 16 ≡ w = omega arith in
        rw z at (at (w / 16) (w % 16) (omega arith) (omega arith))

    each : (w : ℕ) → w < 32 → get_or r w 0 ≡ get_or (map access_word (from 0 32)) w 0
    each w h =
        let whole = word_of_law (member w) 64 in
        same_members 64 (get_or r w 0) (access_word w) (fits w h) whole.0 (λ d l. own w h d ∙ sym (whole.1 d))
        ∙ sym (get_d_from access_word 0 32 w h ∙ ap access_word (zero-add w))

-- "bit d of word 16 × s + k is set exactly when (s, d, k) is an access"
pub access_bit :
    (head plan : List ℕ) (s d k : ℕ)
    → s < 2
    → d < 64
    → k < 16
    → has (get_or (access_words head plan) (16 * s + k) 0) d ≡ is_access head plan s d k
unfolding access_words up_to
access_bit head plan s d k channel low small =
    let whole : (16 * s + k) / 16 ≡ s = omega arith in
    let rest : (16 * s + k) % 16 ≡ k = omega arith in
    let z : 0 + (16 * s + k) ≡ 16 * s + k = omega arith in
    rw (
      get_d_from (λ w. word_of (λ e. is_access head plan (w / 16) e (w % 16)) (from 0 64)) 0 32 (16 * s + k) (omega arith),
      z,
      whole,
      rest,
    )
    ((word_of_law (λ e. is_access head plan s e k) 64).1 d ∙ rw (lt-ltb d 64 low))
