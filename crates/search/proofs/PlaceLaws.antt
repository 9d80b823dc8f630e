-- Laws of words and of sets of places: the lowest member of a word, and the first place of a set from a place on.
-- Assumes nothing.
use Prim.Native.Nat.{ℕ, zero, suc, ◌+◌, ◌*◌, ◌-◌, ◌/◌, ◌%◌, ◌^◌, ◌≤◌, ◌<◌}
use native.Mathlib.Nat.{pow-suc, div-div-eq-div-mul}
use native.Mathlib.Omega.{arith}
use mathlib.Core.Path.{◌≡◌, refl, sym, ◌∙◌}
use mathlib.Core.Bool.{Bool, true, false, false≢true, cond}
use mathlib.Core.List.{List}
use lib.ListN.{length, replicate, get_or, set, length-set}
use lib.Seq.{ext_get_or, get_or-set_same, get_or-set_other}
use lib.Dec.{eqb, ltb}
use lib.Pow.{pow-add}
use lib.Count.{count_trailing_zeros, under}
use borrow.Author.Tests.{eqb-true, eqb-false, ltb-true, ltb-false, lt-ltb, le-ltb, eq-eqb, ne_eqb}
use Rattle.book.specs.Sets.{has, WordOf}
use Rattle.book.proofs.Members.{has_low, has_high, has_zero, has_above}
use Rattle.verdicts.specs.Accesses.{Access}
use Rattle.search.specs.Inner.Places.{FirstFrom, access_at, in_places, rows_at}
use Rattle.search.specs.Shown.{rows_of}

-- The lowest member of a word

-- a word of k bits that is not 0 has a member, and it is below k
pub trailing_member :
    (k w : ℕ) → w < 2 ^ k → (w ≡ 0 → ⊥) → (count_trailing_zeros k w < k) × (has w (count_trailing_zeros k w) ≡ true)
unfolding count_trailing_zeros
trailing_member zero w h n = absurd (n (omega arith))
trailing_member (suc k) w h n =
    let p = pow-suc 2 k in
    go (w % 2) refl (λ m. trailing_member k (w / 2) (omega arith) m)
  where
    go :
        (d : ℕ)
        → w % 2 ≡ d
        → ((w / 2 ≡ 0 → ⊥) → (count_trailing_zeros k (w / 2) < k) × (has (w / 2) (count_trailing_zeros k (w / 2)) ≡ true))
        → (under d (count_trailing_zeros k (w / 2)) < suc k) × (has w (under d (count_trailing_zeros k (w / 2))) ≡ true)
    go zero e more =
        let rest = more (λ z. n (omega arith)) in
        (omega (arith, rest.0), has_high w (count_trailing_zeros k (w / 2)) ∙ rest.1)
    go (suc zero) e more = (omega arith, has_low w ∙ rw e)
    go (suc (suc d)) e more = absurd (omega arith)

pub trailing_skips : (k w j : ℕ) → j < count_trailing_zeros k w → has w j ≡ false
unfolding count_trailing_zeros
trailing_skips zero w j l = absurd (omega arith)
trailing_skips (suc k) w j l = go (w % 2) refl j l (λ i. trailing_skips k (w / 2) i)
  where
    go :
        (d : ℕ)
        → w % 2 ≡ d
        → (j : ℕ)
        → j < under d (count_trailing_zeros k (w / 2))
        → ((i : ℕ) → i < count_trailing_zeros k (w / 2) → has (w / 2) i ≡ false)
        → has w j ≡ false
    go zero e zero l more = has_low w ∙ rw e
    go zero e (suc j) l more = has_high w j ∙ more j (omega arith)
    go (suc d) e j l more = absurd (omega arith)

-- the code's `word >> s`
pub has_shift : (w s j : ℕ) → has (w / 2 ^ s) j ≡ has w (s + j)
unfolding has
has_shift w s j = rw (div-div-eq-div-mul, ← pow-add)

-- a member of a word, by the test that the word stands for
pub word_member :
    (f : ℕ → Bool) (w i : ℕ) (r : Bool) → WordOf f w → r ≡ has w i → i < 64 → f i ≡ r
word_member f w i r e h l = sym (h ∙ e i ∙ rw (lt-ltb i 64 l))

-- Words of a set

-- a set with no place
pub zero_words : (n w : ℕ) → get_or {A = ℕ} (replicate n 0) w 0 ≡ 0
zero_words zero w = refl
zero_words (suc n) zero = refl
zero_words (suc n) (suc w) = zero_words n w

pub same_words :
    (a b : List ℕ) (w : ℕ) → 33 ≤ w → length a ≡ 33 → length b ≡ 33
    → ((k : ℕ) → k < w → get_or a k 0 ≡ get_or b k 0) → a ≡ b
same_words a b w past m n h = ext_get_or 0 a b (omega arith) (λ k l. h k (omega arith))

-- a set changed in place, as far as word w
pub record Mapped (f : ℕ → ℕ → ℕ) (old new : List ℕ) (w : ℕ) : Type 0 where
  pub bound : w ≤ 33
  pub size : length new ≡ 33
  pub below : (k : ℕ) → k < w → get_or new k 0 ≡ f k (get_or old k 0)
  pub above : (k : ℕ) → w ≤ k → get_or new k 0 ≡ get_or old k 0

pub mapped_none : {f : ℕ → ℕ → ℕ} {old : List ℕ} → length old ≡ 33 → Mapped f old old 0
mapped_none size =
    record { bound = omega arith; size = size; below = λ k l. absurd (omega arith); above = λ k l. refl }

pub mapped_more :
    {f : ℕ → ℕ → ℕ} {old new : List ℕ} {w v : ℕ}
    → Mapped f old new w
    → w < 33
    → v ≡ f w (get_or new w 0)
    → Mapped f old (set new w v) (w + 1)
mapped_more {f} {old} {new} {w} {v} m l e =
    record {
      bound = omega arith;
      size = length-set new w v ∙ m.size;
      below = λ k h. go k h (eqb k w) refl;
      above = λ k h. get_or-set_other new w k v 0 (λ z. omega arith) ∙ m.above k (omega arith);
    }
  where
    go : (k : ℕ) → k < w + 1 → (b : Bool) → eqb k w ≡ b → get_or (set new w v) k 0 ≡ f k (get_or old k 0)
    go k h true t =
        rw (eqb-true k w t, get_or-set_same new w v 0 (omega (arith, m.size)), e, m.above w (omega arith))
    go k h false t =
        let other : k ≡ w → ⊥ = eqb-false k w t in
        get_or-set_other new w k v 0 other ∙ m.below k (omega (arith, other))

-- The first place of a set

-- no place from p on and below n is in the set
abbrev pub NoneFrom : List ℕ → ℕ → ℕ → Type 0
NoneFrom set p n = (q : ℕ) → p ≤ q → q < n → in_places set q ≡ false

module _ (set : List ℕ) (p : ℕ) where
  pub first_past : 2112 ≤ p → p ≤ 2112 → FirstFrom set p 2112
  first_past l h =
      record {
        low = h;
        high = omega arith;
        member = λ m. absurd (omega arith);
        skipped = λ q a b. absurd (omega arith);
      }

  -- in the word of p itself
  pub first_inside :
      (r : ℕ)
      → get_or set (p / 64) 0 < 2 ^ 64
      → has (get_or set (p / 64) 0 / 2 ^ (p % 64)) r ≡ true
      → p % 64 + r < 64
  first_inside r f m = within (ltb (p % 64 + r) 64) refl
    where
      within : (b : Bool) → ltb (p % 64 + r) 64 ≡ b → p % 64 + r < 64
      within true e = ltb-true (p % 64 + r) 64 e
      within false e =
          absurd
          (false≢true
          (sym (has_above 64 (get_or set (p / 64) 0) (p % 64 + r) f (ltb-false (p % 64 + r) 64 e))
          ∙ sym (has_shift (get_or set (p / 64) 0) (p % 64) r)
          ∙ m))

  pub first_here :
      (r : ℕ)
      → p < 2112
      → get_or set (p / 64) 0 < 2 ^ 64
      → has (get_or set (p / 64) 0 / 2 ^ (p % 64)) r ≡ true
      → ((j : ℕ) → j < r → has (get_or set (p / 64) 0 / 2 ^ (p % 64)) j ≡ false)
      → FirstFrom set p (p + r)
  unfolding in_places
  first_here r l f m n =
      let inside = first_inside r f m in
      let word : (p + r) / 64 ≡ p / 64 = omega arith in
      let bit : (p + r) % 64 ≡ p % 64 + r = omega arith in
      record {
        low = omega arith;
        high = omega arith;
        member = λ h. rw (word, bit) (sym (has_shift (get_or set (p / 64) 0) (p % 64) r) ∙ m);
        skipped = λ q a b.
            let w : q / 64 ≡ p / 64 = omega arith in
            let i : q % 64 ≡ p % 64 + (q - p) = omega arith in
            rw (w, i) (sym (has_shift (get_or set (p / 64) 0) (p % 64) (q - p)) ∙ n (q - p) (omega arith));
      }

  -- the word of p has none from p on
  pub none_here : get_or set (p / 64) 0 / 2 ^ (p % 64) ≡ 0 → NoneFrom set p (64 * (p / 64 + 1))
  unfolding in_places
  none_here e q a b =
      let w : q / 64 ≡ p / 64 = omega arith in
      let i : q % 64 ≡ p % 64 + (q - p) = omega arith in
      rw (w, i, ← has_shift, e) (has_zero (q - p))

  -- an empty word has none
  pub none_more : (w : ℕ) → NoneFrom set p (64 * w) → get_or set w 0 ≡ 0 → NoneFrom set p (64 * (w + 1))
  unfolding in_places
  none_more w old e q a b = go (ltb q (64 * w)) refl
    where
      go : (t : Bool) → ltb q (64 * w) ≡ t → in_places set q ≡ false
      go true t = old q a (ltb-true q (64 * w) t)
      go false t =
          let l = ltb-false q (64 * w) t in
          let word : q / 64 ≡ w = omega arith in
          rw (word, e) (has_zero (q % 64))

  -- in a later word
  pub first_later :
      (w r : ℕ)
      → p / 64 < w
      → w < 33
      → NoneFrom set p (64 * w)
      → r < 64
      → has (get_or set w 0) r ≡ true
      → ((j : ℕ) → j < r → has (get_or set w 0) j ≡ false)
      → FirstFrom set p (64 * w + r)
  unfolding in_places
  first_later w r a b old l m n =
      let word : (64 * w + r) / 64 ≡ w = omega arith in
      let bit : (64 * w + r) % 64 ≡ r = omega arith in
      record {
        low = omega arith;
        high = omega arith;
        member = λ h. rw (word, bit) m;
        skipped = λ q lo hi. go q lo hi (ltb q (64 * w)) refl;
      }
    where
      go : (q : ℕ) → p ≤ q → q < 64 * w + r → (t : Bool) → ltb q (64 * w) ≡ t → in_places set q ≡ false
      go q lo hi true t = old q lo (ltb-true q (64 * w) t)
      go q lo hi false t =
          let s = ltb-false q (64 * w) t in
          let word : q / 64 ≡ w = omega arith in
          rw word (n (q % 64) (omega arith))

  pub first_none : (w : ℕ) → p ≤ 2112 → 33 ≤ w → NoneFrom set p (64 * w) → FirstFrom set p 2112
  first_none w h l old =
      record {
        low = h;
        high = omega arith;
        member = λ m. absurd (omega arith);
        skipped = λ q a b. old q a (omega arith);
      }

-- The rows for an access, and for a place

pub rows_few : (x : Access) → (2 ≤ rows_of x) × (rows_of x ≤ 3)
unfolding rows_of
rows_few x = go (eqb x.operation 0)
  where
    go : (b : Bool) → (2 ≤ cond b 2 3) × (cond b 2 3 ≤ 3)
    go true = (omega arith, omega arith)
    go false = (omega arith, omega arith)

module _ (p : ℕ) where
  pub rows_nowhere : 2048 ≤ p → 0 ≡ rows_at p
  unfolding rows_at
  rows_nowhere h = rw (le-ltb p 2048 h)

  pub rows_plain : p < 2048 → p % 16 ≡ 0 → 2 ≡ rows_at p
  unfolding rows_at rows_of access_at
  rows_plain h e = rw (lt-ltb p 2048 h, eq-eqb (p % 16) 0 e)

  pub rows_applied : p < 2048 → (p % 16 ≡ 0 → ⊥) → 3 ≡ rows_at p
  unfolding rows_at rows_of access_at
  rows_applied h e = rw (lt-ltb p 2048 h, ne_eqb (p % 16) 0 e)

  pub rows_some : p < 2048 → 2 ≤ rows_at p
  unfolding rows_at
  rows_some h = rw (lt-ltb p 2048 h) (rows_few (access_at p)).0

  pub rows_most : rows_at p ≤ 3
  unfolding rows_at
  rows_most = go (ltb p 2048)
    where
      go : (b : Bool) → cond b (rows_of (access_at p)) 0 ≤ 3
      go true = (rows_few (access_at p)).1
      go false = omega arith
