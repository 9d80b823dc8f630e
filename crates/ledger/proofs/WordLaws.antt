-- Laws of words by their index: a user's words, what is joined to them, and what they hold. Assumes nothing.
use Prim.Native.Nat.{ℕ, ◌+◌, ◌*◌, ◌-◌, ◌/◌, ◌%◌, ◌≤◌, ◌<◌, min}
use native.Mathlib.Nat.{zero-add}
use native.Mathlib.Omega.{arith}
use mathlib.Core.Path.{◌≡◌, refl, sym, ap, subst, ◌∙◌}
use mathlib.Core.Logic.{◌⊎◌}
use mathlib.Core.Bool.{Bool, true, false, cond}
use mathlib.Core.List.{List, map, ◌++◌}
use lib.ListN.{length, get_or, get_or-append, replicate, take, drop, length-replicate, get_or-eq_default}
use lib.Seq.{ext_get_or}
use lib.Bits.{bit_or, or_zero_r}
use lib.Dec.{eqb, ltb}
use borrow.Author.Tests.{eq-eqb, ne_eqb, eqb-true, eqb-false, ltb-true, ltb-false}
use Rattle.std.proofs.lemmas.List.{get_or-append_right, get_or-take, get_or-drop, length-append, length-drop, length-take-le}
use Rattle.book.specs.Lists.{up_to}
use Rattle.lineage.specs.Accesses.{access_words, is_access, word_of}
use Rattle.lineage.proofs.Steps.{get_d_zeros}
use Rattle.lineage.proofs.Words.{get_d_from, length_from}
use Rattle.verdicts.specs.Accesses.{Access, held_by, union}
use Rattle.verdicts.proofs.Held.{held_union}
use Rattle.ledger.specs.Ledger.{admitted_for, joined_for, words_of}
use Rattle.ledger.specs.Places.{written_at}
use Rattle.ledger.specs.Inner.Steps.{joined_words}

-- A list by its elements

module _ (g : ℕ → ℕ) (n : ℕ) where
  mapped_at : (j : ℕ) → j < n → get_or (map g (up_to n)) j 0 ≡ g j
  unfolding up_to
  mapped_at j h = get_d_from g 0 n j h ∙ ap g (zero-add j)

  mapped_length : length (map g (up_to n)) ≡ n
  unfolding up_to
  mapped_length = length_from g 0 n

pub joined_at : (a b : List ℕ) (w : ℕ) → w < 32 → get_or (joined_words a b) w 0 ≡ bit_or (get_or a w 0) (get_or b w 0)
unfolding joined_words
joined_at a b w l = mapped_at (λ v. bit_or (get_or a v 0) (get_or b v 0)) 32 w l

joined_words_length : (a b : List ℕ) → length (joined_words a b) ≡ 32
unfolding joined_words
joined_words_length a b = mapped_length (λ v. bit_or (get_or a v 0) (get_or b v 0)) 32

-- Words joined to a user's, where the list is: the user's words are joined, all others are as they were

module _
    (user : ℕ)
    (words old new : List ℕ)
    (size : length new ≡ length old)
    (own :
    (w : ℕ)
    → w < 32
    → 32 * user + w < length old
    → get_or new (32 * user + w) 0 ≡ bit_or (get_or old (32 * user + w) 0) (get_or words w 0))
    (others : (j : ℕ) → (j < 32 * user) ⊎ (32 * user + 32 ≤ j) → get_or new j 0 ≡ get_or old j 0)
  where
    word_in_place :
        (j : ℕ)
        → j < length old
        → (b : Bool)
        → eqb (j / 32) user ≡ b
        → get_or new j 0 ≡ bit_or (get_or old j 0) (cond b (get_or words (j % 32) 0) 0)
    word_in_place j low true e =
        let q : j / 32 ≡ user = eqb-true (j / 32) user e in
        let at : 32 * user + j % 32 ≡ j = omega arith in
        subst (λ i. get_or new i 0 ≡ bit_or (get_or old i 0) (get_or words (j % 32) 0)) at
        (own (j % 32) (omega arith) (omega arith))
    word_in_place j low false e =
        let q : j / 32 ≡ user → ⊥ = eqb-false (j / 32) user e in
        rw or_zero_r (others j (grind arith))

    pub joined_in_place : new ≡ joined_for old user words
    unfolding joined_for
    joined_in_place =
        ext_get_or 0 new (map g (up_to (length old))) (size ∙ sym (mapped_length g (length old)))
        (λ j l.
        let m : j < length old = rw size at l in
        word_in_place j m (eqb (j / 32) user) refl ∙ sym (mapped_at g (length old) j m))
      where
        g : ℕ → ℕ
        g j = bit_or (get_or old j 0) (cond (eqb (j / 32) user) (get_or words (j % 32) 0) 0)

-- What is held

words_at : (ledger : List ℕ) (user w : ℕ) → w < 32 → get_or (words_of ledger user) w 0 ≡ get_or ledger (32 * user + w) 0
unfolding words_of
words_at ledger user w l = mapped_at (λ v. get_or ledger (32 * user + v) 0) 32 w l

words_length : (ledger : List ℕ) (user : ℕ) → length (words_of ledger user) ≡ 32
unfolding words_of
words_length ledger user = mapped_length (λ v. get_or ledger (32 * user + v) 0) 32

-- 32 words that agree one by one
words_same :
    (a b : List ℕ)
    → length a ≡ 32
    → length b ≡ 32
    → ((w : ℕ) → w < 32 → get_or a w 0 ≡ get_or b w 0)
    → a ≡ b
words_same a b size size' at = ext_get_or 0 a b (size ∙ sym size') (λ w l. at w (omega (arith, size, l)))

-- 32 words that are those of a user one by one
pub words_are :
    (ledger words : List ℕ) (user : ℕ)
    → length words ≡ 32
    → ((w : ℕ) → w < 32 → get_or words w 0 ≡ get_or ledger (32 * user + w) 0)
    → words ≡ words_of ledger user
words_are ledger words user size at =
    words_same words (words_of ledger user) size (words_length ledger user)
    (λ w l. at w l ∙ sym (words_at ledger user w l))

-- as many words of a user as there are, and zeros for the others
pub words_front :
    (ledger own front : List ℕ) (user n : ℕ)
    → own ≡ drop (32 * user) ledger
    → front ≡ take n own
    → n ≡ min (length own) 32
    → front ++ drop n (replicate 32 0) ≡ words_of ledger user
words_front ledger own front user n eo ef en =
    let long : length front ≡ n = rw ef (length-take-le n own (omega arith)) in
    let zeros : List ℕ = replicate 32 0 in
    let rest : length (drop n zeros) ≡ 32 - n = length-drop n zeros in
    words_are ledger (front ++ drop n (replicate 32 0)) user
    (length-append front (drop n (replicate 32 0)) ∙ omega (arith, long, rest))
    (λ w l. at long w l (ltb w n) refl)
  where
    word : (w : ℕ) → get_or own w 0 ≡ get_or ledger (32 * user + w) 0
    word w = rw eo (get_or-drop (32 * user) ledger w 0)

    at :
        length front ≡ n
        → (w : ℕ)
        → w < 32
        → (b : Bool)
        → ltb w n ≡ b
        → get_or (front ++ drop n (replicate 32 0)) w 0 ≡ get_or ledger (32 * user + w) 0
    at long w m true e =
        let l : w < n = ltb-true w n e in
        get_or-append front (drop n (replicate 32 0)) 0 w (omega (arith, long))
        ∙ ap (λ (f : List ℕ). get_or f w 0) ef
        ∙ get_or-take n own w 0 l
        ∙ word w
    at long w m false e =
        let h : n ≤ w = ltb-false w n e in
        get_or-append_right front (drop n (replicate 32 0)) n w 0 long h
        ∙ get_or-drop n (replicate 32 0) (w - n) 0
        ∙ get_d_zeros 32 (n + (w - n))
        ∙ sym (sym (word w) ∙ get_or-eq_default own 0 (omega (arith, en)))

-- words in the stead of those of a place

module _ (words : List ℕ) (p : ℕ) (new : List ℕ) where
  pub written_length : length (written_at words p new) ≡ length words
  unfolding written_at
  written_length = mapped_length (λ j. cond (eqb (j / 32) p) (get_or new (j % 32) 0) (get_or words j 0)) (length words)

  written_word :
      (j : ℕ)
      → j < length words
      → get_or (written_at words p new) j 0 ≡ cond (eqb (j / 32) p) (get_or new (j % 32) 0) (get_or words j 0)
  unfolding written_at
  written_word j l =
      mapped_at (λ j. cond (eqb (j / 32) p) (get_or new (j % 32) 0) (get_or words j 0)) (length words) j l

  -- those words written over
  pub written_in_place :
      (a k : ℕ)
      → a ≡ 32 * p
      → k ≡ 32
      → length new ≡ 32
      → a + 32 ≤ length words
      → take a words ++ (new ++ drop k (drop a words)) ≡ written_at words p new
  written_in_place a k start whole size room =
      let rest : length (drop k (drop a words)) ≡ length words - a - k =
      length-drop k (drop a words) ∙ rw (length-drop a words) in
      let tail : length (new ++ drop k (drop a words)) ≡ length words - a =
      length-append new (drop k (drop a words)) ∙ omega (arith, rest, size) in
      let front : length (take a words) ≡ a = length-take-le a words (omega arith) in
      let long : length (take a words ++ (new ++ drop k (drop a words))) ≡ length words =
      length-append (take a words) (new ++ drop k (drop a words)) ∙ omega (arith, front, tail) in
      ext_get_or 0 (take a words ++ (new ++ drop k (drop a words))) (written_at words p new) (long ∙ sym written_length)
      (λ j l.
      let m : j < length words = omega (arith, long, l) in
      at front j (ltb j a) refl (ltb j (a + 32)) refl ∙ sym (written_word j m))
    where
      at :
          length (take a words) ≡ a
          → (j : ℕ)
          → (b : Bool)
          → ltb j a ≡ b
          → (c : Bool)
          → ltb j (a + 32) ≡ c
          → get_or (take a words ++ (new ++ drop k (drop a words))) j 0
          ≡ cond (eqb (j / 32) p) (get_or new (j % 32) 0) (get_or words j 0)
      at front j true e c f =
          let l : j < a = ltb-true j a e in
          get_or-append (take a words) (new ++ drop k (drop a words)) 0 j (omega (arith, front))
          ∙ get_or-take a words j 0 l
          ∙ rw (ne_eqb (j / 32) p (λ z. omega arith))
      at front j false e true f =
          let lo : a ≤ j = ltb-false j a e in
          let hi : j < a + 32 = ltb-true j (a + 32) f in
          let q : j / 32 ≡ p = omega arith in
          let r : j - a ≡ j % 32 = omega arith in
          get_or-append_right (take a words) (new ++ drop k (drop a words)) a j 0 front lo
          ∙ get_or-append new (drop k (drop a words)) 0 (j - a) (omega arith)
          ∙ rw (r, eq-eqb (j / 32) p q)
      at front j false e false f =
          let hi : a + 32 ≤ j = ltb-false j (a + 32) f in
          let z : a + (k + (j - a - 32)) ≡ j = omega arith in
          get_or-append_right (take a words) (new ++ drop k (drop a words)) a j 0 front (omega arith)
          ∙ get_or-append_right new (drop k (drop a words)) 32 (j - a) 0 size (omega arith)
          ∙ get_or-drop k (drop a words) (j - a - 32) 0
          ∙ get_or-drop a words (k + (j - a - 32)) 0
          ∙ rw (z, ne_eqb (j / 32) p (λ z. omega arith))

  pub written_own : length new ≡ 32 → 32 * p + 32 ≤ length words → words_of (written_at words p new) p ≡ new
  written_own size room =
      words_same (words_of (written_at words p new) p) new (words_length (written_at words p new) p) size
      (λ w l.
      let q : (32 * p + w) / 32 ≡ p = omega arith in
      let r : (32 * p + w) % 32 ≡ w = omega arith in
      words_at (written_at words p new) p w l
      ∙ written_word (32 * p + w) (omega arith)
      ∙ rw (r, eq-eqb ((32 * p + w) / 32) p q))

  pub written_other :
      (q : ℕ)
      → (q ≡ p → ⊥)
      → 32 * q + 32 ≤ length words
      → words_of (written_at words p new) q ≡ words_of words q
  written_other q apart room =
      words_same (words_of (written_at words p new) q) (words_of words q) (words_length (written_at words p new) q)
      (words_length words q)
      (λ w l.
      words_at (written_at words p new) q w l
      ∙ written_word (32 * q + w) (omega arith)
      ∙ rw (ne_eqb ((32 * q + w) / 32) p (λ z. apart (omega arith))) (sym (words_at words q w l)))

pub words_zero : (n user w : ℕ) → w < 32 → ◌≡◌ {A = ℕ} (get_or (words_of (replicate n 0) user) w 0) 0
words_zero n user w l = words_at (replicate n 0) user w l ∙ get_d_zeros n (32 * user + w)

pub zero_words : (n user : ℕ) → words_of (replicate n 0) user ≡ replicate 32 0
zero_words n user =
    words_same (words_of (replicate n 0) user) (replicate 32 0) (words_length (replicate n 0) user)
    (length-replicate {A = ℕ} 32 0) (λ w l. words_zero n user w l ∙ sym (get_d_zeros 32 w))

module _ (ledger : List ℕ) (user : ℕ) (words : List ℕ) where
  pub joined_length : length (joined_for ledger user words) ≡ length ledger
  unfolding joined_for
  joined_length =
      mapped_length (λ j. bit_or (get_or ledger j 0) (cond (eqb (j / 32) user) (get_or words (j % 32) 0) 0)) (length ledger)

  joined_word :
      (j : ℕ)
      → j < length ledger
      → get_or (joined_for ledger user words) j 0
      ≡ bit_or (get_or ledger j 0) (cond (eqb (j / 32) user) (get_or words (j % 32) 0) 0)
  unfolding joined_for
  joined_word j l =
      mapped_at (λ j. bit_or (get_or ledger j 0) (cond (eqb (j / 32) user) (get_or words (j % 32) 0) 0)) (length ledger) j l

  -- no other word changes
  pub other_word : (j : ℕ) → (j / 32 ≡ user → ⊥) → get_or (joined_for ledger user words) j 0 ≡ get_or ledger j 0
  other_word j n = go (ltb j (length ledger)) refl
    where
      go : (b : Bool) → ltb j (length ledger) ≡ b → get_or (joined_for ledger user words) j 0 ≡ get_or ledger j 0
      go true e =
          joined_word j (ltb-true j (length ledger) e)
          ∙ rw (ne_eqb (j / 32) user n) (or_zero_r (get_or ledger j 0))
      go false e =
          let past : length ledger ≤ j = ltb-false j (length ledger) e in
          get_or-eq_default (joined_for ledger user words) 0 (rw joined_length past)
          ∙ sym (get_or-eq_default ledger 0 past)

  -- the user has the words joined
  pub own_words :
      32 * user + 32 ≤ length ledger
      → words_of (joined_for ledger user words) user ≡ joined_words (words_of ledger user) words
  own_words room =
      words_same (words_of (joined_for ledger user words) user) (joined_words (words_of ledger user) words)
      (words_length (joined_for ledger user words) user) (joined_words_length (words_of ledger user) words)
      (λ w l.
      let q : (32 * user + w) / 32 ≡ user = omega arith in
      let p : (32 * user + w) % 32 ≡ w = omega arith in
      words_at (joined_for ledger user words) user w l
      ∙ joined_word (32 * user + w) (omega arith)
      ∙ rw (p, eq-eqb ((32 * user + w) / 32) user q)
      (sym (joined_at (words_of ledger user) words w l ∙ rw (words_at ledger user w l))))

  -- any other user those he had
  pub other_words :
      (other : ℕ) → (other ≡ user → ⊥) → words_of (joined_for ledger user words) other ≡ words_of ledger other
  other_words other apart =
      words_same (words_of (joined_for ledger user words) other) (words_of ledger other)
      (words_length (joined_for ledger user words) other) (words_length ledger other)
      (λ w l.
      words_at (joined_for ledger user words) other w l
      ∙ other_word (32 * other + w) (λ z. apart (omega arith))
      ∙ sym (words_at ledger other w l))

  -- the user holds the union
  pub held_own :
      32 * user + 32 ≤ length ledger
      → (x : Access)
      → admitted_for (joined_for ledger user words) user x ≡ union (admitted_for ledger user) (held_by words) x
  unfolding admitted_for
  held_own room x =
      rw (own_words room)
      (held_union (words_of ledger user) words (joined_words (words_of ledger user) words)
      (joined_at (words_of ledger user) words) x)

  -- any other user what he held
  pub held_other :
      (other : ℕ)
      → (other ≡ user → ⊥)
      → (x : Access)
      → admitted_for (joined_for ledger user words) other x ≡ admitted_for ledger other x
  unfolding admitted_for
  held_other other apart x = rw (other_words other apart)

-- a plan has 32 words
pub access_length : (head plan : List ℕ) → length (access_words head plan) ≡ 32
unfolding access_words
access_length head plan = mapped_length (λ w. word_of (λ d. is_access head plan (w / 16) d (w % 16)) (up_to 64)) 32
