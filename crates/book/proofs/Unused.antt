-- "Every byte below 510 that no field covers is zero." The definitions say it by the gaps between the fields; that is
-- the sentence, byte by byte, of a head block and of a rule block. A byte past the end counts as 0. Assumes nothing.
use Prim.Native.Nat.{ℕ, zero, suc, ◌+◌, ◌*◌, ◌-◌, ◌/◌, ◌≤◌, ◌<◌}
use native.Mathlib.Nat.{zero-add}
use native.Mathlib.Omega.{arith}
use mathlib.Core.Path.{◌≡◌, refl, sym, ◌∙◌}
use mathlib.Core.Bool.{Bool, true, false, ◌&&◌, ◌||◌, cond}
use mathlib.Core.List.{List, [], ◌∷◌}
use lib.ListN.{get_or, take, drop}
use lib.Seq.{get_or-take, get_or-drop}
use lib.Dec.{eqb, ltb, leb}
use borrow.Author.Tests.{ltb-true, ltb-false, leb-true, eqb-true, eqb-false}
use borrow.Author.Tests.{lt-ltb, le-ltb, le-leb, eq-eqb, ne_eqb}
use Rattle.book.specs.Lists.{all, any, up_to}
use Rattle.book.specs.Head.{user_count, has_withdrawn, data_count, category_start, column_count, function_count}
use Rattle.book.specs.Rule.{reference_count, excluded_user_count, restriction_count, exclusion_count}
use Rattle.book.specs.Refusals.{zeros, rule_counts, reference_end, rule_zeros}
use Rattle.book.proofs.Lists.{and_true, and_left, and_right, and_both, or_rest, or_otherwise, or_neither}
use Rattle.book.proofs.Lists.{same_test, all_at, at_all, none_at, at_none}
use Rattle.book.proofs.Tests.{rule_bounds}

-- Zeros

zero_each : (l : List ℕ) → all (λ x. eqb x 0) l ≡ true → (i : ℕ) → get_or l i 0 ≡ 0
unfolding all
zero_each [] h i = refl
zero_each (x ∷ l) h zero = eqb-true x 0 (and_left (eqb x 0) (all (λ y. eqb y 0) l) h)
zero_each (x ∷ l) h (suc i) = zero_each l (and_right (eqb x 0) (all (λ y. eqb y 0) l) h) i

each_zero : (n : ℕ) (l : List ℕ) → ((i : ℕ) → i < n → get_or l i 0 ≡ 0) → all (λ x. eqb x 0) (take n l) ≡ true
unfolding all
each_zero zero l h = refl
each_zero (suc n) [] h = refl
each_zero (suc n) (x ∷ l) h =
    and_true (eqb x 0) (all (λ y. eqb y 0) (take n l)) (eq-eqb x 0 (h 0 (omega arith)))
    (each_zero n l (λ i q. h (suc i) (omega arith)))

module _ (bytes : List ℕ) (start end : ℕ) where
  pub zeros_at : zeros bytes start end ≡ true → (j : ℕ) → start ≤ j → j < end → get_or bytes j 0 ≡ 0
  unfolding zeros
  zeros_at h j low high =
      let e : start + (j - start) ≡ j = omega arith in
      rw e at
      (sym (get_or-drop start bytes (j - start) 0)
      ∙ sym (get_or-take (end - start) (drop start bytes) (j - start) 0 (omega arith))
      ∙ zero_each (take (end - start) (drop start bytes)) h (j - start))

  pub at_zeros : ((j : ℕ) → start ≤ j → j < end → get_or bytes j 0 ≡ 0) → zeros bytes start end ≡ true
  unfolding zeros
  at_zeros h =
      each_zero (end - start) (drop start bytes)
      (λ i q. get_or-drop start bytes i 0 ∙ h (start + i) (omega arith) (omega arith))

-- Spans of bytes

-- byte j is one of those from `start` on and below `end`
unfoldable pub inside : ℕ → ℕ → ℕ → Bool
inside start end j = leb start j && ltb j end

inside_false : (start end j : ℕ) → inside start end j ≡ false → start ≤ j → end ≤ j
unfolding inside
inside_false start end j h low =
    let t : leb start j ≡ true = le-leb start j low in
    ltb-false j end (rw t at h)

false_inside : (start end j : ℕ) → (start ≤ j → end ≤ j) → inside start end j ≡ false
unfolding inside
false_inside start end j h = go (leb start j) refl
  where
    go : (b : Bool) → leb start j ≡ b → (b && ltb j end) ≡ false
    go true e = le-ltb j end (h (leb-true start j e))
    go false e = refl

-- The head blocks

-- a block that starts at `base` of the head and uses its first `used` bytes
pub head_unused_zero :
    (head : List ℕ) (base used : ℕ)
    → zeros head (base + used) (base + 510)
    ≡ all (λ j. ltb j used || eqb (get_or head (base + j) 0) 0) (up_to 510)
head_unused_zero head base used =
    same_test (zeros head (base + used) (base + 510)) (all test (up_to 510))
    (λ h.
    at_all test 510
    (λ j l.
    or_otherwise (ltb j used) (eqb (get_or head (base + j) 0) 0)
    (λ free.
    let past = ltb-false j used free in
    eq-eqb (get_or head (base + j) 0) 0
    (zeros_at head (base + used) (base + 510) h (base + j) (omega arith) (omega arith)))))
    (λ h.
    at_zeros head (base + used) (base + 510)
    (λ j low high.
    let e : base + (j - base) ≡ j = omega arith in
    rw e at
    (eqb-true (get_or head (base + (j - base)) 0) 0
    (or_rest (ltb (j - base) used) (eqb (get_or head (base + (j - base)) 0) 0)
    (all_at test 510 h (j - base) (omega arith)) (le-ltb (j - base) used (omega arith))))))
  where
    test : ℕ → Bool
    test j = ltb j used || eqb (get_or head (base + j) 0) 0

start_used : (b : Bool) (n : ℕ) → cond b (514 + 5 * n) (514 + 3 * n) ≡ 512 + cond b (2 + 5 * n) (2 + 3 * n)
start_used true n = omega arith
start_used false n = omega arith

module _ (head : List ℕ) where
  pub users_unused_zero :
      zeros head (2 + user_count head) 510
      ≡ all (λ j. ltb j (2 + user_count head) || eqb (get_or head j 0) 0) (up_to 510)
  users_unused_zero = simp zero-add at (head_unused_zero head 0 (2 + user_count head))

  pub data_unused_zero :
      zeros head (category_start head (data_count head)) 1022
      ≡ all
      (λ j. ltb j (cond (has_withdrawn head) (2 + 5 * data_count head) (2 + 3 * data_count head)) || eqb (get_or head (512 + j) 0) 0)
      (up_to 510)
  unfolding category_start
  data_unused_zero =
      rw (← (start_used (has_withdrawn head) (data_count head)))
      at (head_unused_zero head 512 (cond (has_withdrawn head) (2 + 5 * data_count head) (2 + 3 * data_count head)))

  pub columns_unused_zero :
      zeros head (1026 + column_count head) 1534
      ≡ all (λ j. ltb j (2 + column_count head) || eqb (get_or head (1024 + j) 0) 0) (up_to 510)
  columns_unused_zero =
      let e : 1024 + (2 + column_count head) ≡ 1026 + column_count head = omega arith in
      rw e at (head_unused_zero head 1024 (2 + column_count head))

  pub functions_unused_zero :
      zeros head (1538 + function_count head) 2046
      ≡ all (λ j. ltb j (2 + function_count head) || eqb (get_or head (1536 + j) 0) 0) (up_to 510)
  functions_unused_zero =
      let e : 1536 + (2 + function_count head) ≡ 1538 + function_count head = omega arith in
      rw e at (head_unused_zero head 1536 (2 + function_count head))

-- A rule block

-- byte j is in a field: the first four bytes, the list of excluded users, the number of restrictions, a reference with
-- the list of its excluded categories, or the restrictions
unfoldable pub in_field : List ℕ → ℕ → Bool
in_field rule j =
    ltb j 4
    || (inside 4 (4 + excluded_user_count rule) j
    || (eqb j 8
    || (any (λ i. inside (16 + 16 * i) (19 + 16 * i + exclusion_count rule i) j) (up_to (reference_count rule))
    || inside 64 (64 + 6 * restriction_count rule) j)))

-- no field covers byte j
record Free (rule : List ℕ) (j : ℕ) : Type 0 where
  users : 4 + excluded_user_count rule ≤ j
  count : j ≡ 8 → ⊥
  references : (i : ℕ) → i < reference_count rule → 16 + 16 * i ≤ j → 19 + 16 * i + exclusion_count rule i ≤ j
  masks : 64 ≤ j → 64 + 6 * restriction_count rule ≤ j

module _ (rule : List ℕ) where
  reference : ℕ → ℕ → Bool
  reference j i = inside (16 + 16 * i) (19 + 16 * i + exclusion_count rule i) j

  users_in : ℕ → Bool
  users_in j = inside 4 (4 + excluded_user_count rule) j

  references_in : ℕ → Bool
  references_in j = any (reference j) (up_to (reference_count rule))

  masks_in : ℕ → Bool
  masks_in j = inside 64 (64 + 6 * restriction_count rule) j

  free : (j : ℕ) → in_field rule j ≡ false → Free rule j
  unfolding in_field reference users_in references_in masks_in
  free j h =
      let a = or_neither (ltb j 4) (users_in j || (eqb j 8 || (references_in j || masks_in j))) h in
      let b = or_neither (users_in j) (eqb j 8 || (references_in j || masks_in j)) a.1 in
      let d = or_neither (eqb j 8) (references_in j || masks_in j) b.1 in
      let e = or_neither (references_in j) (masks_in j) d.1 in
      record {
        users = inside_false 4 (4 + excluded_user_count rule) j b.0 (ltb-false j 4 a.0);
        count = eqb-false j 8 d.0;
        references =
            λ i l.
            inside_false (16 + 16 * i) (19 + 16 * i + exclusion_count rule i) j
            (none_at (reference j) (reference_count rule) e.0 i l);
        masks = inside_false 64 (64 + 6 * restriction_count rule) j e.1;
      }

  no_field : (j : ℕ) → Free rule j → in_field rule j ≡ false
  unfolding in_field reference
  no_field j f =
      let past : 4 + excluded_user_count rule ≤ j = f.users in
      rw (
        le-ltb j 4 (omega arith),
        false_inside 4 (4 + excluded_user_count rule) j (λ low. past),
        ne_eqb j 8 f.count,
        at_none (reference j) (reference_count rule)
            (λ i l. false_inside (16 + 16 * i) (19 + 16 * i + exclusion_count rule i) j (f.references i l)),
        false_inside 64 (64 + 6 * restriction_count rule) j f.masks,
      )

  -- the end of a slot, against a byte of it
  end_present : (i : ℕ) → i < reference_count rule → reference_end rule i ≡ 19 + 16 * i + exclusion_count rule i
  unfolding reference_end
  end_present i l = rw (lt-ltb i (reference_count rule) l)

  end_absent : (i : ℕ) → reference_count rule ≤ i → reference_end rule i ≡ 16 + 16 * i
  unfolding reference_end
  end_absent i l = rw (le-ltb i (reference_count rule) l)

  end_past : (j i : ℕ) → Free rule j → 16 + 16 * i ≤ j → reference_end rule i ≤ j
  end_past j i f low = go (ltb i (reference_count rule)) refl
    where
      go : (b : Bool) → ltb i (reference_count rule) ≡ b → reference_end rule i ≤ j
      go true e =
          let l = ltb-true i (reference_count rule) e in
          rw (end_present i l) (f.references i l low)
      go false e = rw (end_absent i (ltb-false i (reference_count rule) e)) low

  end_low : (i : ℕ) → 16 + 16 * i ≤ reference_end rule i
  end_low i = go (ltb i (reference_count rule)) refl
    where
      go : (b : Bool) → ltb i (reference_count rule) ≡ b → 16 + 16 * i ≤ reference_end rule i
      go true e = rw (end_present i (ltb-true i (reference_count rule) e)) (omega arith)
      go false e = rw (end_absent i (ltb-false i (reference_count rule) e)) (omega arith)

-- where the counts hold, no field covers a byte of a gap
module _ (rule : List ℕ) (counts : rule_counts rule ≡ true) where
  gap_users : (j : ℕ) → 4 + excluded_user_count rule ≤ j → j < 8 → Free rule j
  gap_users j low high =
      record {
        users = low;
        count = λ e. omega arith;
        references = λ i l at. absurd (omega arith);
        masks = λ at. absurd (omega arith);
      }

  gap_start : (j : ℕ) → 9 ≤ j → j < 16 → Free rule j
  gap_start j low high =
      let users = (rule_bounds rule counts).2 in
      record {
        users = omega arith;
        count = λ e. omega arith;
        references = λ i l at. absurd (omega arith);
        masks = λ at. absurd (omega arith);
      }

  gap_slot : (s : ℕ) → s < 3 → (j : ℕ) → reference_end rule s ≤ j → j < 32 + 16 * s → Free rule j
  gap_slot s three j low high =
      let users = (rule_bounds rule counts).2 in
      let from = end_low rule s in
      record {
        users = omega arith;
        count = λ e. omega arith;
        references = λ i l at. go i l at (eqb i s) refl;
        masks = λ at. absurd (omega arith);
      }
    where
      go :
          (i : ℕ)
          → i < reference_count rule
          → 16 + 16 * i ≤ j
          → (b : Bool)
          → eqb i s ≡ b
          → 19 + 16 * i + exclusion_count rule i ≤ j
      go i l at true e =
          let same : s ≡ i = sym (eqb-true i s e) in
          rw (← (end_present rule i l)) (rw same at low)
      go i l at false e =
          let other = eqb-false i s e in
          let few = (rule_bounds rule counts).4 i l in
          let from = end_low rule s in
          omega arith

  gap_masks : (j : ℕ) → 64 + 6 * restriction_count rule ≤ j → Free rule j
  gap_masks j low =
      let users = (rule_bounds rule counts).2 in
      let references = (rule_bounds rule counts).1 in
      record {
        users = omega arith;
        count = λ e. omega arith;
        references = λ i l at. let few = (rule_bounds rule counts).4 i l in omega arith;
        masks = λ at. low;
      }

module _ (rule : List ℕ) where
  slot : ℕ → Bool
  slot i = zeros rule (reference_end rule i) (32 + 16 * i)

  slots : Bool
  slots = all slot (up_to 3)

  last : Bool
  last = zeros rule (64 + 6 * restriction_count rule) 510

  zeros_free : rule_zeros rule ≡ true → (j : ℕ) → j < 510 → Free rule j → get_or rule j 0 ≡ 0
  unfolding rule_zeros slot slots last
  zeros_free h j below f =
      let a = and_both (zeros rule (4 + excluded_user_count rule) 8) (zeros rule 9 16 && (slots && last)) h in
      let b = and_both (zeros rule 9 16) (slots && last) a.1 in
      let d = and_both slots last b.1 in
      go a.0 b.0 d.0 d.1 (ltb j 8) (ltb j 16) (ltb j 64) refl refl refl
    where
      go :
          zeros rule (4 + excluded_user_count rule) 8 ≡ true
          → zeros rule 9 16 ≡ true
          → slots ≡ true
          → last ≡ true
          → (p q r : Bool)
          → ltb j 8 ≡ p
          → ltb j 16 ≡ q
          → ltb j 64 ≡ r
          → get_or rule j 0 ≡ 0
      go first second third fourth true q r e8 e16 e64 =
          zeros_at rule (4 + excluded_user_count rule) 8 first j f.users (ltb-true j 8 e8)
      go first second third fourth false true r e8 e16 e64 =
          let low = ltb-false j 8 e8 in
          let high = ltb-true j 16 e16 in
          let other : j ≡ 8 → ⊥ = f.count in
          zeros_at rule 9 16 second j (omega arith) high
      go first second third fourth false false true e8 e16 e64 =
          let low = ltb-false j 16 e16 in
          let high = ltb-true j 64 e64 in
          zeros_at rule (reference_end rule ((j - 16) / 16)) (32 + 16 * ((j - 16) / 16))
          (all_at slot 3 third ((j - 16) / 16) (omega arith)) j
          (end_past rule j ((j - 16) / 16) f (omega arith)) (omega arith)
      go first second third fourth false false false e8 e16 e64 =
          zeros_at rule (64 + 6 * restriction_count rule) 510 fourth j (f.masks (ltb-false j 64 e64)) below

  free_zeros :
      rule_counts rule ≡ true → ((j : ℕ) → j < 510 → Free rule j → get_or rule j 0 ≡ 0) → rule_zeros rule ≡ true
  unfolding rule_zeros slot slots last
  free_zeros counts h =
      and_true (zeros rule (4 + excluded_user_count rule) 8) (zeros rule 9 16 && (slots && last))
      (at_zeros rule (4 + excluded_user_count rule) 8 (λ j l u. h j (omega arith) (gap_users rule counts j l u)))
      (and_true (zeros rule 9 16) (slots && last)
      (at_zeros rule 9 16 (λ j l u. h j (omega arith) (gap_start rule counts j l u)))
      (and_true slots last
      (at_all slot 3
      (λ i three.
      at_zeros rule (reference_end rule i) (32 + 16 * i)
      (λ j l u. h j (omega arith) (gap_slot rule counts i three j l u))))
      (at_zeros rule (64 + 6 * restriction_count rule) 510 (λ j l u. h j u (gap_masks rule counts j l)))))

-- a rule block whose counts hold
pub unused_zero :
    (rule : List ℕ)
    → rule_counts rule ≡ true
    → rule_zeros rule ≡ all (λ j. in_field rule j || eqb (get_or rule j 0) 0) (up_to 510)
unused_zero rule counts =
    same_test (rule_zeros rule) (all test (up_to 510))
    (λ h.
    at_all test 510
    (λ j l.
    or_otherwise (in_field rule j) (eqb (get_or rule j 0) 0)
    (λ out. eq-eqb (get_or rule j 0) 0 (zeros_free rule h j l (free rule j out)))))
    (λ h.
    free_zeros rule counts
    (λ j l f.
    eqb-true (get_or rule j 0) 0
    (or_rest (in_field rule j) (eqb (get_or rule j 0) 0) (all_at test 510 h j l) (no_field rule j f))))
  where
    test : ℕ → Bool
    test j = in_field rule j || eqb (get_or rule j 0) 0
