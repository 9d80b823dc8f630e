-- Laws of what a reference is offered: the operations of the accesses that fit it, by their accesses and as words.
-- Assumes nothing.
use Prim.Native.Nat.{ℕ, ◌+◌, ◌^◌, ◌≤◌, ◌<◌}
use native.Mathlib.Nat.{zero-add, lt_of_le_of_lt}
use native.Mathlib.Omega.{arith}
use mathlib.Core.Path.{◌≡◌, refl, sym, subst, ◌∙◌}
use mathlib.Core.Bool.{Bool, true, false, ◌&&◌, ◌||◌, not, cond}
use mathlib.Core.List.{List}
use lib.ListN.{get_or}
use lib.Dec.{eqb, ltb}
use lib.Bits.{bit_and, bit_or, and_le_r, or_lt}
use borrow.Author.Tests.{ltb-true, ltb-false, lt-ltb, le-ltb, eqb-true, eq-eqb}
use Rattle.book.specs.Lists.{any, up_to}
use Rattle.book.specs.Sets.{has, WordOf}
use Rattle.book.specs.Head.{data_count}
use Rattle.book.specs.Rule.{action, in_leaf_set, reference_count}
use Rattle.book.proofs.Lists.{and_true, and_right, and_both, and_assoc, and_over, same_test}
use Rattle.book.proofs.Lists.{any_both}
use Rattle.book.proofs.Members.{has_or, has_and, single_in}
use Rattle.verdicts.specs.Actions.{channel_fits}
use Rattle.verdicts.specs.Accesses.{Access, Accesses, fits, fitting, held_by}
use Rattle.verdicts.specs.Inner.Words.{offers, offers_or_none, Offered}
use Rattle.verdicts.proofs.Quantifiers.{at_any, any_at, any_witness, any_two}
use Rattle.verdicts.proofs.Marks.{has_if, not_empty}
use Rattle.verdicts.proofs.Accesses.{access, leaf_set_below, fits_bounds, in_fitting, found_fitting}

-- Offers by accesses

module _ (head rule : List ℕ) (accesses : Accesses) (i : ℕ) where
  -- an offer by an access, and back
  pub in_offers :
      (k : ℕ) (x : Access)
      → accesses x ≡ true
      → fits head rule i x ≡ true
      → x.operation ≡ k
      → k < 16
      → offers head rule accesses i k ≡ true
  unfolding offers
  in_offers k x a f e l =
      in_fitting head rule accesses i (λ y. eqb y.operation k) x (rw e l) a f (eq-eqb x.operation k e)

  pub found_offers :
      (k : ℕ)
      → offers head rule accesses i k ≡ true
      → (x : Access) × (accesses x ≡ true) × (fits head rule i x ≡ true) × (x.operation ≡ k) × (k < 16)
  unfolding offers
  found_offers k h =
      let found = found_fitting head rule accesses i (λ y. eqb y.operation k) h in
      let e = eqb-true found.0.operation k found.3 in
      (found.0, found.1, found.2, e, rw e at found.4)

  -- a test of the operation alone, of the accesses that fit
  pub any_operation :
      (q : ℕ → Bool)
      → any (λ x. q x.operation) (fitting head rule accesses i)
      ≡ any (λ k. offers head rule accesses i k && q k) (up_to 16)
  any_operation q =
      same_test (any (λ x. q x.operation) (fitting head rule accesses i))
      (any (λ k. offers head rule accesses i k && q k) (up_to 16))
      (λ h.
      let f = found_fitting head rule accesses i (λ x. q x.operation) h in
      let k = f.0.operation in
      at_any (λ k. offers head rule accesses i k && q k) 16 k f.4
      (and_true (offers head rule accesses i k) (q k) (in_offers k f.0 f.1 f.2 refl f.4) f.3))
      (λ h.
      let w = any_at (λ k. offers head rule accesses i k && q k) 16 h in
      let b = and_both (offers head rule accesses i w.0) (q w.0) w.1 in
      let f = found_offers w.0 b.0 in
      in_fitting head rule accesses i (λ x. q x.operation) f.0 (rw f.3 f.4) f.1 f.2
      (rw f.3 b.1))

  -- by channel and leaf
  pub offers_by_leaf :
      (k : ℕ)
      → k < 16
      → offers head rule accesses i k
      ≡ any
      (λ s. any (λ d. accesses (access s d k) && fits head rule i (access s d k)) (up_to (data_count head)))
      (up_to 2)
  offers_by_leaf k small =
      same_test (offers head rule accesses i k) (any row (up_to 2))
      (λ h.
      let f = found_offers k h in
      let x = f.0 in
      let bounds = fits_bounds head rule i x f.2 in
      at_any row 2 x.channel bounds.0
      (at_any (passes x.channel) (data_count head) x.leaf bounds.1
      (subst (λ (m : ℕ). passes_with m x.channel x.leaf ≡ true) f.3
      (and_true (accesses x) (fits head rule i x) f.1 f.2))))
      (λ h.
      let s = any_at row 2 h in
      let d = any_at (passes s.0) (data_count head) s.1 in
      let x = access s.0 d.0 k in
      let b = and_both (accesses x) (fits head rule i x) d.1 in
      in_offers k x b.0 b.1 refl small)
    where
      passes_with : ℕ → ℕ → ℕ → Bool
      passes_with m s d = accesses (access s d m) && fits head rule i (access s d m)

      passes : ℕ → ℕ → Bool
      passes = passes_with k

      row : ℕ → Bool
      row s = any (passes s) (up_to (data_count head))

-- Absent references

module _ (head rule : List ℕ) (accesses : Accesses) (i k : ℕ) where
  pub offers_present :
      i < reference_count rule
      → offers head rule accesses i k ≡ offers_or_none head rule accesses i k
  unfolding offers_or_none
  offers_present l = rw (lt-ltb i (reference_count rule) l)

  pub offers_absent : reference_count rule ≤ i → offers_or_none head rule accesses i k ≡ eqb k 0
  unfolding offers_or_none
  offers_absent l = rw (le-ltb i (reference_count rule) l)

-- Offers by words

-- a reference is offered k where the words of k meet its leaf set, each in the channel that fits its action
module _ (head rule words : List ℕ) (i k : ℕ) (small : k < 16) where
  by : ℕ → ℕ → Bool
  by s d = held_by words (access s d k) && fits head rule i (access s d k)

  -- what the words of k hold of leaf d, in the channels that fit
  held : ℕ → Bool
  held d =
      has (get_or words k 0) d && channel_fits 0 (action rule i)
      || has (get_or words (16 + k) 0) d && channel_fits 1 (action rule i)

  by_word : (d : ℕ) → (by 0 d || by 1 d) ≡ (held d && in_leaf_set head rule i d)
  unfolding by held held_by fits
  by_word d =
      rw (
        lt-ltb k 16 small,
        zero-add k,
        ← (and_assoc (has (get_or words k 0) d) (channel_fits 0 (action rule i)) (in_leaf_set head rule i d)),
        ← (and_assoc (has (get_or words (16 + k) 0) d) (channel_fits 1 (action rule i)) (in_leaf_set head rule i d)),
        and_over,
      )

  module _ (leaves projected tested : ℕ) (p q : Bool)
      (few : data_count head ≤ 64) (word : leaves < 2 ^ 64) (covered : WordOf (in_leaf_set head rule i) leaves)
      (ep : p ≡ channel_fits 0 (action rule i)) (eq : q ≡ channel_fits 1 (action rule i))
      (first : projected ≡ cond p leaves 0) (second : tested ≡ cond q leaves 0) where
    abbrev met : ℕ
    met = bit_or (bit_and (get_or words k 0) projected) (bit_and (get_or words (16 + k) 0) tested)

    met_word : met < 2 ^ 64
    met_word =
        or_lt 64 (bit_and (get_or words k 0) projected) (bit_and (get_or words (16 + k) 0) tested)
        (lt_of_le_of_lt (and_le_r (get_or words k 0) projected) (rw first (part p)))
        (lt_of_le_of_lt (and_le_r (get_or words (16 + k) 0) tested) (rw second (part q)))
      where
        part : (b : Bool) → cond b leaves 0 < 2 ^ 64
        part true = word
        part false = omega arith

    met_leaf : (d : ℕ) → d < 64 → has met d ≡ (by 0 d || by 1 d)
    unfolding held
    met_leaf d l =
        rw (
          has_or,
          has_and (get_or words k 0) projected d,
          has_and (get_or words (16 + k) 0) tested d,
          has_if p leaves projected d first,
          has_if q leaves tested d second,
          covered d,
          lt-ltb d 64 l,
          ep,
          eq,
          ← (and_assoc (has (get_or words k 0) d) (channel_fits 0 (action rule i)) (in_leaf_set head rule i d)),
          ← (and_assoc (has (get_or words (16 + k) 0) d) (channel_fits 1 (action rule i)) (in_leaf_set head rule i d)),
          and_over,
        )
        (sym (by_word d))

    pub offers_met : not (eqb met 0) ≡ offers head rule (held_by words) i k
    unfolding by
    offers_met =
        not_empty 64 met met_word
        ∙ any_witness (has met) (λ d. by 0 d || by 1 d) 64 (data_count head)
        (λ d l h.
        let both : (by 0 d || by 1 d) ≡ true = sym (met_leaf d l) ∙ h in (
          leaf_set_below head rule i d (and_right (held d) (in_leaf_set head rule i d) (sym (by_word d) ∙ both)),
          both,
        ))
        (λ d l h. let below : d < 64 = omega arith in (below, met_leaf d below ∙ h))
        ∙ any_both (by 0) (by 1) (up_to (data_count head))
        ∙ sym (any_two (λ s. any (by s) (up_to (data_count head))))
        ∙ sym (offers_by_leaf head rule (held_by words) i k small)

-- Offers as a word

module _ (head rule : List ℕ) (accesses : Accesses) (i : ℕ) where
  pub offered_present :
      (word : ℕ)
      → i < reference_count rule
      → ((k : ℕ) → k < 16 → has word k ≡ offers head rule accesses i k)
      → ((k : ℕ) → 16 ≤ k → has word k ≡ false)
      → Offered head rule accesses i word
  unfolding offers_or_none
  offered_present word l below above k = rw (lt-ltb i (reference_count rule) l) (go (ltb k 16) refl)
    where
      go : (b : Bool) → ltb k 16 ≡ b → has word k ≡ (b && offers head rule accesses i k)
      go true h = below k (ltb-true k 16 h)
      go false h = above k (ltb-false k 16 h)

  pub offered_absent : reference_count rule ≤ i → Offered head rule accesses i 1
  unfolding offers_or_none
  offered_absent l k = rw (le-ltb i (reference_count rule) l) (single_in 16 0 k (omega arith))
