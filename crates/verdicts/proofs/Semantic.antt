-- The words of document 01 and the semantics of source document 000 say the same of a rule. Assumes nothing.
use Rattle.lineage.proofs.Words.{get_d_from}
use Prim.Native.Nat.{ℕ, zero, suc, ◌+◌, ◌≤◌, ◌<◌}
use native.Mathlib.Nat.{zero-add, add-zero}
use native.Mathlib.Omega.{arith}
use mathlib.Core.Path.{◌≡◌, refl, sym, ap, ◌∙◌}
use mathlib.Core.Logic.{inl, inr, ⊎_elim}
use mathlib.Core.Bool.{Bool, true, false, ◌&&◌, ◌||◌, false≢true}
use mathlib.Core.List.{List, [], ◌∷◌, map}
use lib.ListN.{get_or}
use lib.Dec.{eqb}
use borrow.Author.Tests.{not-false, eqb-true, eqb-false, eq-eqb}
use Rattle.book.specs.Lists.{any, from, up_to}
use Rattle.book.specs.Sets.{has}
use Rattle.book.specs.Rule.{covers_user, reference_count, restriction_count, restriction_mask}
use Rattle.book.proofs.Lists.{and_true, and_both, or_either, or_true, all_at, at_all, any_none}
use Rattle.verdicts.specs.Accesses.{Access, Accesses}
use Rattle.verdicts.specs.Inner.Words.{offers}
use Rattle.verdicts.specs.Breaking.{accepts, refuses_all, some_choice_refused, breaks}
use Rattle.verdicts.specs.Semantics.{Met, Applicable, SatisfiesRestriction, SatisfiesRule}
use Rattle.verdicts.proofs.Quantifiers.{at_any, any_at}
use Rattle.verdicts.proofs.Offers.{in_offers, found_offers}
use Rattle.verdicts.proofs.Choices.{some_chosen, choice_operations}

-- Choices and vectors

-- a vector of offered operations is a choice
pub vector_chosen :
    (n i : ℕ) (offer : ℕ → ℕ → Bool) (p : List ℕ → Bool) (vector : ℕ → ℕ)
    → ((j : ℕ) → i ≤ j → j < i + n → offer j (vector j) ≡ true)
    → ((j : ℕ) → i ≤ j → j < i + n → vector j < 16)
    → p (map vector (from i n)) ≡ true
    → some_chosen n i offer p ≡ true
unfolding some_chosen from
vector_chosen zero i offer p vector o l h = h
vector_chosen (suc n) i offer p vector o l h =
    at_any (λ k. offer i k && some_chosen n (suc i) offer (λ ks. p (k ∷ ks))) 16 (vector i)
    (l i (omega arith) (omega arith))
    (and_true (offer i (vector i)) (some_chosen n (suc i) offer (λ ks. p (vector i ∷ ks)))
    (o i (omega arith) (omega arith))
    (vector_chosen n (suc i) offer (λ ks. p (vector i ∷ ks)) vector
    (λ j lo hi. o j (omega arith) (omega arith))
    (λ j lo hi. l j (omega arith) (omega arith))
    h))

-- one more in front of a list of which each is right for its place
listed_at :
    (P : ℕ → ℕ → Type 0) (n i k : ℕ) (ks : List ℕ)
    → P i k
    → ((j : ℕ) → j < n → P (suc i + j) (get_or ks j 0))
    → (j : ℕ)
    → j < suc n
    → P (i + j) (get_or (k ∷ ks) j 0)
listed_at P n i k ks first rest zero l = rw add-zero first
listed_at P n i k ks first rest (suc j) l =
    let e : i + suc j ≡ suc i + j = omega arith in
    rw e (rest j (omega arith))

-- a choice is a list of offered operations
pub chosen_list :
    (n i : ℕ) (offer : ℕ → ℕ → Bool) (p : List ℕ → Bool)
    → some_chosen n i offer p ≡ true
    → (ks : List ℕ) × ((j : ℕ) → j < n → offer (i + j) (get_or ks j 0) ≡ true) × (p ks ≡ true)
unfolding some_chosen
chosen_list zero i offer p h = ([], λ j l. absurd (omega arith), h)
chosen_list (suc n) i offer p h =
    let found = any_at (λ k. offer i k && some_chosen n (suc i) offer (λ ks. p (k ∷ ks))) 16 h in
    let b =
    and_both (offer i found.0) (some_chosen n (suc i) offer (λ ks. p (found.0 ∷ ks))) found.1 in
    let rest = chosen_list n (suc i) offer (λ ks. p (found.0 ∷ ks)) b.1 in
    (found.0 ∷ rest.0, listed_at (λ j k. offer j k ≡ true) n i found.0 rest.0 b.0 rest.1, rest.2)

-- one of each as a list
pub listed :
    (P : ℕ → ℕ → Type 0) (n i : ℕ)
    → ((j : ℕ) → i ≤ j → j < i + n → (k : ℕ) × P j k)
    → (ks : List ℕ) × ((j : ℕ) → j < n → P (i + j) (get_or ks j 0))
listed P zero i h = ([], λ j l. absurd (omega arith))
listed P (suc n) i h =
    let first = h i (omega arith) (omega arith) in
    let rest = listed P n (suc i) (λ j lo hi. h j (omega arith) (omega arith)) in
    (first.0 ∷ rest.0, listed_at P n i first.0 rest.0 first.1 rest.1)

-- Restrictions

module _ (rule ks : List ℕ) (j : ℕ) where
  pub accepts_satisfies : accepts rule ks j ≡ true → SatisfiesRestriction rule (λ i. get_or ks i 0) j
  unfolding accepts
  accepts_satisfies h i l =
      ⊎_elim (λ (e : eqb (restriction_mask rule j i) 0 ≡ true). inl (eqb-true (restriction_mask rule j i) 0 e))
      (λ (e : has (restriction_mask rule j i) (get_or ks i 0) ≡ true). inr e)
      (or_either (eqb (restriction_mask rule j i) 0) (has (restriction_mask rule j i) (get_or ks i 0))
      (all_at (λ m. eqb (restriction_mask rule j m) 0 || has (restriction_mask rule j m) (get_or ks m 0))
      (reference_count rule) h i l))

  pub satisfies_accepts : SatisfiesRestriction rule (λ i. get_or ks i 0) j → accepts rule ks j ≡ true
  unfolding accepts
  satisfies_accepts s =
      at_all (λ m. eqb (restriction_mask rule j m) 0 || has (restriction_mask rule j m) (get_or ks m 0))
      (reference_count rule)
      (λ i l.
      ⊎_elim
      (λ (e : restriction_mask rule j i ≡ 0). rw (eq-eqb (restriction_mask rule j i) 0 e))
      (λ (e : has (restriction_mask rule j i) (get_or ks i 0) ≡ true).
      rw e (or_true (eqb (restriction_mask rule j i) 0)))
      (s i l))

module _ (rule ks : List ℕ) where
  pub refuses_each :
      refuses_all rule ks ≡ true → (j : ℕ) → j < restriction_count rule → accepts rule ks j ≡ true → ⊥
  unfolding refuses_all
  refuses_each h j l a = false≢true (rw (at_any (accepts rule ks) (restriction_count rule) j l a) at h)

  pub accepted_by :
      refuses_all rule ks ≡ false → (j : ℕ) × (accepts rule ks j ≡ true) × (j < restriction_count rule)
  unfolding refuses_all
  accepted_by h =
      any_at (accepts rule ks) (restriction_count rule)
      (not-false (any (accepts rule ks) (up_to (restriction_count rule))) h)

  pub forbids : restriction_count rule ≡ 0 → refuses_all rule ks ≡ true
  unfolding refuses_all
  forbids z = rw (z, any_none)

-- The rule

module _ (head rule : List ℕ) (user : ℕ) (query : Accesses) where
  chosen : Bool
  chosen = some_chosen (reference_count rule) 0 (offers head rule query) (refuses_all rule)

  breaks_chosen : breaks head rule user query ≡ (covers_user head rule user && chosen)
  unfolding breaks some_choice_refused chosen
  breaks_chosen =
      ap (λ (b : Bool). covers_user head rule user && b)
      (choice_operations head rule query (reference_count rule) 0 (refuses_all rule))

  -- the choice that a broken rule was broken by
  broken_choice :
      breaks head rule user query ≡ true
      → (covers_user head rule user ≡ true)
      × (ks : List ℕ)
      × ((i : ℕ) → i < reference_count rule → Met head rule query i (get_or ks i 0))
      × (refuses_all rule ks ≡ true)
  unfolding chosen
  broken_choice h =
      let b = and_both (covers_user head rule user) chosen (sym breaks_chosen ∙ h) in
      let c = chosen_list (reference_count rule) 0 (offers head rule query) (refuses_all rule) b.1 in (
        b.0,
        c.0,
        λ i l.
            let found = found_offers head rule query i (get_or c.0 i 0) (rw zero-add at (c.1 i l)) in
            record { access = found.0; asked = found.1; meant = found.2; operates = found.3 },
        c.2,
      )

  pub satisfies_not_broken : SatisfiesRule head rule user query → breaks head rule user query ≡ false
  satisfies_not_broken s = go (breaks head rule user query) refl
    where
      go : (b : Bool) → breaks head rule user query ≡ b → b ≡ false
      go false e = refl
      go true e =
          let c = broken_choice e in
          absurd
          (⊎_elim
          (λ (none : Applicable head rule user query → ⊥).
          none (record { covered = c.0; met = λ i l. (get_or c.1 i 0, c.2 i l) }))
          (λ each.
          let r = each.1 (λ i. get_or c.1 i 0) c.2 in
          refuses_each rule c.1 c.3 r.0 r.1 (satisfies_accepts rule c.1 r.0 r.2))
          s)

  module _ (low : (x : Access) → query x ≡ true → x.operation < 16) where
    -- a vector of operations with which the references are met, if refused, breaks the rule
    vector_breaks :
        covers_user head rule user ≡ true
        → (vector : ℕ → ℕ)
        → ((i : ℕ) → i < reference_count rule → Met head rule query i (vector i))
        → refuses_all rule (map vector (from 0 (reference_count rule))) ≡ true
        → breaks head rule user query ≡ true
    unfolding chosen
    vector_breaks u vector met r =
        breaks_chosen
        ∙ and_true (covers_user head rule user) chosen u
        (vector_chosen (reference_count rule) 0 (offers head rule query) (refuses_all rule) vector
        (λ i lo hi.
        let m : Met head rule query i (vector i) = met i (omega arith) in
        in_offers head rule query i (vector i) m.access m.asked m.meant m.operates (below i m))
        (λ i lo hi. below i (met i (omega arith))) r)
      where
        below : (i : ℕ) → Met head rule query i (vector i) → vector i < 16
        below i m = rw m.operates at (low m.access m.asked)

    pub not_broken_satisfies : breaks head rule user query ≡ false → SatisfiesRule head rule user query
    not_broken_satisfies h = covering (covers_user head rule user) refl
      where
        accepting :
            (u : covers_user head rule user ≡ true) (vector : ℕ → ℕ)
            → ((i : ℕ) → i < reference_count rule → Met head rule query i (vector i))
            → (b : Bool)
            → refuses_all rule (map vector (from 0 (reference_count rule))) ≡ b
            → (j : ℕ) × (j < restriction_count rule) × SatisfiesRestriction rule vector j
        accepting u vector met true e = absurd (false≢true (sym h ∙ vector_breaks u vector met e))
        accepting u vector met false e =
            let ks = map vector (from 0 (reference_count rule)) in
            let a = accepted_by rule ks e in (
              a.0,
              a.2,
              λ i l.
                  rw (get_d_from vector 0 (reference_count rule) i l, zero-add i)
                  at (accepts_satisfies rule ks a.0 a.1 i l),
            )

        forbidding :
            (b : Bool)
            → eqb (restriction_count rule) 0 ≡ b
            → covers_user head rule user ≡ true
            → SatisfiesRule head rule user query
        forbidding true e u =
            inl (λ a.
            let v = listed (Met head rule query) (reference_count rule) 0 (λ i lo hi. a.met i (omega arith)) in
            false≢true
            (sym h
            ∙ vector_breaks u (λ i. get_or v.0 i 0) (λ i l. rw zero-add at (v.1 i l))
            (forbids rule (map (λ i. get_or v.0 i 0) (from 0 (reference_count rule)))
            (eqb-true (restriction_count rule) 0 e))))
        forbidding false e u =
            inr (
              eqb-false (restriction_count rule) 0 e,
              λ vector met. accepting u vector met (refuses_all rule (map vector (from 0 (reference_count rule)))) refl,
            )

        covering : (b : Bool) → covers_user head rule user ≡ b → SatisfiesRule head rule user query
        covering false e = inl (λ a. false≢true (sym e ∙ a.covered))
        covering true e = forbidding (eqb (restriction_count rule) 0) refl e
