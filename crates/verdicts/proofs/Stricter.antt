-- What document 02's N5 does to verdicts: a rule that a user and a plan break by document 01's lineage they break by
-- N5's too, for every accepted book. No plan passes that did not. Assumes nothing.
use Prim.Native.Nat.{ℕ, zero, suc, ◌<◌}
use native.Mathlib.Omega.{arith}
use mathlib.Core.Path.{◌≡◌, refl, sym, ◌∙◌}
use mathlib.Core.Logic.{⊎_elim}
use mathlib.Core.Bool.{Bool, true, false, ◌&&◌, ◌||◌, not, false≢true}
use mathlib.Core.List.{List, ◌∷◌}
use lib.ListN.{length, get_or, set, length-set, get_or-eq_default}
use lib.Seq.{get_or-set_same, get_or-set_other}
use lib.Dec.{eqb, ltb}
use borrow.Author.Tests.{eqb-true, eqb-false, ltb-true, ltb-false}
use Rattle.book.specs.Lists.{any, up_to}
use Rattle.book.specs.Sets.{has}
use Rattle.book.specs.Blocks.{head_of, rule_at, rule_count}
use Rattle.book.specs.Rule.{covers_user, reference_count, restriction_count, restriction_mask}
use Rattle.book.specs.Refusals.{BookAccepted, mask_allows}
use Rattle.book.proofs.Lists.{all_at, and_both, and_true, any_wider, at_all, or_either, or_left, or_rest, or_right}
use Rattle.book.proofs.Accepted.{RuleHolds, accepted_rule}
use Rattle.lineage.proofs.Mixing.{access_before, kept_or_raw}
use Rattle.verdicts.specs.Accesses.{Access, Accesses, accesses_of, fits}
use Rattle.verdicts.specs.Breaking.{accepts, refuses_all, some_choice_refused, breaks, broken_mask}
use Rattle.verdicts.specs.Inner.Words.{offers}
use Rattle.verdicts.proofs.Choices.{some_chosen, choice_operations}
use Rattle.verdicts.proofs.Offers.{in_offers, found_offers}
use Rattle.verdicts.proofs.Quantifiers.{any_at, at_any}
use Rattle.verdicts.proofs.Verdict.{mask_bit}

-- the accesses of a plan by document 01 alone
unfoldable pub accesses_before : (head plan : List ℕ) → Accesses
accesses_before head plan x = access_before head plan x.channel x.leaf x.operation

-- Choices in which some operations give way to none

chosen_implied :
    (n i : ℕ) (f : ℕ → ℕ → Bool) (p q : List ℕ → Bool)
    → ((ks : List ℕ) → p ks ≡ true → q ks ≡ true)
    → some_chosen n i f p ≡ true
    → some_chosen n i f q ≡ true
unfolding some_chosen
chosen_implied zero i f p q h c = h _ c
chosen_implied (suc n) i f p q h c =
    any_wider (λ k. f i k && some_chosen n (suc i) f (λ ks. p (k ∷ ks)))
    (λ k. f i k && some_chosen n (suc i) f (λ ks. q (k ∷ ks))) (up_to 16)
    (λ k t.
    let b = and_both (f i k) (some_chosen n (suc i) f (λ ks. p (k ∷ ks))) t in
    and_true (f i k) (some_chosen n (suc i) f (λ ks. q (k ∷ ks))) b.0
    (chosen_implied n (suc i) f (λ ks. p (k ∷ ks)) (λ ks. q (k ∷ ks)) (λ ks. h (k ∷ ks)) b.1))
    c

-- each offer holds the operation or none, and the test still passes with none in an operation's place
chosen_raw :
    (n i : ℕ) (f g : ℕ → ℕ → Bool) (p : List ℕ → Bool)
    → ((j k : ℕ) → f j k ≡ true → (g j k || g j 0) ≡ true)
    → ((ks : List ℕ) (j : ℕ) → p ks ≡ true → p (set ks j 0) ≡ true)
    → some_chosen n i f p ≡ true
    → some_chosen n i g p ≡ true
unfolding some_chosen
chosen_raw zero i f g p h lower c = c
chosen_raw (suc n) i f g p h lower c =
    let w = any_at (λ k. f i k && some_chosen n (suc i) f (λ ks. p (k ∷ ks))) 16 c in
    let b = and_both (f i w.0) (some_chosen n (suc i) f (λ ks. p (w.0 ∷ ks))) w.1 in
    go w.0 w.2
    (chosen_raw n (suc i) f g (λ ks. p (w.0 ∷ ks)) h (λ ks j. lower (w.0 ∷ ks) (suc j)) b.1)
    (g i w.0) refl (h i w.0 b.0)
  where
    step : ℕ → Bool
    step k = g i k && some_chosen n (suc i) g (λ ks. p (k ∷ ks))

    go :
        (k : ℕ)
        → k < 16
        → some_chosen n (suc i) g (λ ks. p (k ∷ ks)) ≡ true
        → (t : Bool)
        → g i k ≡ t
        → (g i k || g i 0) ≡ true
        → any step (up_to 16) ≡ true
    go k small rest true e either = at_any step 16 k small (and_true (g i k) _ e rest)
    go k small rest false e either =
        at_any step 16 0 (omega arith)
        (and_true (g i 0) _ (or_rest (g i k) (g i 0) either e)
        (chosen_implied n (suc i) g (λ ks. p (k ∷ ks)) (λ ks. p (0 ∷ ks)) (λ ks. lower (k ∷ ks) 0) rest))

-- A restriction that accepts none in an operation's place accepts the operation: no mask of an accepted book has bit 0

module _ (head rule : List ℕ) (holds : RuleHolds head rule) (ks : List ℕ) (j : ℕ) where
  none_there : get_or (set ks j 0) j 0 ≡ 0
  none_there = go (ltb j (length ks)) refl
    where
      go : (b : Bool) → ltb j (length ks) ≡ b → get_or (set ks j 0) j 0 ≡ 0
      go true e = get_or-set_same ks j 0 0 (ltb-true j (length ks) e)
      go false e = get_or-eq_default (set ks j 0) 0 (rw length-set (ltb-false j (length ks) e))

  no_bit : (r i : ℕ) → r < restriction_count rule → i < reference_count rule → has (restriction_mask rule r i) 0 ≡ true → ⊥
  unfolding mask_allows
  no_bit r i l m h =
      let few = holds.references_most in
      false≢true (holds.masks_allowed r i 0 l (omega arith) (omega arith) h)

  accepts_raw : (r : ℕ) → r < restriction_count rule → accepts rule (set ks j 0) r ≡ true → accepts rule ks r ≡ true
  unfolding accepts
  accepts_raw r l h =
      at_all (λ i. eqb (restriction_mask rule r i) 0 || has (restriction_mask rule r i) (get_or ks i 0)) (reference_count rule)
      (λ i m.
      go i m (eqb i j) refl (eqb (restriction_mask rule r i) 0) refl
      (all_at (λ n. eqb (restriction_mask rule r n) 0 || has (restriction_mask rule r n) (get_or (set ks j 0) n 0))
      (reference_count rule) h i m))
    where
      go :
          (i : ℕ)
          → i < reference_count rule
          → (t : Bool)
          → eqb i j ≡ t
          → (z : Bool)
          → eqb (restriction_mask rule r i) 0 ≡ z
          → (z || has (restriction_mask rule r i) (get_or (set ks j 0) i 0)) ≡ true
          → (z || has (restriction_mask rule r i) (get_or ks i 0)) ≡ true
      go i m t e true q p = refl
      go i m true e false q p =
          let same : i ≡ j = eqb-true i j e in
          absurd (no_bit r j l (rw same at m) (rw (same, none_there) at p))
      go i m false e false q p = rw (get_or-set_other ks j i 0 0 (eqb-false i j e)) at p

  refuses_raw : refuses_all rule ks ≡ true → refuses_all rule (set ks j 0) ≡ true
  unfolding refuses_all
  refuses_raw h = go (any (accepts rule (set ks j 0)) (up_to (restriction_count rule))) refl
    where
      go : (b : Bool) → any (accepts rule (set ks j 0)) (up_to (restriction_count rule)) ≡ b → not b ≡ true
      go false e = refl
      go true e =
          let w = any_at (accepts rule (set ks j 0)) (restriction_count rule) e in
          let t =
          at_any (accepts rule ks) (restriction_count rule) w.0 w.2 (accepts_raw w.0 w.2 w.1) in
          absurd (false≢true (rw t at h))

-- The theorem

module _ (head plan rule : List ℕ) (holds : RuleHolds head rule) where
  offers_raw :
      (i k : ℕ)
      → offers head rule (accesses_before head plan) i k ≡ true
      → (offers head rule (accesses_of head plan) i k || offers head rule (accesses_of head plan) i 0) ≡ true
  unfolding accesses_before accesses_of fits
  offers_raw i k h =
      let found = found_offers head rule (accesses_before head plan) i k h in
      let x = found.0 in
      let raw : Access = record { channel = x.channel; leaf = x.leaf; operation = 0 } in
      let now : Access → Bool = accesses_of head plan in
      let kept = kept_or_raw head plan x.channel x.leaf x.operation found.1 in
      ⊎_elim
      (λ (t : now x ≡ true).
      or_left (offers head rule now i k) (offers head rule now i 0)
      (in_offers head rule now i k x t found.2 found.3 found.4))
      (λ (t : now raw ≡ true).
      or_right (offers head rule now i k) (offers head rule now i 0)
      (in_offers head rule now i 0 raw t found.2 refl (omega arith)))
      (or_either (now x) (now raw) kept)

  breaks_still :
      (user : ℕ)
      → breaks head rule user (accesses_before head plan) ≡ true
      → breaks head rule user (accesses_of head plan) ≡ true
  unfolding breaks some_choice_refused
  breaks_still user h =
      let b = and_both (covers_user head rule user) (some_choice_refused head rule (accesses_before head plan)) h in
      and_true (covers_user head rule user) (some_choice_refused head rule (accesses_of head plan)) b.0
      (choice_operations head rule (accesses_of head plan) (reference_count rule) 0 (refuses_all rule)
      ∙ chosen_raw (reference_count rule) 0 (offers head rule (accesses_before head plan))
      (offers head rule (accesses_of head plan)) (refuses_all rule) offers_raw (refuses_raw head rule holds)
      (sym (choice_operations head rule (accesses_before head plan) (reference_count rule) 0 (refuses_all rule)) ∙ b.1))

-- every rule broken before is broken now
pub stricter :
    (book : List ℕ) (user : ℕ) (plan : List ℕ)
    → BookAccepted book
    → (r : ℕ)
    → has (broken_mask book user (accesses_before (head_of book) plan)) r ≡ true
    → has (broken_mask book user (accesses_of (head_of book) plan)) r ≡ true
stricter book user plan accepted r h =
    let head = head_of book in
    let rule = rule_at book r in
    let b =
    and_both (ltb r (rule_count book)) (breaks head rule user (accesses_before head plan))
    (sym (mask_bit book user (accesses_before head plan) r) ∙ h) in
    mask_bit book user (accesses_of head plan) r
    ∙ and_true (ltb r (rule_count book)) (breaks head rule user (accesses_of head plan)) b.0
    (breaks_still head plan rule (accepted_rule book accepted r (ltb-true r (rule_count book) b.0)) user b.1)
