-- Laws of choices: a rule is broken by the operations that its references are offered, and every rule is one of three
-- references, the absent ones offered operation 0 alone. Assumes nothing.
use Prim.Native.Nat.{ℕ, zero, suc, ◌+◌, ◌≤◌, ◌<◌}
use native.Mathlib.Omega.{arith}
use mathlib.Core.Path.{◌≡◌, refl, sym, ap, ◌∙◌}
use mathlib.Core.Bool.{Bool, ◌&&◌, not}
use mathlib.Core.List.{List, [], ◌∷◌, map}
use lib.ListN.{get_or}
use lib.Dec.{eqb}
use Rattle.book.specs.Lists.{any, up_to}
use Rattle.book.specs.Rule.{reference_count, restriction_count, restriction_mask}
use Rattle.book.proofs.Lists.{any_map, any_same, any_one, any_from_same, eqb_sym}
use Rattle.verdicts.specs.Accesses.{Access, Accesses, fitting}
use Rattle.verdicts.specs.Inner.Words.{RuleSound, mask_takes, beside, offers, offers_or_none}
use Rattle.verdicts.specs.Breaking.{choices_from, operations, accepts, refuses_all, some_choice_refused}
use Rattle.verdicts.proofs.Quantifiers.{any_flat, any_equal, all_padded}
use Rattle.verdicts.proofs.Offers.{any_operation, offers_present, offers_absent}

-- Choices of operations

-- operations can be chosen, one from each of n offers, offer i first, that pass the test
unfoldable pub some_chosen : ℕ → ℕ → (ℕ → ℕ → Bool) → (List ℕ → Bool) → Bool
some_chosen zero i offer p = p []
some_chosen (suc n) i offer p = any (λ k. offer i k && some_chosen n (suc i) offer (λ ks. p (k ∷ ks))) (up_to 16)

-- offers that agree on the n from i up
pub chosen_offers :
    (n i : ℕ) (f g : ℕ → ℕ → Bool) (p : List ℕ → Bool)
    → ((j k : ℕ) → i ≤ j → j < i + n → f j k ≡ g j k)
    → some_chosen n i f p ≡ some_chosen n i g p
unfolding some_chosen
chosen_offers zero i f g p h = refl
chosen_offers (suc n) i f g p h =
    any_same (λ k. f i k && some_chosen n (suc i) f (λ ks. p (k ∷ ks)))
    (λ k. g i k && some_chosen n (suc i) g (λ ks. p (k ∷ ks)))
    (λ k.
    rw (
      h i k (omega arith) (omega arith),
      chosen_offers n (suc i) f g (λ ks. p (k ∷ ks)) (λ j m lo hi. h j m (omega arith) (omega arith)),
    ))
    (up_to 16)

pub chosen_tests :
    (n i : ℕ) (f : ℕ → ℕ → Bool) (p q : List ℕ → Bool)
    → ((ks : List ℕ) → p ks ≡ q ks)
    → some_chosen n i f p ≡ some_chosen n i f q
unfolding some_chosen
chosen_tests zero i f p q h = h []
chosen_tests (suc n) i f p q h =
    any_same (λ k. f i k && some_chosen n (suc i) f (λ ks. p (k ∷ ks)))
    (λ k. f i k && some_chosen n (suc i) f (λ ks. q (k ∷ ks)))
    (λ k. rw (chosen_tests n (suc i) f (λ ks. p (k ∷ ks)) (λ ks. q (k ∷ ks)) (λ ks. h (k ∷ ks))))
    (up_to 16)

pub any_no_choice : (i : ℕ) (lists : ℕ → List Access) (p : List Access → Bool) → any p (choices_from 0 i lists) ≡ p []
unfolding choices_from
any_no_choice i lists p = any_one p []

-- one list more to choose from
pub any_choices :
    (n i : ℕ) (lists : ℕ → List Access) (p : List Access → Bool)
    → any p (choices_from (suc n) i lists)
    ≡ any (λ x. any (λ c. p (x ∷ c)) (choices_from n (suc i) lists)) (lists i)
unfolding choices_from
any_choices n i lists p =
    any_flat p (λ x. map (λ c. x ∷ c) (choices_from n (suc i) lists)) (lists i)
    ∙ any_same (λ x. any p (map (λ c. x ∷ c) (choices_from n (suc i) lists)))
    (λ x. any (λ c. p (x ∷ c)) (choices_from n (suc i) lists))
    (λ x. any_map p (λ c. x ∷ c) (choices_from n (suc i) lists)) (lists i)

-- a choice of accesses, seen by its operations alone
pub choice_operations :
    (head rule : List ℕ) (accesses : Accesses) (n i : ℕ) (p : List ℕ → Bool)
    → any (λ c. p (operations c)) (choices_from n i (fitting head rule accesses))
    ≡ some_chosen n i (offers head rule accesses) p
unfolding some_chosen operations
choice_operations head rule accesses zero i p = any_no_choice i (fitting head rule accesses) (λ c. p (operations c))
choice_operations head rule accesses (suc n) i p =
    any_choices n i (fitting head rule accesses) (λ c. p (operations c))
    ∙ any_same
    (λ x. any (λ c. p (x.operation ∷ operations c)) (choices_from n (suc i) (fitting head rule accesses)))
    (λ x. some_chosen n (suc i) (offers head rule accesses) (λ ks. p (x.operation ∷ ks)))
    (λ x. choice_operations head rule accesses n (suc i) (λ ks. p (x.operation ∷ ks)))
    (fitting head rule accesses i)
    ∙ any_operation head rule accesses i
    (λ k. some_chosen n (suc i) (offers head rule accesses) (λ ks. p (k ∷ ks)))

-- Absent references

-- an offer of operation 0 alone
pub any_absent : (o f : ℕ → Bool) → ((k : ℕ) → o k ≡ eqb k 0) → any (λ k. o k && f k) (up_to 16) ≡ f 0
any_absent o f h =
    any_same (λ k. o k && f k) (λ k. eqb 0 k && f k) (λ k. rw (h k, eqb_sym k 0)) (up_to 16)
    ∙ any_equal f 16 0 (omega arith)

-- a test of three operations, 0 where there are fewer
unfoldable pub on_three : (ℕ → ℕ → ℕ → Bool) → List ℕ → Bool
on_three p ks = p (get_or ks 0 0) (get_or ks 1 0) (get_or ks 2 0)

pub chosen_padded :
    (offer : ℕ → ℕ → Bool) (p : ℕ → ℕ → ℕ → Bool) (n : ℕ)
    → 1 ≤ n
    → n ≤ 3
    → ((i k : ℕ) → n ≤ i → i < 3 → offer i k ≡ eqb k 0)
    → some_chosen n 0 offer (on_three p) ≡ some_chosen 3 0 offer (on_three p)
unfolding some_chosen on_three
chosen_padded offer p zero lo hi h = absurd (omega arith)
chosen_padded offer p (suc zero) lo hi h =
    any_same (λ a. offer 0 a && p a 0 0)
    (λ a. offer 0 a && any (λ b. offer 1 b && any (λ c. offer 2 c && p a b c) (up_to 16)) (up_to 16))
    (λ a.
    ap (λ (t : Bool). offer 0 a && t)
    (sym
    (any_absent (offer 1) (λ b. any (λ c. offer 2 c && p a b c) (up_to 16)) (λ k. h 1 k (omega arith) (omega arith))
    ∙ any_absent (offer 2) (p a 0) (λ k. h 2 k (omega arith) (omega arith)))))
    (up_to 16)
chosen_padded offer p (suc (suc zero)) lo hi h =
    any_same (λ a. offer 0 a && any (λ b. offer 1 b && p a b 0) (up_to 16))
    (λ a. offer 0 a && any (λ b. offer 1 b && any (λ c. offer 2 c && p a b c) (up_to 16)) (up_to 16))
    (λ a.
    ap (λ (t : Bool). offer 0 a && t)
    (any_same (λ b. offer 1 b && p a b 0) (λ b. offer 1 b && any (λ c. offer 2 c && p a b c) (up_to 16))
    (λ b.
    ap (λ (t : Bool). offer 1 b && t)
    (sym (any_absent (offer 2) (p a b) (λ k. h 2 k (omega arith) (omega arith)))))
    (up_to 16)))
    (up_to 16)
chosen_padded offer p (suc (suc (suc zero))) lo hi h = refl
chosen_padded offer p (suc (suc (suc (suc n)))) lo hi h = absurd (omega arith)

-- Three references

-- no restriction of the rule accepts these operations
unfoldable pub refuses_three : List ℕ → ℕ → ℕ → ℕ → Bool
refuses_three rule a b c = not (any (beside rule a b c) (up_to (restriction_count rule)))

module _ (head rule : List ℕ) (sound : RuleSound head rule) where
  pub accepts_padded :
      (ks : List ℕ) (j : ℕ)
      → j < restriction_count rule
      → accepts rule ks j ≡ beside rule (get_or ks 0 0) (get_or ks 1 0) (get_or ks 2 0) j
  unfolding accepts mask_takes
  accepts_padded ks j h =
      all_padded (λ i. mask_takes (restriction_mask rule j i) (get_or ks i 0)) (reference_count rule) sound.some
      sound.few
      (λ i lo hi. rw (sound.absent j i h lo hi))

  pub refuses_padded : (ks : List ℕ) → refuses_all rule ks ≡ on_three (refuses_three rule) ks
  unfolding refuses_all refuses_three on_three up_to
  refuses_padded ks =
      ap not
      (any_from_same (accepts rule ks) (beside rule (get_or ks 0 0) (get_or ks 1 0) (get_or ks 2 0)) 0 (restriction_count rule)
      (λ j lo hi. accepts_padded ks j (omega arith)))

  -- every rule is one of three references
  pub refused_by_operations :
      (accesses : Accesses)
      → some_choice_refused head rule accesses
      ≡ any
      (λ a.
      offers_or_none head rule accesses 0 a
      && any
      (λ b.
      offers_or_none head rule accesses 1 b
      && any (λ c. offers_or_none head rule accesses 2 c && refuses_three rule a b c) (up_to 16))
      (up_to 16))
      (up_to 16)
  unfolding some_choice_refused some_chosen on_three
  refused_by_operations accesses =
      choice_operations head rule accesses (reference_count rule) 0 (refuses_all rule)
      ∙ chosen_offers (reference_count rule) 0 (offers head rule accesses) (offers_or_none head rule accesses)
      (refuses_all rule)
      (λ j k lo hi. offers_present head rule accesses j k (omega arith))
      ∙ chosen_tests (reference_count rule) 0 (offers_or_none head rule accesses) (refuses_all rule)
      (on_three (refuses_three rule)) refuses_padded
      ∙ chosen_padded (offers_or_none head rule accesses) (refuses_three rule) (reference_count rule) sound.some
      sound.few
      (λ i k lo hi. offers_absent head rule accesses i k lo)
