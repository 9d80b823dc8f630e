-- Laws of more accesses: what is offered, refused and broken stays so. Sets that agree on what a book has categories
-- for are the same to a rule. Assumes nothing.
use Prim.Native.Nat.{ℕ, zero, suc}
use mathlib.Core.Path.{◌≡◌, sym, ap, ◌∙◌}
use mathlib.Core.Bool.{Bool, true, ◌&&◌}
use mathlib.Core.List.{List, ◌∷◌}
use Rattle.book.specs.Lists.{up_to}
use Rattle.book.specs.Rule.{reference_count, covers_user}
use Rattle.book.proofs.Lists.{and_true, and_both, any_wider, same_test}
use Rattle.verdicts.specs.Accesses.{Access, Accesses}
use Rattle.verdicts.specs.Inner.Words.{offers}
use Rattle.verdicts.specs.Breaking.{refuses_all, some_choice_refused, breaks}
use Rattle.verdicts.proofs.Accesses.{known, fits_known}
use Rattle.verdicts.proofs.Offers.{in_offers, found_offers}
use Rattle.verdicts.proofs.Choices.{some_chosen, choice_operations}

-- Choices

-- offers that hold all that others hold
pub chosen_wider :
    (n i : ℕ) (f g : ℕ → ℕ → Bool) (p : List ℕ → Bool)
    → ((j k : ℕ) → f j k ≡ true → g j k ≡ true)
    → some_chosen n i f p ≡ true
    → some_chosen n i g p ≡ true
unfolding some_chosen
chosen_wider zero i f g p h c = c
chosen_wider (suc n) i f g p h c =
    any_wider (λ k. f i k && some_chosen n (suc i) f (λ ks. p (k ∷ ks)))
    (λ k. g i k && some_chosen n (suc i) g (λ ks. p (k ∷ ks))) (up_to 16)
    (λ k t.
    let b = and_both (f i k) (some_chosen n (suc i) f (λ ks. p (k ∷ ks))) t in
    and_true (g i k) (some_chosen n (suc i) g (λ ks. p (k ∷ ks))) (h i k b.0)
    (chosen_wider n (suc i) f g (λ ks. p (k ∷ ks)) h b.1))
    c

-- Sets of accesses

-- a set that holds all that another one holds, of what the book has categories for
module _
    (head rule : List ℕ)
    (D E : Accesses)
    (more : (x : Access) → known head x ≡ true → D x ≡ true → E x ≡ true)
  where
    pub offers_wider : (i k : ℕ) → offers head rule D i k ≡ true → offers head rule E i k ≡ true
    offers_wider i k h =
        let found = found_offers head rule D i k h in
        let x = found.0 in
        in_offers head rule E i k x (more x (fits_known head rule i x found.2 (rw found.3 found.4)) found.1)
        found.2 found.3 found.4

    pub refused_wider : some_choice_refused head rule D ≡ true → some_choice_refused head rule E ≡ true
    unfolding some_choice_refused
    refused_wider h =
        choice_operations head rule E (reference_count rule) 0 (refuses_all rule)
        ∙ chosen_wider (reference_count rule) 0 (offers head rule D) (offers head rule E) (refuses_all rule) offers_wider
        (sym (choice_operations head rule D (reference_count rule) 0 (refuses_all rule)) ∙ h)

-- sets that agree there
pub refused_same :
    (head rule : List ℕ) (D E : Accesses)
    → ((x : Access) → known head x ≡ true → D x ≡ E x)
    → some_choice_refused head rule D ≡ some_choice_refused head rule E
refused_same head rule D E same =
    same_test (some_choice_refused head rule D) (some_choice_refused head rule E)
    (refused_wider head rule D E (λ x k h. sym (same x k) ∙ h))
    (refused_wider head rule E D (λ x k h. same x k ∙ h))

pub breaks_same :
    (head rule : List ℕ) (user : ℕ) (D E : Accesses)
    → ((x : Access) → D x ≡ E x)
    → breaks head rule user D ≡ breaks head rule user E
unfolding breaks
breaks_same head rule user D E same =
    ap (λ (b : Bool). covers_user head rule user && b) (refused_same head rule D E (λ x k. same x))

-- more accesses break what fewer broke
module _ (head rule : List ℕ) (D E : Accesses) (more : (x : Access) → D x ≡ true → E x ≡ true) where
  pub monotone : some_choice_refused head rule D ≡ true → some_choice_refused head rule E ≡ true
  monotone = refused_wider head rule D E (λ x k. more x)

  pub breaks_monotone : (user : ℕ) → breaks head rule user D ≡ true → breaks head rule user E ≡ true
  unfolding breaks
  breaks_monotone user h =
      let b = and_both (covers_user head rule user) (some_choice_refused head rule D) h in
      and_true (covers_user head rule user) (some_choice_refused head rule E) b.0 (monotone b.1)
