-- The mask of the broken rules: bit by bit, of sets that agree, and of no access. Assumes nothing.
use Prim.Native.Nat.{ℕ, zero, suc, ◌^◌, ◌≤◌, ◌<◌}
use native.Mathlib.Omega.{arith}
use mathlib.Core.Path.{◌≡◌, refl, sym, ◌∙◌}
use mathlib.Core.Bool.{Bool, true, false, ◌&&◌, false≢true}
use mathlib.Core.List.{List, ◌∷◌}
use lib.Dec.{ltb}
use lib.Pow.{pow_pos}
use borrow.Author.Tests.{lt-ltb}
use Rattle.book.specs.Sets.{has}
use Rattle.book.specs.Blocks.{head_of, rule_at, rule_count}
use Rattle.book.specs.Rule.{covers_user, reference_count}
use Rattle.book.specs.Refusals.{BookAccepted}
use Rattle.book.proofs.Accepted.{accepted_rule}
use Rattle.book.proofs.Lists.{and_both, and_false, and_left, and_true}
use Rattle.book.proofs.Members.{has_zero, same_members}
use Rattle.lineage.proofs.Words.{word_of_law}
use Rattle.verdicts.specs.Accesses.{Access, Accesses}
use Rattle.verdicts.specs.Breaking.{breaks, broken_mask, refuses_all, some_choice_refused}
use Rattle.verdicts.specs.Inner.Words.{offers}
use Rattle.verdicts.proofs.Accesses.{known}
use Rattle.verdicts.proofs.Quantifiers.{any_at}
use Rattle.verdicts.proofs.Offers.{found_offers}
use Rattle.verdicts.proofs.Choices.{some_chosen, choice_operations}
use Rattle.verdicts.proofs.Monotone.{refused_same, refused_wider}

module _ (book : List ℕ) (user : ℕ) where
  -- "bit r for rule r"
  pub mask_bit :
      (query : Accesses) (r : ℕ)
      → has (broken_mask book user query) r
      ≡ (ltb r (rule_count book) && breaks (head_of book) (rule_at book r) user query)
  unfolding broken_mask
  mask_bit query r = (word_of_law (λ i. breaks (head_of book) (rule_at book i) user query) (rule_count book)).1 r

  pub mask_small : (query : Accesses) → broken_mask book user query < 2 ^ rule_count book
  unfolding broken_mask
  mask_small query = (word_of_law (λ i. breaks (head_of book) (rule_at book i) user query) (rule_count book)).0

  -- sets that agree on what the book has categories for
  pub mask_same :
      (D E : Accesses)
      → ((x : Access) → known (head_of book) x ≡ true → D x ≡ E x)
      → broken_mask book user D ≡ broken_mask book user E
  unfolding breaks
  mask_same D E same =
      same_members (rule_count book) (broken_mask book user D) (broken_mask book user E) (mask_small D) (mask_small E)
      (λ r l.
      mask_bit D r
      ∙ rw (refused_same (head_of book) (rule_at book r) D E same)
      (sym (mask_bit E r)))

  -- it is 0 exactly where no rule is broken
  pub none_broken :
      (query : Accesses)
      → ((r : ℕ) → r < rule_count book → breaks (head_of book) (rule_at book r) user query ≡ false)
      → broken_mask book user query ≡ 0
  none_broken query h =
      same_members (rule_count book) (broken_mask book user query) 0 (mask_small query) (pow_pos (rule_count book))
      (λ r l. mask_bit query r ∙ rw (lt-ltb r (rule_count book) l, has_zero r) (h r l))

  pub broken_none :
      (query : Accesses)
      → broken_mask book user query ≡ 0
      → (r : ℕ)
      → r < rule_count book
      → breaks (head_of book) (rule_at book r) user query ≡ false
  broken_none query e r l =
      sym (rw (lt-ltb r (rule_count book) l) at (mask_bit query r)) ∙ rw (e, has_zero r)

  -- fewer accesses break no more
  pub mask_fewer :
      (D E : Accesses)
      → ((x : Access) → D x ≡ true → E x ≡ true)
      → broken_mask book user E ≡ 0
      → broken_mask book user D ≡ 0
  unfolding breaks
  mask_fewer D E more e =
      none_broken D (λ r l. go r (broken_none E e r l) (breaks (head_of book) (rule_at book r) user D) refl)
    where
      go :
          (r : ℕ)
          → breaks (head_of book) (rule_at book r) user E ≡ false
          → (b : Bool)
          → breaks (head_of book) (rule_at book r) user D ≡ b
          → b ≡ false
      go r kept true h =
          let covered = covers_user (head_of book) (rule_at book r) user in
          let b = and_both covered (some_choice_refused (head_of book) (rule_at book r) D) h in
          sym (and_true covered (some_choice_refused (head_of book) (rule_at book r) E) b.0
          (refused_wider (head_of book) (rule_at book r) D E (λ x k. more x) b.1))
          ∙ kept
      go r kept false h = refl

-- No access, no choice

module _ (query : Accesses) (none : (x : Access) → query x ≡ false) where
  none_chosen :
      (head rule : List ℕ) (p : List ℕ → Bool) (m : ℕ)
      → 1 ≤ m
      → some_chosen m 0 (offers head rule query) p ≡ true
      → ⊥
  unfolding some_chosen
  none_chosen head rule p zero l h = omega arith
  none_chosen head rule p (suc m) l h =
      let rest : ℕ → Bool = λ k. some_chosen m 1 (offers head rule query) (λ ks. p (k ∷ ks)) in
      let w = any_at (λ k. offers head rule query 0 k && rest k) 16 h in
      let o = found_offers head rule query 0 w.0 (and_left (offers head rule query 0 w.0) (rest w.0) w.1) in
      false≢true (sym (none o.0) ∙ o.1)

  nothing_refused : (head rule : List ℕ) → 1 ≤ reference_count rule → some_choice_refused head rule query ≡ false
  unfolding some_choice_refused
  nothing_refused head rule some =
      choice_operations head rule query (reference_count rule) 0 (refuses_all rule)
      ∙ go (some_chosen (reference_count rule) 0 (offers head rule query) (refuses_all rule)) refl
    where
      go :
          (b : Bool)
          → some_chosen (reference_count rule) 0 (offers head rule query) (refuses_all rule) ≡ b
          → b ≡ false
      go true h = absurd (none_chosen head rule (refuses_all rule) (reference_count rule) some h)
      go false h = refl

  -- it breaks no rule of an accepted book
  pub nothing_broken : (book : List ℕ) (user : ℕ) → BookAccepted book → broken_mask book user query ≡ 0
  unfolding breaks
  nothing_broken book user accepted =
      none_broken book user query
      (λ r l.
      rw (nothing_refused (head_of book) (rule_at book r) (accepted_rule book accepted r l).references_some)
      (and_false (covers_user (head_of book) (rule_at book r) user)))
