-- Laws of choices from words: the three words of what the references are offered, and the words of the rule's masks.
-- Assumes nothing.
use Prim.Native.Nat.{ℕ, ◌+◌, ◌-◌, ◌^◌, ◌≤◌, ◌<◌}
use native.Mathlib.Nat.{lt_of_le_of_lt}
use native.Mathlib.Omega.{arith}
use mathlib.Core.Path.{◌≡◌, sym, ap, ◌∙◌}
use mathlib.Core.Bool.{Bool, true, false, ◌&&◌, not}
use mathlib.Core.List.{List}
use lib.Dec.{eqb, ltb}
use lib.Bits.{bit_and, and_le_l}
use borrow.Author.Tests.{ltb-true, lt-ltb, eq-eqb, ne_eqb}
use Rattle.book.specs.Lists.{any, up_to}
use Rattle.book.specs.Sets.{has}
use Rattle.book.proofs.Lists.{and_true, and_assoc, and_false, and_where, any_more, any_same, at_none}
use Rattle.book.proofs.Members.{has_zero, has_minus}
use Rattle.verdicts.specs.Accesses.{Accesses}
use Rattle.verdicts.specs.Inner.Words.{RuleSound, offers_or_none, Offered}
use Rattle.verdicts.specs.Inner.Words.{Taken, takes, Beside, third_refused, refused_beside, some_refused}
use Rattle.verdicts.specs.Breaking.{some_choice_refused}
use Rattle.verdicts.proofs.Quantifiers.{at_any, any_below}
use Rattle.verdicts.proofs.Marks.{not_empty}
use Rattle.verdicts.proofs.Masks.{taken_beside}
use Rattle.verdicts.proofs.Choices.{refuses_three, refused_by_operations}

-- The steps of the code

-- the code's `third & !taken != 0`
module _ (masks : List (List ℕ)) (a b third taken : ℕ) (lt : third < 2 ^ 64) (lu : taken < 2 ^ 64)
    (took : Beside masks a b taken) where
  pub third_test : not (eqb (bit_and third ((2 ^ 64 - 1) - taken)) 0) ≡ third_refused masks third a b
  unfolding third_refused
  third_test =
      not_empty 64 (bit_and third ((2 ^ 64 - 1) - taken)) (lt_of_le_of_lt (and_le_l third ((2 ^ 64 - 1) - taken)) lt)
      ∙ any_same (has (bit_and third ((2 ^ 64 - 1) - taken)))
      (λ c. has third c && not (any (takes a b c) masks))
      (λ c. rw (has_minus 64 third taken c lt lu, took c)) (up_to 64)

  pub third_taken : bit_and third ((2 ^ 64 - 1) - taken) ≡ 0 → third_refused masks third a b ≡ false
  third_taken h = rw (← third_test, eq-eqb (bit_and third ((2 ^ 64 - 1) - taken)) 0 h)

  pub third_left : (bit_and third ((2 ^ 64 - 1) - taken) ≡ 0 → ⊥) → third_refused masks third a b ≡ true
  third_left h = rw (← third_test, ne_eqb (bit_and third ((2 ^ 64 - 1) - taken)) 0 h)

-- a loop that seeks a member of a word that passes f, and one turn of it: i passes, i does not, i is no member
module _ (word : ℕ) (f : ℕ → Bool) (i : ℕ) where
  pub found_at : (n : ℕ) → i < n → has word i ≡ true → f i ≡ true → any (λ k. has word k && f k) (up_to n) ≡ true
  found_at n l h p = at_any (λ k. has word k && f k) n i l (and_true (has word i) (f i) h p)

  pub none_more :
      any (λ k. has word k && f k) (up_to i) ≡ false → f i ≡ false → any (λ k. has word k && f k) (up_to (i + 1)) ≡ false
  none_more old p = rw (any_more (λ k. has word k && f k) i, old, p) (and_false (has word i))

  pub none_other :
      any (λ k. has word k && f k) (up_to i) ≡ false
      → has word i ≡ false
      → any (λ k. has word k && f k) (up_to (i + 1)) ≡ false
  none_other old h = rw (any_more (λ k. has word k && f k) i, old, h)

-- Words of offers

module _ (word : ℕ) (o : ℕ → Bool) (offered : (k : ℕ) → has word k ≡ (ltb k 16 && o k)) where
  any_offered :
      (f g : ℕ → Bool) (m : ℕ)
      → 16 ≤ m
      → ((k : ℕ) → k < 16 → f k ≡ g k)
      → any (λ k. has word k && f k) (up_to m) ≡ any (λ k. o k && g k) (up_to 16)
  any_offered f g m wide same =
      any_same (λ k. has word k && f k) (λ k. ltb k 16 && (o k && g k))
      (λ k.
      rw (offered k, and_assoc (ltb k 16) (o k) (f k))
      (and_where (ltb k 16) (o k && f k) (o k && g k) (λ h. rw (same k (ltb-true k 16 h)))))
      (up_to m)
      ∙ any_below (λ k. o k && g k) 16 m wide

  none_offered : (f : ℕ → Bool) → word ≡ 0 → any (λ k. o k && f k) (up_to 16) ≡ false
  none_offered f e = at_none (λ k. o k && f k) 16 (λ k l. ap (λ (b : Bool). b && f k) (empty k l))
    where
      empty : (k : ℕ) → k < 16 → o k ≡ false
      empty k l =
          let h : has word k ≡ o k = offered k ∙ rw (lt-ltb k 16 l) in
          sym h ∙ rw (e, has_zero)

-- The rule

module _ (head rule : List ℕ) (accesses : Accesses) (sound : RuleSound head rule) where
  offer : ℕ → ℕ → Bool
  offer i k = offers_or_none head rule accesses i k

  thirds : ℕ → ℕ → Bool
  thirds a b = any (λ c. offer 2 c && refuses_three rule a b c) (up_to 16)

  seconds : ℕ → Bool
  seconds a = any (λ b. offer 1 b && thirds a b) (up_to 16)

  by_operations : some_choice_refused head rule accesses ≡ any (λ a. offer 0 a && seconds a) (up_to 16)
  unfolding offer thirds seconds
  by_operations = refused_by_operations head rule sound accesses

  -- a reference that is offered nothing leaves no choice
  pub none_first : (word : ℕ) → Offered head rule accesses 0 word → word ≡ 0 → some_choice_refused head rule accesses ≡ false
  unfolding offer
  none_first word offered e = by_operations ∙ none_offered word (offer 0) offered seconds e

  pub none_second : (word : ℕ) → Offered head rule accesses 1 word → word ≡ 0 → some_choice_refused head rule accesses ≡ false
  unfolding offer seconds
  none_second word offered e =
      by_operations
      ∙ at_none (λ a. offer 0 a && seconds a) 16
      (λ a l. rw (none_offered word (offer 1) offered (thirds a) e) (and_false (offer 0 a)))

  pub none_third : (word : ℕ) → Offered head rule accesses 2 word → word ≡ 0 → some_choice_refused head rule accesses ≡ false
  unfolding offer seconds thirds
  none_third word offered e =
      by_operations
      ∙ at_none (λ a. offer 0 a && seconds a) 16
      (λ a l.
      ap (λ (t : Bool). offer 0 a && t)
      (at_none (λ b. offer 1 b && thirds a b) 16
      (λ b m. rw (none_offered word (offer 2) offered (refuses_three rule a b) e) (and_false (offer 1 b))))
      ∙ and_false (offer 0 a))

  module _ (masks : List (List ℕ)) (first second third : ℕ) (took : Taken rule masks)
      (one : Offered head rule accesses 0 first)
      (two : Offered head rule accesses 1 second)
      (three : Offered head rule accesses 2 third) where
    third_words : (a b : ℕ) → a < 16 → b < 16 → third_refused masks third a b ≡ thirds a b
    unfolding third_refused offer thirds refuses_three
    third_words a b la lb =
        any_offered third (offer 2) three (λ c. not (any (takes a b c) masks)) (refuses_three rule a b) 64
        (omega arith)
        (λ c lc. ap not (taken_beside rule masks a b c took sound.restrictions la lb lc))

    second_words : (a : ℕ) → a < 16 → refused_beside masks second third a ≡ seconds a
    unfolding refused_beside offer seconds
    second_words a la =
        any_offered second (offer 1) two (third_refused masks third a) (thirds a) 16 (omega arith)
        (λ b lb. third_words a b la lb)

    pub refused_by_words : some_refused masks first second third ≡ some_choice_refused head rule accesses
    unfolding some_refused offer
    refused_by_words =
        any_offered first (offer 0) one (refused_beside masks second third) seconds 16 (omega arith) second_words
        ∙ sym by_operations
