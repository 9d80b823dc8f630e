-- Laws of the hold record: what a place reads, and what it and the others read after it is taken or freed. Assumes
-- nothing.
use Prim.Native.Nat.{ℕ, ◌+◌, ◌<◌}
use native.Mathlib.Omega.{arith}
use mathlib.Core.Path.{◌≡◌, refl, sym, ap, ◌∙◌}
use mathlib.Core.Bool.{true, false, ◌&&◌, not}
use mathlib.Core.List.{List}
use lib.Bits.{bit_or}
use lib.ListN.{length, get_or, set, replicate, length-set}
use lib.Seq.{get_or-set_same, get_or-set_other}
use lib.Dec.{eqb}
use borrow.Author.Tests.{eq-eqb, ne_eqb, eqb-true, not-true}
use Rattle.std.specs.Prelude.{Option, is_some, unwrap_or}
use Rattle.book.specs.Lists.{any, from, up_to}
use Rattle.book.proofs.Lists.{and_both, and_false, any_none, any_more, or_end}
use Rattle.lineage.proofs.Steps.{get_d_zeros}
use Rattle.verdicts.specs.Accesses.{Access, held_by, union}
use Rattle.verdicts.proofs.Held.{held_union, held_zero}
use Rattle.ledger.specs.Ledger.{words_of}
use Rattle.ledger.specs.Places.{WholeHolds, taken, held_at, number_at, eight_held, empty_place, held_accesses, held_count, place_of, holds_number}
use Rattle.ledger.specs.Places.{placed}
use Rattle.ledger.specs.declared.Holds.{Holds}
use Rattle.ledger.proofs.WordLaws.{written_own, written_other, written_length}
use Rattle.ledger.specs.Counting.{count}
use Rattle.ledger.specs.Inner.Steps.{HeldWords, lowest, passing}
use Rattle.ledger.proofs.Counting.{any_not, first_passes, first_of_find, some_of_find}

-- What a place reads

module _ (holds : Holds) where
  -- what it is for a place to hold a number
  pub number_held :
      (user n p : ℕ) → number_at holds user n p ≡ true → (held_at holds user p ≡ true) × (get_or holds.numbers p 0 ≡ n)
  unfolding number_at
  number_held user n p h =
      let b = and_both (held_at holds user p) (eqb (get_or holds.numbers p 0) n) h in
      (b.0, eqb-true (get_or holds.numbers p 0) n b.1)

  pub held_number :
      (user p : ℕ) → held_at holds user p ≡ true → number_at holds user (get_or holds.numbers p 0) p ≡ true
  unfolding number_at
  held_number user p h = rw (h, eq-eqb (get_or holds.numbers p 0) (get_or holds.numbers p 0) refl)

  pub held_user :
      (user p : ℕ) → held_at holds user p ≡ true → (taken holds p ≡ true) × (get_or holds.users p 0 ≡ user)
  unfolding held_at
  held_user user p h =
      let b = and_both (taken holds p) (eqb (get_or holds.users p 0) user) h in
      (b.0, eqb-true (get_or holds.users p 0) user b.1)

  pub not_number : (user n p : ℕ) → held_at holds user p ≡ false → number_at holds user n p ≡ false
  unfolding number_at
  not_number user n p h = rw h

  -- a place has one user
  pub held_one : (u v p : ℕ) → held_at holds v p ≡ true → (u ≡ v → ⊥) → held_at holds u p ≡ false
  unfolding held_at
  held_one u v p h d =
      rw (ne_eqb (get_or holds.users p 0) u (λ (e : get_or holds.users p 0 ≡ u). d (sym e ∙ (held_user v p h).1)))
      (and_false (taken holds p))

  pub not_taken : (u p : ℕ) → taken holds p ≡ false → held_at holds u p ≡ false
  unfolding held_at
  not_taken u p h = rw h

  -- what the code counts and finds
  pub held_passing : (user : ℕ) → passing (held_at holds user) ≡ held_count holds user
  unfolding held_count count up_to from
  held_passing user = omega arith

  pub lowest_empty : (found : Option ℕ) → found ≡ lowest (λ p. not (taken holds p)) → unwrap_or found 8 ≡ empty_place holds
  unfolding empty_place up_to from
  lowest_empty found e =
      ap (λ o. unwrap_or o 8) e ∙ first_of_find (λ p. not (taken holds p)) 8 (up_to 8)

  pub lowest_number :
      (user n : ℕ) (found : Option ℕ) → found ≡ lowest (number_at holds user n) → unwrap_or found 8 ≡ place_of holds user n
  unfolding place_of up_to from
  lowest_number user n found e =
      ap (λ o. unwrap_or o 8) e ∙ first_of_find (number_at holds user n) 8 (up_to 8)

  pub empty_some : (found : Option ℕ) → found ≡ lowest (λ p. not (taken holds p)) → is_some found ≡ not (eight_held holds)
  unfolding eight_held up_to from
  empty_some found e =
      ap is_some e ∙ some_of_find (λ p. not (taken holds p)) (up_to 8) ∙ any_not (taken holds) (up_to 8)

  pub number_some :
      (user n : ℕ) (found : Option ℕ) → found ≡ lowest (number_at holds user n) → is_some found ≡ holds_number holds user n
  unfolding holds_number up_to from
  number_some user n found e = ap is_some e ∙ some_of_find (number_at holds user n) (up_to 8)

  -- while eight are not held there is a lowest empty place, and it is empty
  pub empty_place_law : eight_held holds ≡ false → (taken holds (empty_place holds) ≡ false) × (empty_place holds < 8)
  unfolding empty_place eight_held
  empty_place_law room =
      let r = first_passes (λ p. not (taken holds p)) 8 (any_not (taken holds) (up_to 8) ∙ rw room) in
      (not-true (taken holds (empty_place holds)) r.0, r.1)

  pub number_place :
      (user n : ℕ)
      → holds_number holds user n ≡ true
      → (number_at holds user n (place_of holds user n) ≡ true) × (place_of holds user n < 8)
  unfolding place_of holds_number
  number_place user n there = first_passes (number_at holds user n) 8 there

-- The words of a user's held plans, gathered place by place

-- those of the first n places
unfoldable pub Gathered : Holds → (user : ℕ) (words : List ℕ) (n : ℕ) → Type 0
Gathered holds user words n =
    (x : Access) → held_by words x ≡ any (λ p. held_at holds user p && held_by (words_of holds.words p) x) (up_to n)

module _ (holds : Holds) (user : ℕ) where
  pub gather_none : Gathered holds user (replicate 32 0) 0
  unfolding Gathered
  gather_none x = held_zero (replicate 32 0) (λ w l. get_d_zeros 32 w) x ∙ sym (any_none _)

  pub gather_more :
      (words more new : List ℕ) (n : ℕ)
      → Gathered holds user words n
      → held_at holds user n ≡ true
      → more ≡ words_of holds.words n
      → ((w : ℕ) → w < 32 → get_or new w 0 ≡ bit_or (get_or words w 0) (get_or more w 0))
      → Gathered holds user new (n + 1)
  unfolding Gathered union
  gather_more words more new n so_far held em joined x =
      held_union words more new joined x ∙ rw (em, so_far x) (sym (any_more _ n ∙ rw held))

  pub gather_past :
      (words : List ℕ) (n : ℕ)
      → Gathered holds user words n
      → held_at holds user n ≡ false
      → Gathered holds user words (n + 1)
  unfolding Gathered
  gather_past words n so_far other x = so_far x ∙ sym (any_more _ n ∙ rw (other, or_end _))

  pub gather_all : (words : List ℕ) (n : ℕ) → Gathered holds user words n → n ≡ 8 → HeldWords holds user words
  unfolding Gathered held_accesses
  gather_all words n all end x = rw end at (all x)

-- A place taken or freed

module _ (holds : Holds) (p user number : ℕ) (words : List ℕ) (whole : WholeHolds holds) where
  pub whole_after : WholeHolds (placed holds p user number words)
  unfolding placed
  whole_after =
      record {
        users = length-set holds.users p user ∙ whole.users;
        numbers = length-set holds.numbers p number ∙ whole.numbers;
        words = written_length holds.words p words ∙ whole.words;
      }

  -- the other places
  module _ (q : ℕ) (other : q ≡ p → ⊥) where
    pub taken_there : taken (placed holds p user number words) q ≡ taken holds q
    unfolding placed taken
    taken_there = rw (get_or-set_other holds.numbers p q number 0 other)

    pub held_there : (v : ℕ) → held_at (placed holds p user number words) v q ≡ held_at holds v q
    unfolding placed held_at taken
    held_there v =
        rw (get_or-set_other holds.numbers p q number 0 other, get_or-set_other holds.users p q user 0 other)

    pub number_there : (v n : ℕ) → number_at (placed holds p user number words) v n q ≡ number_at holds v n q
    unfolding number_at placed held_at taken
    number_there v n =
        rw (get_or-set_other holds.numbers p q number 0 other, get_or-set_other holds.users p q user 0 other)

    pub words_there : q < 8 → words_of (placed holds p user number words).words q ≡ words_of holds.words q
    unfolding placed
    words_there l = written_other holds.words p words q other (omega (arith, whole.words))

  -- the place itself
  module _ (within : p < 8) where
    number_now : get_or (set holds.numbers p number) p 0 ≡ number
    number_now = get_or-set_same holds.numbers p number 0 (omega (arith, whole.numbers))

    user_now : get_or (set holds.users p user) p 0 ≡ user
    user_now = get_or-set_same holds.users p user 0 (omega (arith, whole.users))

    pub taken_here : taken (placed holds p user number words) p ≡ not (eqb number 0)
    unfolding placed taken
    taken_here = rw number_now

    pub held_here : (v : ℕ) → held_at (placed holds p user number words) v p ≡ (not (eqb number 0) && eqb user v)
    unfolding placed held_at taken
    held_here v = rw (number_now, user_now)

    pub number_here :
        (v n : ℕ)
        → number_at (placed holds p user number words) v n p ≡ (not (eqb number 0) && eqb user v && eqb number n)
    unfolding number_at placed held_at taken
    number_here v n = rw (number_now, user_now)

    pub words_here : length words ≡ 32 → words_of (placed holds p user number words).words p ≡ words
    unfolding placed
    words_here size = written_own holds.words p words size (omega (arith, whole.words))
