-- What words hold: the accesses of a plan, of words that are joined. Assumes nothing.
use Prim.Native.Nat.{ℕ, ◌+◌, ◌*◌, ◌/◌, ◌%◌, ◌≤◌, ◌<◌}
use native.Mathlib.Omega.{arith}
use mathlib.Core.Path.{◌≡◌, refl, ◌∙◌}
use mathlib.Core.Logic.{⊎_elim}
use mathlib.Core.Bool.{Bool, true, false, ◌&&◌, ◌||◌, false≢true}
use mathlib.Core.List.{List}
use lib.ListN.{get_or}
use lib.Bits.{bit_or}
use lib.Dec.{ltb}
use borrow.Author.Tests.{eqb-true, lt-ltb, ltb-true, ltb-false, le-ltb}
use Rattle.book.specs.Lists.{from, up_to}
use Rattle.book.specs.Sets.{has}
use Rattle.book.specs.Head.{data_count, operation}
use Rattle.book.proofs.Accepted.{HeadHolds}
use Rattle.book.proofs.Lists.{and_false, and_left, and_or, and_right}
use Rattle.book.proofs.Members.{has_or, has_zero}
use Rattle.lineage.specs.Rows.{Kind, Column, Apply, Choose, Output, Condition, Unknown, kind_at, row_a, row_count}
use Rattle.lineage.specs.Accesses.{access_words, gives, is_access, reaches, word_of}
use Rattle.lineage.proofs.Accepted.{PlanHolds, Had, Taken, reaches_had, reaches_leaf}
use Rattle.lineage.proofs.Words.{access_bit, get_d_from, word_of_law}
use Rattle.verdicts.specs.Accesses.{Access, accesses_of, held_by, union}
use Rattle.verdicts.proofs.Accesses.{known, known_bounds, leaf_below}
use Rattle.verdicts.proofs.Quantifiers.{any_at}

-- Words

-- by cases: an access that words have a place for, or none at all
by_bounds :
    (x : Access) (p q : Bool)
    → (x.channel < 2 → x.operation < 16 → p ≡ q)
    → (ltb x.channel 2 && (ltb x.operation 16 && p)) ≡ (ltb x.channel 2 && (ltb x.operation 16 && q))
by_bounds x p q same = go (ltb x.channel 2) refl (ltb x.operation 16) refl
  where
    go :
        (b : Bool)
        → ltb x.channel 2 ≡ b
        → (c : Bool)
        → ltb x.operation 16 ≡ c
        → (b && (c && p)) ≡ (b && (c && q))
    go true e true f = same (ltb-true x.channel 2 e) (ltb-true x.operation 16 f)
    go true e false f = refl
    go false e c f = refl

-- nothing
none_held : (b c : Bool) → (b && (c && false)) ≡ false
none_held true c = and_false c
none_held false c = refl

pub held_zero : (a : List ℕ) → ((w : ℕ) → w < 32 → get_or a w 0 ≡ 0) → (x : Access) → held_by a x ≡ false
unfolding held_by
held_zero a zero x =
    by_bounds x (has (get_or a (16 * x.channel + x.operation) 0) x.leaf) false
    (λ c o. rw (zero (16 * x.channel + x.operation) (omega arith), has_zero x.leaf))
    ∙ none_held (ltb x.channel 2) (ltb x.operation 16)

-- words that are joined hold the union
pub held_union :
    (a b c : List ℕ)
    → ((w : ℕ) → w < 32 → get_or c w 0 ≡ bit_or (get_or a w 0) (get_or b w 0))
    → (x : Access)
    → held_by c x ≡ union (held_by a) (held_by b) x
unfolding held_by union
held_union a b c joined x =
    let at = 16 * x.channel + x.operation in
    by_bounds x (has (get_or c at 0) x.leaf) (has (get_or a at 0) x.leaf || has (get_or b at 0) x.leaf)
    (λ s o. rw (joined at (omega arith)) (has_or (get_or a at 0) (get_or b at 0) x.leaf))
    ∙ over (ltb x.channel 2) (ltb x.operation 16) (has (get_or a at 0) x.leaf) (has (get_or b at 0) x.leaf)
  where
    over : (c o p q : Bool) → (c && (o && (p || q))) ≡ ((c && (o && p)) || (c && (o && q)))
    over true o p q = and_or o p q
    over false o p q = refl

pub held_channel : (words : List ℕ) (x : Access) → held_by words x ≡ true → x.channel < 2
unfolding held_by
held_channel words x h =
    ltb-true x.channel 2
    (and_left (ltb x.channel 2)
    (ltb x.operation 16 && has (get_or words (16 * x.channel + x.operation) 0) x.leaf) h)

pub held_operations : (words : List ℕ) (x : Access) → held_by words x ≡ true → x.operation < 16
unfolding held_by
held_operations words x h =
    let bit = has (get_or words (16 * x.channel + x.operation) 0) x.leaf in
    ltb-true x.operation 16
    (and_left (ltb x.operation 16) bit (and_right (ltb x.channel 2) (ltb x.operation 16 && bit) h))

-- The words of a plan

-- they hold its accesses, of those that the book has categories for
pub held_plan :
    (head plan : List ℕ)
    → data_count head ≤ 64
    → (x : Access)
    → known head x ≡ true
    → held_by (access_words head plan) x ≡ accesses_of head plan x
unfolding held_by accesses_of
held_plan head plan few x b =
    let k = known_bounds head x b in
    rw (lt-ltb x.channel 2 k.0, lt-ltb x.operation 16 k.2)
    (access_bit head plan x.channel x.leaf x.operation k.0 (omega (arith, k.1)) k.2)

had_small : (head : List ℕ) (d k : ℕ) → HeadHolds head → Had head d k → k < 16
had_small head d k book h =
    ⊎_elim
    (λ (z : k ≡ 0). omega arith)
    (λ (t : Taken head d k).
    let m : operation head t.function ≤ 15 = book.operations_most t.function t.below in
    let e : operation head t.function ≡ k = t.operates in
    omega arith)
    h.operated

given_small : (kind : Kind) (s : ℕ) → gives kind s ≡ true → s < 2
unfolding gives
given_small Column s h = absurd (false≢true h)
given_small Apply s h = absurd (false≢true h)
given_small Choose s h = omega (arith, eqb-true s 1 h)
given_small Output s h = omega (arith, eqb-true s 0 h)
given_small Condition s h = omega (arith, eqb-true s 1 h)
given_small Unknown s h = absurd (false≢true h)

-- any plan
module _ (head plan : List ℕ) where
  -- the row that gives an access
  given_by :
      (x : Access)
      → accesses_of head plan x ≡ true
      → (i : ℕ)
      × (gives (kind_at plan i) x.channel ≡ true)
      × (reaches head plan (row_a plan i) x.leaf x.operation ≡ true)
  unfolding accesses_of is_access
  given_by x h =
      let w =
      any_at (λ i. gives (kind_at plan i) x.channel && reaches head plan (row_a plan i) x.leaf x.operation)
      (row_count plan) h in
      let given = gives (kind_at plan w.0) x.channel in
      let reached = reaches head plan (row_a plan w.0) x.leaf x.operation in
      (w.0, and_left given reached w.1, and_right given reached w.1)

  pub plan_channel : (x : Access) → accesses_of head plan x ≡ true → x.channel < 2
  plan_channel x h =
      let row = given_by x h in
      given_small (kind_at plan row.0) x.channel row.1

-- an accepted plan
module _ (head plan : List ℕ) (book : HeadHolds head) (holds : PlanHolds head plan) where
  pub plan_operations : (x : Access) → accesses_of head plan x ≡ true → x.operation < 16
  plan_operations x h =
      let row = given_by head plan x h in
      had_small head x.leaf x.operation book
      (reaches_had head plan holds (row_a plan row.0) x.leaf x.operation row.2)

  plan_bounds : (x : Access) → accesses_of head plan x ≡ true → (x.channel < 2) × (x.leaf < 64)
  plan_bounds x h =
      let row = given_by head plan x h in
      let below =
      leaf_below head x.leaf
      (reaches_leaf head plan holds (row_a plan row.0) x.leaf x.operation book row.2) in
      let few = book.data_most in
      (plan_channel head plan x h, omega arith)

  -- a word of a plan has members below 64 only
  word_small : (s d k : ℕ) → s < 2 → k < 16 → 64 ≤ d → has (get_or (access_words head plan) (16 * s + k) 0) d ≡ false
  unfolding access_words up_to
  word_small s d k channel small high =
      let f : ℕ → Bool = λ e. is_access head plan ((0 + (16 * s + k)) / 16) e ((0 + (16 * s + k)) % 16) in
      rw
      (get_d_from (λ w. word_of (λ e. is_access head plan (w / 16) e (w % 16)) (from 0 64)) 0 32 (16 * s + k)
      (omega arith))
      ((word_of_law f 64).1 d ∙ rw (le-ltb d 64 high))

  -- its words hold its accesses, and nothing else
  pub held_accesses_law : (x : Access) → held_by (access_words head plan) x ≡ accesses_of head plan x
  unfolding held_by accesses_of
  held_accesses_law x = go (accesses_of head plan x) refl
    where
      bit : ℕ → Bool
      bit d = has (get_or (access_words head plan) (16 * x.channel + x.operation) 0) d

      outside :
          accesses_of head plan x ≡ false
          → x.channel < 2
          → x.operation < 16
          → (b : Bool)
          → ltb x.leaf 64 ≡ b
          → bit x.leaf ≡ false
      outside n c o true l =
          access_bit head plan x.channel x.leaf x.operation c (ltb-true x.leaf 64 l) o ∙ n
      outside n c o false l = word_small x.channel x.leaf x.operation c o (ltb-false x.leaf 64 l)

      go :
          (b : Bool)
          → accesses_of head plan x ≡ b
          → (ltb x.channel 2 && (ltb x.operation 16 && bit x.leaf)) ≡ b
      go true h =
          let s = plan_bounds x h in
          let o = plan_operations x h in
          rw (lt-ltb x.channel 2 s.0, lt-ltb x.operation 16 o)
          (access_bit head plan x.channel x.leaf x.operation s.0 s.1 o ∙ h)
      go false h =
          by_bounds x (bit x.leaf) false (λ c o. outside h c o (ltb x.leaf 64) refl)
          ∙ none_held (ltb x.channel 2) (ltb x.operation 16)
