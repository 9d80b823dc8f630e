-- A book with a rule more and with a rule less: lengths, the numbers of its rules, the head, which book's rules are among
-- the other's, and acceptance. Assumes nothing.
use Prim.Native.Nat.{ℕ, suc, ◌+◌, ◌*◌, ◌-◌, ◌≤◌, ◌<◌}
use native.Mathlib.Omega.{arith}
use mathlib.Core.Path.{◌≡◌, refl, sym, ap, ◌∙◌}
use mathlib.Core.Bool.{Bool, true, false, cond}
use mathlib.Core.List.{List, ◌++◌}
use lib.ListN.{length, take, drop, length-append, length-drop}
use lib.Seq.{drop-append-add, drop-append-le, drop-drop, length-take-le, take_all, take-append-le, take-take}
use lib.Dec.{ltb}
use borrow.Author.Tests.{lt-ltb, le-ltb, ltb-true, ltb-false}
use Rattle.book.specs.Blocks.{head_of, rule_at, rule_count}
use Rattle.book.specs.Refusals.{BookAccepted}
use Rattle.book.proofs.Accepted.{accepted_length}
use Rattle.editing.specs.Books.{with_rule, without_rule, number_before}
use Rattle.editing.proofs.Within.{Within}
use Rattle.editing.proofs.Accepting.{accepted_within, part_front}

-- A part of two lists one behind the other

module _ (xs ys : List ℕ) (a c : ℕ) where
  part_left : a + c ≤ length xs → take c (drop a (xs ++ ys)) ≡ take c (drop a xs)
  part_left h =
      let e = length-drop a xs in
      rw (drop-append-le a xs ys (omega arith)) (take-append-le c (drop a xs) ys (omega arith))

  part_right : (b : ℕ) → b ≡ length xs + a → take c (drop b (xs ++ ys)) ≡ take c (drop a ys)
  part_right b e = rw (e, drop-append-add xs ys a)

-- A rule more

module _ (book block : List ℕ) (n : ℕ) (whole : length book ≡ 512 * (4 + n)) (long : length block ≡ 512) where
  pub more_length : length (with_rule book block) ≡ 512 * (4 + suc n)
  unfolding with_rule
  more_length =
      let e = length-append book block in
      omega arith

  pub more_count : rule_count (with_rule book block) ≡ suc n
  more_count =
      let e = more_length in
      omega arith

  pub more_head : head_of (with_rule book block) ≡ head_of book
  unfolding with_rule
  more_head = take-append-le 2048 book block (omega arith)

  pub more_within : Within book (with_rule book block) (λ q. q)
  unfolding with_rule
  more_within =
      let e = length-append book block in
      record {
        head = sym more_head;
        below = λ q l. omega arith;
        apart = λ p q n e. n e;
        same = λ q l. sym (part_left book block (512 * (4 + q)) 512 (omega arith));
      }

  -- the new rule is the last one
  pub more_last : rule_at (with_rule book block) n ≡ block
  unfolding with_rule
  more_last =
      part_right book block 0 512 (512 * (4 + n)) (omega arith) ∙ take_all 512 block (omega arith)

  pub more_accepted : BookAccepted (with_rule book block) → BookAccepted book
  more_accepted accepted =
      let e = more_length in
      let s = accepted_length (with_rule book block) accepted in
      accepted_within book (with_rule book block) (λ q. q) more_within n whole (omega arith) accepted

-- a book with rules, accepted with one more, is whole
pub more_whole :
    (book block : List ℕ)
    → length block ≡ 512
    → BookAccepted (with_rule book block)
    → 0 < rule_count book
    → length book ≡ 512 * (4 + rule_count book)
unfolding with_rule
more_whole book block long accepted some =
    let s = accepted_length (book ++ block) accepted in
    let e = length-append book block in
    omega arith

-- The numbers of the rules of a book with a rule less

pub number_low : (r q : ℕ) → q < r → number_before r q ≡ q
unfolding number_before
number_low r q l = rw (lt-ltb q r l)

pub number_high : (r q : ℕ) → r ≤ q → number_before r q ≡ suc q
unfolding number_before
number_high r q l = rw (le-ltb q r l)

pub number_apart : (r p q : ℕ) → (p ≡ q → ⊥) → number_before r p ≡ number_before r q → ⊥
unfolding number_before
number_apart r p q other = go (ltb p r) refl (ltb q r) refl
  where
    go : (a : Bool) → ltb p r ≡ a → (b : Bool) → ltb q r ≡ b → cond a p (suc p) ≡ cond b q (suc q) → ⊥
    go true e true f s = other s
    go true e false f s =
        let x = ltb-true p r e in
        let y = ltb-false q r f in
        omega arith
    go false e true f s =
        let x = ltb-false p r e in
        let y = ltb-true q r f in
        omega arith
    go false e false f s = other (omega arith)

pub number_other : (r q : ℕ) → number_before r q ≡ r → ⊥
unfolding number_before
number_other r q = go (ltb q r) refl
  where
    go : (a : Bool) → ltb q r ≡ a → cond a q (suc q) ≡ r → ⊥
    go true e s =
        let x = ltb-true q r e in
        omega arith
    go false e s =
        let x = ltb-false q r e in
        omega arith

-- A rule less

module _ (book : List ℕ) (n : ℕ) (whole : length book ≡ 512 * (4 + n)) (r : ℕ) (h : r < n) where
  front_length : length (take (512 * (4 + r)) book) ≡ 512 * (4 + r)
  front_length = length-take-le (512 * (4 + r)) book (omega arith)

  pub less_length : length (without_rule book r) ≡ 512 * (4 + (n - 1))
  unfolding without_rule
  less_length =
      let a = length-append (take (512 * (4 + r)) book) (drop (512 * (5 + r)) book) in
      let b = front_length in
      let c = length-drop (512 * (5 + r)) book in
      omega arith

  pub less_count : rule_count (without_rule book r) ≡ n - 1
  less_count =
      let e = less_length in
      omega arith

  pub less_head : head_of (without_rule book r) ≡ head_of book
  unfolding without_rule
  less_head =
      let b = front_length in
      take-append-le 2048 (take (512 * (4 + r)) book) (drop (512 * (5 + r)) book) (omega arith)
      ∙ take-take 2048 (512 * (4 + r)) book (omega arith)

  less_low : (q : ℕ) → q < r → rule_at (without_rule book r) q ≡ rule_at book q
  unfolding without_rule
  less_low q l =
      let b = front_length in
      part_left (take (512 * (4 + r)) book) (drop (512 * (5 + r)) book) (512 * (4 + q)) 512 (omega arith)
      ∙ part_front (512 * (4 + q)) 512 (512 * (4 + r)) book (omega arith)

  less_high : (q : ℕ) → r ≤ q → rule_at (without_rule book r) q ≡ rule_at book (suc q)
  unfolding without_rule
  less_high q l =
      let b = front_length in
      let e : 512 * (5 + r) + 512 * (q - r) ≡ 512 * (4 + suc q) = omega arith in
      part_right (take (512 * (4 + r)) book) (drop (512 * (5 + r)) book) (512 * (q - r)) 512 (512 * (4 + q))
      (omega arith)
      ∙ ap (λ (s : List ℕ). take 512 s) (drop-drop (512 * (q - r)) (512 * (5 + r)) book)
      ∙ ap (λ (k : ℕ). take 512 (drop k book)) e

  pub less_within : Within (without_rule book r) book (number_before r)
  unfolding number_before
  less_within =
      let c = less_count in
      record {
        head = less_head;
        below = λ q l. below q (omega arith) (ltb q r);
        apart = number_apart r;
        same = λ q l. same q (ltb q r) refl;
      }
    where
      below : (q : ℕ) → suc q < n → (b : Bool) → cond b q (suc q) < rule_count book
      below q l true = omega arith
      below q l false = omega arith

      same : (q : ℕ) (b : Bool) → ltb q r ≡ b → rule_at (without_rule book r) q ≡ rule_at book (cond b q (suc q))
      same q true e = less_low q (ltb-true q r e)
      same q false e = less_high q (ltb-false q r e)

pub less_accepted :
    (book : List ℕ) (r : ℕ) → BookAccepted book → r < rule_count book → BookAccepted (without_rule book r)
less_accepted book r accepted h =
    let s = accepted_length book accepted in
    let n = rule_count book in
    accepted_within (without_rule book r) book (number_before r) (less_within book n s.0 r h) (n - 1)
    (less_length book n s.0 r h) (omega arith) accepted
