-- Laws of the tables: the operations that some restriction takes beside two places, those that break a rule, and sets
-- less the places that do. Assumes nothing.
use Prim.Native.Nat.{ℕ, zero, suc, ◌+◌, ◌-◌, ◌/◌, ◌%◌, ◌^◌, ◌≤◌, ◌<◌}
use native.Mathlib.Omega.{arith}
use native.Mathlib.Nat.{lt_of_le_of_lt}
use mathlib.Core.Path.{◌≡◌, refl, sym, ap, ◌∙◌}
use mathlib.Core.Bool.{Bool, true, false, ◌&&◌, ◌||◌, not, cond}
use mathlib.Core.List.{List, []}
use lib.ListN.{length, get_or, set, replicate, length-set}
use lib.Seq.{get_or-set_same, get_or-set_other}
use lib.Bits.{bit_and, bit_or, and_le_r, or_lt}
use lib.Dec.{eqb}
use borrow.Author.Tests.{lt-ltb, eqb-true, eqb-false}
use Rattle.book.specs.Lists.{any, up_to, from}
use Rattle.book.specs.Sets.{has}
use Rattle.book.proofs.Lists.{any_none, any_more, any_same, and_both, and_false, or_end, or_assoc, and_assoc}
use Rattle.book.proofs.Members.{has_zero, has_or, has_and, has_not, has_minus}
use Rattle.verdicts.proofs.Marks.{has_if}
use Rattle.search.specs.Inner.Places.{in_places}
use Rattle.search.proofs.PlaceLaws.{Mapped, zero_words}
use Rattle.search.specs.Inner.Table.{meets, takes_at, meets_words, takes_words}
use Rattle.search.specs.Inner.Closing.{accepted_at, orders, closes_at, closes_by, meets_with, Masked}
use Rattle.search.specs.declared.tables.RuleTable.{RuleTable}

and_swap : (u v : Bool) → (u && v) ≡ (v && u)
and_swap true true = refl
and_swap true false = refl
and_swap false true = refl
and_swap false false = refl

module _ (t : List RuleTable) (q i k l b c : ℕ) where
  -- The restrictions

  -- restriction j takes p at i, b at k and c at l
  abbrev pub taking : ℕ → ℕ → Bool
  taking p j = takes_at t q i j p && (takes_at t q k j b && takes_at t q l j c)

  -- the operations that one of the first n restrictions takes at i
  abbrev pub Accepting : ℕ → ℕ → Type 0
  Accepting n word = (p : ℕ) → has word (p % 64) ≡ any (taking p) (up_to n)

  pub accepting_none : Accepting 0 0
  accepting_none p = rw (has_zero, any_none (taking p))

  pub accepting_more :
      (j word first second third r : ℕ) (x y : Bool)
      → Accepting j word
      → first ≡ get_or (takes_words t q k) j 0
      → second ≡ get_or (takes_words t q l) j 0
      → third ≡ get_or (takes_words t q i) j 0
      → x ≡ has first (b % 64)
      → y ≡ has second (c % 64)
      → r ≡ cond (x && y) third 0
      → Accepting (j + 1) (bit_or word r)
  unfolding takes_at
  accepting_more j word first second third r x y old ef es et ex ey er p =
      rw (has_or, old p, has_if (x && y) third r (p % 64) er, ex, ey, ef, es, et, any_more (taking p) j)
      (ap (λ (z : Bool). any (taking p) (up_to j) || z)
      (and_swap (takes_at t q k j b && takes_at t q l j c) (takes_at t q i j p)))

  pub accepting_end : (n word : ℕ) → n ≡ 8 → Accepting n word → (p : ℕ)
      → has word (p % 64) ≡ accepted_at t q i k l b c p
  unfolding accepted_at
  accepting_end n word e old p = rw (← e) (old p)

-- reference j of order m
abbrev pub order_at : ℕ → ℕ → ℕ
order_at m j = get_or (get_or orders m []) j 0

-- What breaks the rule

module _ (t : List RuleTable) (q b c : ℕ) where
  -- places that change theirs
  pub turned : (i k l p : ℕ) → closes_at t q i l k b c p ≡ closes_at t q i k l c b p
  unfolding closes_at accepted_at
  turned i k l p =
      rw
      (any_same (λ j. takes_at t q i j p && (takes_at t q l j b && takes_at t q k j c))
      (λ j. takes_at t q i j p && (takes_at t q k j c && takes_at t q l j b))
      (λ j. ap (λ (x : Bool). takes_at t q i j p && x) (and_swap (takes_at t q l j b) (takes_at t q k j c))) (up_to 8))
      (swap_first (meets t q k c) (meets t q l b)
      (not (any (λ j. takes_at t q i j p && (takes_at t q k j c && takes_at t q l j b)) (up_to 8))))
    where
      swap_first : (u v w : Bool) → (v && (u && w)) ≡ (u && (v && w))
      swap_first true v w = refl
      swap_first false true w = refl
      swap_first false false w = refl

  -- two that meet theirs, and two that don't
  pub closing_met :
      (i k l word p : ℕ) (x y : Bool)
      → (x && y) ≡ true
      → x ≡ meets t q k b
      → y ≡ meets t q l c
      → word < 2 ^ 64
      → has word (p % 64) ≡ accepted_at t q i k l b c p
      → has ((2 ^ 64 - 1) - word) (p % 64) ≡ closes_at t q i k l b c p
  unfolding closes_at
  closing_met i k l word p x y both ex ey fits e =
      let met = and_both x y both in
      rw (has_not 64 word (p % 64) fits, lt-ltb (p % 64) 64 (omega arith), e, ← ex, ← ey, met.0, met.1)

  pub closing_unmet :
      (i k l p : ℕ) (x y : Bool)
      → (x && y) ≡ false
      → x ≡ meets t q k b
      → y ≡ meets t q l c
      → closes_at t q i k l b c p ≡ false
  unfolding closes_at
  closing_unmet i k l p x y one ex ey = rw (← ex, ← ey, ← and_assoc, one)

  -- place p breaks it at reference i, the others in order m
  abbrev pub breaking : ℕ → ℕ → ℕ → Bool
  breaking i p m = eqb (order_at m 0) i && closes_at t q (order_at m 0) (order_at m 1) (order_at m 2) b c p

  -- the operations that do so in one of the first n orders
  pub record Masking (masks : List ℕ) (n : ℕ) : Type 0 where
    pub bound : n ≤ 6
    pub size : length masks ≡ 3
    pub at : (i p : ℕ) → i < 3 → has (get_or masks i 0) (p % 64) ≡ any (breaking i p) (up_to n)

  pub masking_none : Masking (replicate 3 0) 0
  masking_none =
      record {
        bound = omega arith;
        size = refl;
        at = λ i p l. ap (λ (w : ℕ). has w (p % 64)) (zero_words 3 i) ∙ has_zero (p % 64) ∙ sym (any_none (breaking i p));
      }

  order_small : (n : ℕ) → n < 6 → order_at n 0 < 3
  order_small zero l = omega arith
  order_small (suc zero) l = omega arith
  order_small (suc (suc zero)) l = omega arith
  order_small (suc (suc (suc zero))) l = omega arith
  order_small (suc (suc (suc (suc zero)))) l = omega arith
  order_small (suc (suc (suc (suc (suc zero))))) l = omega arith
  order_small (suc (suc (suc (suc (suc (suc n)))))) l = absurd (omega arith)

  -- the operations that break the rule in one order more
  pub masking_more :
      (masks : List ℕ) (n word : ℕ)
      → n < 6
      → ((p : ℕ) → has word (p % 64) ≡ closes_at t q (order_at n 0) (order_at n 1) (order_at n 2) b c p)
      → Masking masks n
      → Masking (set masks (order_at n 0) (bit_or (get_or masks (order_at n 0) 0) word)) (n + 1)
  masking_more masks n word l new old =
      record {
        bound = omega arith;
        size = length-set masks (order_at n 0) (bit_or (get_or masks (order_at n 0) 0) word) ∙ old.size;
        at = λ i p s. sym (any_more (breaking i p) n ∙ ap (λ (x : Bool). x || breaking i p n) (sym (old.at i p s)) ∙ go i p s (eqb (order_at n 0) i) refl);
      }
    where
      go :
          (i p : ℕ)
          → i < 3
          → (x : Bool)
          → eqb (order_at n 0) i ≡ x
          → (has (get_or masks i 0) (p % 64) || (x && closes_at t q (order_at n 0) (order_at n 1) (order_at n 2) b c p))
          ≡ has (get_or (set masks (order_at n 0) (bit_or (get_or masks (order_at n 0) 0) word)) i 0) (p % 64)
      go i p s true e =
          let same : order_at n 0 ≡ i = eqb-true (order_at n 0) i e in
          rw (
            ← same,
            get_or-set_same masks (order_at n 0) (bit_or (get_or masks (order_at n 0) 0) word) 0
                (omega (arith, old.size, order_small n l)),
            has_or,
            new p,
          )
      go i p s false e =
          rw (
            get_or-set_other masks (order_at n 0) i (bit_or (get_or masks (order_at n 0) 0) word) 0
                (λ z. eqb-false (order_at n 0) i e (sym z)),
            or_end,
          )

  -- the two don't meet theirs
  pub masking_skip :
      (masks : List ℕ) (n : ℕ)
      → n < 6
      → ((p : ℕ) → closes_at t q (order_at n 0) (order_at n 1) (order_at n 2) b c p ≡ false)
      → Masking masks n
      → Masking masks (n + 1)
  masking_skip masks n l none old =
      record {
        bound = omega arith;
        size = old.size;
        at = λ i p s. old.at i p s
            ∙ sym (any_more (breaking i p) n ∙ rw (none p, and_false, or_end));
      }

  pub masking_end : (masks : List ℕ) (n : ℕ) → 6 ≤ n → Masking masks n → Masked t q b c masks
  unfolding closes_by any up_to from
  masking_end masks n past old =
      let six : n ≡ 6 = omega (arith, old.bound) in
      let all = rw six at old in
      record {
        first = λ p. all.at 0 p (omega arith) ∙ rw (← (turned 0 1 2 p), or_end);
        second = λ p. all.at 1 p (omega arith) ∙ rw (← (turned 1 0 2 p), or_end);
        third = λ p. all.at 2 p (omega arith) ∙ rw (← (turned 2 0 1 p), or_end);
      }

-- Sets without what breaks a rule

module _ (t : List RuleTable) (q : ℕ) (masks : List ℕ) where
  -- word w of the places that meet a reference with one of the operations given for it
  abbrev pub closing_word : ℕ → ℕ
  closing_word w =
      bit_or
      (bit_or (bit_and (get_or (meets_words t q 0) w 0) (get_or masks 0 0))
      (bit_and (get_or (meets_words t q 1) w 0) (get_or masks 1 0)))
      (bit_and (get_or (meets_words t q 2) w 0) (get_or masks 2 0))

  -- the code's `x & !y`
  abbrev pub without_closing : ℕ → ℕ → ℕ
  without_closing w x = bit_and x ((2 ^ 64 - 1) - closing_word w)

  pub without_places :
      (set rest : List ℕ) (w p : ℕ)
      → get_or masks 0 0 < 2 ^ 64
      → get_or masks 1 0 < 2 ^ 64
      → get_or masks 2 0 < 2 ^ 64
      → get_or set (p / 64) 0 < 2 ^ 64
      → Mapped without_closing set rest w
      → p / 64 < w
      → in_places rest p ≡ (in_places set p && not (meets_with t q masks p))
  unfolding in_places meets
  without_places set rest w p lf ls lt fits mapped below =
      let a = get_or (meets_words t q 0) (p / 64) 0 in
      let b = get_or (meets_words t q 1) (p / 64) 0 in
      let c = get_or (meets_words t q 2) (p / 64) 0 in
      let small : closing_word (p / 64) < 2 ^ 64 =
      or_lt 64 (bit_or (bit_and a (get_or masks 0 0)) (bit_and b (get_or masks 1 0))) (bit_and c (get_or masks 2 0))
      (or_lt 64 (bit_and a (get_or masks 0 0)) (bit_and b (get_or masks 1 0))
      (lt_of_le_of_lt (and_le_r a (get_or masks 0 0)) lf) (lt_of_le_of_lt (and_le_r b (get_or masks 1 0)) ls))
      (lt_of_le_of_lt (and_le_r c (get_or masks 2 0)) lt) in
      rw (mapped.below (p / 64) below)
      (rw (
        has_minus 64 (get_or set (p / 64) 0) (closing_word (p / 64)) (p % 64) fits small,
        has_or,
        has_or,
        has_and,
        has_and,
        has_and,
        or_assoc,
      ))
