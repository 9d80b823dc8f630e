-- Laws of second places that one rule settles: whether it takes a second place's thirds depends on the operation alone.
-- Assumes nothing.
use Prim.Native.Nat.{ℕ, zero, suc, ◌+◌, ◌-◌, ◌/◌, ◌%◌, ◌^◌, ◌≤◌, ◌<◌}
use native.Mathlib.Nat.{lt_of_le_of_lt}
use native.Mathlib.Omega.{arith}
use mathlib.Core.Path.{◌≡◌, refl, sym, ap, ◌∙◌}
use mathlib.Core.Bool.{Bool, true, false, ◌&&◌, ◌||◌, not}
use mathlib.Core.List.{List}
use lib.ListN.{get_or}
use lib.Dec.{eqb, ltb}
use lib.Bits.{bit_and, bit_or, and_le_r, or_lt}
use borrow.Author.Count.{below_more}
use borrow.Author.Tests.{not-true, eqb-true, eq-eqb, lt-ltb}
use Rattle.book.specs.Lists.{any, up_to}
use Rattle.book.specs.Sets.{has, WordOf}
use Rattle.book.proofs.Lists.{and_true, and_left, and_right, and_both, or_left, or_neither, or_right, or_rest, or_true}
use Rattle.book.proofs.Members.{has_zero, has_or, has_and, has_not}
use Rattle.verdicts.proofs.Quantifiers.{at_any}
use Rattle.search.specs.Inner.Places.{in_places}
use Rattle.search.specs.Inner.Table.{meets_words, takes_words, meets, takes_at}
use Rattle.search.specs.Inner.Closing.{accepted_at, closes_at, closes_by, closes}
use Rattle.search.specs.Inner.Search.{accepts, refuses, TakesAll, SettledBeside, SettledWith}
use Rattle.search.specs.Inner.Search.{Settled, SettledAt, SettledBy}
use Rattle.search.proofs.Sieves.{both}
use Rattle.search.proofs.PlaceLaws.{Mapped}
use Rattle.search.proofs.ClosingLaws.{order_at, turned}
use Rattle.search.specs.declared.tables.RuleTable.{RuleTable}

-- Tests

not_holds : (b : Bool) → not b ≡ false → b ≡ true
not_holds true e = refl
not_holds false e = sym e

-- the code's `a & !b`, at a bit of the word
minus_at : (a b p : ℕ) → b < 2 ^ 64 → has (bit_and a ((2 ^ 64 - 1) - b)) (p % 64) ≡ (has a (p % 64) && not (has b (p % 64)))
minus_at a b p fits = rw (has_and, has_not 64 b (p % 64) fits, lt-ltb (p % 64) 64 (omega arith))

-- Operations

-- what is accepted beside a place depends on its operation
pub accepted_operation :
    (t : List RuleTable) (q i k l b c d p : ℕ)
    → c % 64 ≡ d % 64
    → accepted_at t q i k l b c p ≡ accepted_at t q i k l b d p
unfolding accepted_at takes_at
accepted_operation t q i k l b c d p e =
    ap
    (λ (z : ℕ).
    any
    (λ j. takes_at t q i j p && (takes_at t q k j b && has (get_or (takes_words t q l) j 0) z)) (up_to 8))
    e

module _ (t : List RuleTable) (q i : ℕ) (thirds : List ℕ) (own other : ℕ) where
  -- word w of what the rule leaves
  abbrev pub word_left : ℕ → ℕ
  word_left w =
      bit_and (get_or thirds w 0) ((2 ^ 64 - 1)
      - bit_or own (bit_and (get_or (meets_words t q i) w 0) ((2 ^ 64 - 1) - other)))

  -- what the rule leaves of the first w words is in the rest
  abbrev pub Leaving : ℕ → ℕ → Type 0
  Leaving w rest = (k : ℕ) → k < w → (j : ℕ) → has rest j ≡ false → has (word_left k) j ≡ false

  pub leaving_more : (w rest : ℕ) → Leaving w rest → Leaving (w + 1) (bit_or rest (word_left w))
  leaving_more w rest old =
      below_more _ _ (λ k l j h. old k l j (or_neither (has rest j) (has (word_left w) j) (sym (has_or rest (word_left w) j) ∙ h)).0)
      (λ j h. (or_neither (has rest j) (has (word_left w) j) (sym (has_or rest (word_left w) j) ∙ h)).1)

  pub takes_all :
      (w rest : ℕ)
      → own < 2 ^ 64
      → other < 2 ^ 64
      → 33 ≤ w
      → rest ≡ 0
      → Leaving w rest
      → TakesAll t q i thirds own other
  unfolding in_places meets
  takes_all w rest fits small past empty leaving x l inside free =
      let met = get_or (meets_words t q i) (x / 64) 0 in
      let room : bit_or own (bit_and met ((2 ^ 64 - 1) - other)) < 2 ^ 64 =
      or_lt 64 own (bit_and met ((2 ^ 64 - 1) - other)) fits
      (lt_of_le_of_lt (and_le_r met ((2 ^ 64 - 1) - other)) (omega arith)) in
      let gone : has (word_left (x / 64)) (x % 64) ≡ false =
      leaving (x / 64) (omega arith) (x % 64) (ap (λ (k : ℕ). has k (x % 64)) empty ∙ has_zero (x % 64)) in
      not_holds (has met (x % 64) && not (has other (x % 64)))
      (rw (
        minus_at (get_or thirds (x / 64) 0) (bit_or own (bit_and met ((2 ^ 64 - 1) - other))) x room,
        has_or,
        minus_at met other x small,
        inside,
        free,
      ) at gone)

module _ (t : List RuleTable) (r n q i k l a : ℕ) (thirds : List ℕ) where
  -- a second place whose operations rule q settles
  pub settled_beside :
      (y own other : ℕ)
      → ((p : ℕ) → has own (p % 64) ≡ accepts t r n a y p)
      → ((p : ℕ) → has other (p % 64) ≡ accepted_at t q i k l a y p)
      → TakesAll t q i thirds own other
      → SettledBeside t r n q i k l a thirds y
  unfolding refuses
  settled_beside y own other eo et told x lx inside refusal =
      rw (← (et x)) (told x lx inside (eo x ∙ not-true (accepts t r n a y x) refusal))

  -- only its operation counts
  beside_operation :
      (y o : ℕ)
      → o % 64 ≡ y % 64
      → SettledBeside t r n q i k l a thirds o
      → SettledBeside t r n q i k l a thirds y
  unfolding refuses
  beside_operation y o e old x lx inside refusal =
      rw (← (accepted_operation t q i k l a o y x e))
      (old x lx inside
      (rw (accepted_operation t r ((2 + n) % 3) ((0 + n) % 3) ((1 + n) % 3) a o y x e) refusal))

  pub settled_with :
      (operations : ℕ)
      → ((o : ℕ) → o < 64 → has operations o ≡ true → SettledBeside t r n q i k l a thirds o)
      → SettledWith t r n q i k l a thirds operations
  settled_with operations each y h =
      beside_operation y (y % 64) (omega arith) (each (y % 64) (omega arith) h)

-- Second places

module _ (t : List RuleTable) (r n a : ℕ) (thirds : List ℕ) (taken : ℕ → ℕ → Bool) where
  pub settled_none : (seconds : List ℕ) → Settled t r n a thirds taken seconds seconds
  settled_none seconds =
      record {
        within = λ y l h. h;
        gone = λ y x ly lx h m inside refusal. both h m;
      }

  -- once more, for places that are taken too
  pub settled_more :
      (some : ℕ → ℕ → Bool) (before rest after : List ℕ)
      → ((y x : ℕ) → some y x ≡ true → taken y x ≡ true)
      → Settled t r n a thirds taken before rest
      → Settled t r n a thirds some rest after
      → Settled t r n a thirds taken before after
  settled_more some before rest after wider old new =
      record {
        within = λ y l h. old.within y l (new.within y l h);
        gone = λ y x ly lx h m inside refusal. go y x ly lx h m inside refusal (in_places rest y) refl;
      }
    where
      go :
          (y x : ℕ)
          → y < 2112
          → x < 2112
          → in_places before y ≡ true
          → in_places after y ≡ false
          → in_places thirds x ≡ true
          → refuses t r n a y x ≡ true
          → (b : Bool)
          → in_places rest y ≡ b
          → taken y x ≡ true
      go y x ly lx h m inside refusal true e = wider y x (new.gone y x ly lx e m inside refusal)
      go y x ly lx h m inside refusal false e = old.gone y x ly lx h e inside refusal

-- the places that meet reference l with one of the operations
pub settled_at :
    (t : List RuleTable) (r n q i k l a : ℕ) (thirds seconds rest : List ℕ) (operations w : ℕ)
    → operations < 2 ^ 64
    → meets t q k a ≡ true
    → SettledWith t r n q i k l a thirds operations
    → Mapped (λ j x. bit_and x ((2 ^ 64 - 1) - bit_and (get_or (meets_words t q l) j 0) operations)) seconds rest w
    → 33 ≤ w
    → SettledAt t r n q i k l a thirds seconds rest
unfolding closes_at in_places meets
settled_at t r n q i k l a thirds seconds rest operations w fits first with mapped past =
    record {
      within = λ y ly h.
          and_left (in_places seconds y) (not (meets t q l y && has operations (y % 64))) (sym (kept y ly) ∙ h);
      gone = λ y x ly lx h m inside refusal.
          let out = and_both (meets t q l y) (has operations (y % 64))
          (not_holds (meets t q l y && has operations (y % 64)) (rw h at (sym (kept y ly) ∙ m))) in
          let all = and_both (meets t q i x) (not (accepted_at t q i k l a y x)) (with y out.1 x lx inside refusal) in
          rw (all.0, first, out.0, all.1);
    }
  where
    kept : (y : ℕ) → y < 2112 → in_places rest y ≡ (in_places seconds y && not (meets t q l y && has operations (y % 64)))
    kept y ly =
        let met = get_or (meets_words t q l) (y / 64) 0 in
        let room : bit_and met operations < 2 ^ 64 = lt_of_le_of_lt (and_le_r met operations) fits in
        rw (
          mapped.below (y / 64) (omega arith),
          minus_at (get_or seconds (y / 64) 0) (bit_and met operations) y room,
          has_and,
        )

-- a placement of the three breaks the rule
module _ (t : List RuleTable) (q a y x : ℕ) where
  -- in one order or the other
  either :
      (i k l : ℕ) → (meets t q i x && closes_at t q i k l a y x) ≡ true → (meets t q i x && closes_by t q i k l a y x) ≡ true
  unfolding closes_by
  either i k l h =
      and_true (meets t q i x) (closes_at t q i k l a y x || closes_at t q i k l y a x)
      (and_left (meets t q i x) (closes_at t q i k l a y x) h)
      (or_left (closes_at t q i k l a y x) (closes_at t q i k l y a x)
      (and_right (meets t q i x) (closes_at t q i k l a y x) h))

  other :
      (i k l : ℕ) → (meets t q i x && closes_at t q i l k a y x) ≡ true → (meets t q i x && closes_by t q i k l a y x) ≡ true
  unfolding closes_by
  other i k l h =
      and_true (meets t q i x) (closes_at t q i k l a y x || closes_at t q i k l y a x)
      (and_left (meets t q i x) (closes_at t q i l k a y x) h)
      (or_right (closes_at t q i k l a y x) (closes_at t q i k l y a x)
      (sym (turned t q a y i k l x) ∙ and_right (meets t q i x) (closes_at t q i l k a y x) h))

  first_taken : (meets t q 0 x && closes_by t q 0 1 2 a y x) ≡ true → closes t q a y x ≡ true
  unfolding closes
  first_taken h =
      or_left (meets t q 0 x && closes_by t q 0 1 2 a y x)
      (meets t q 1 x && closes_by t q 1 0 2 a y x || meets t q 2 x && closes_by t q 2 0 1 a y x) h

  second_taken : (meets t q 1 x && closes_by t q 1 0 2 a y x) ≡ true → closes t q a y x ≡ true
  unfolding closes
  second_taken h =
      or_right (meets t q 0 x && closes_by t q 0 1 2 a y x)
      (meets t q 1 x && closes_by t q 1 0 2 a y x || meets t q 2 x && closes_by t q 2 0 1 a y x)
      (or_left (meets t q 1 x && closes_by t q 1 0 2 a y x) (meets t q 2 x && closes_by t q 2 0 1 a y x) h)

  third_taken : (meets t q 2 x && closes_by t q 2 0 1 a y x) ≡ true → closes t q a y x ≡ true
  unfolding closes
  third_taken h =
      or_right (meets t q 0 x && closes_by t q 0 1 2 a y x)
      (meets t q 1 x && closes_by t q 1 0 2 a y x || meets t q 2 x && closes_by t q 2 0 1 a y x)
      (or_right (meets t q 1 x && closes_by t q 1 0 2 a y x) (meets t q 2 x && closes_by t q 2 0 1 a y x) h)

-- in each of the six ways
pub order_closes :
    (t : List RuleTable) (q a y x m : ℕ)
    → m < 6
    → (meets t q (order_at m 0) x
    && closes_at t q (order_at m 0) (order_at m 1) (order_at m 2) a y x)
    ≡ true
    → closes t q a y x ≡ true
order_closes t q a y x zero l h = first_taken t q a y x (either t q a y x 0 1 2 h)
order_closes t q a y x (suc zero) l h = first_taken t q a y x (other t q a y x 0 1 2 h)
order_closes t q a y x (suc (suc zero)) l h = second_taken t q a y x (either t q a y x 1 0 2 h)
order_closes t q a y x (suc (suc (suc zero))) l h = second_taken t q a y x (other t q a y x 1 0 2 h)
order_closes t q a y x (suc (suc (suc (suc zero)))) l h = third_taken t q a y x (either t q a y x 2 0 1 h)
order_closes t q a y x (suc (suc (suc (suc (suc zero))))) l h = third_taken t q a y x (other t q a y x 2 0 1 h)
order_closes t q a y x (suc (suc (suc (suc (suc (suc m)))))) l h = absurd (omega arith)

-- The mark

module _ (t : List RuleTable) (r n rules a : ℕ) (thirds seconds : List ℕ) (seen last : ℕ) where
  pub marked_none :
      SettledBy t r n rules a thirds seconds seen (record { places = seconds; rules = seen; last = last })
  marked_none =
      record {
        settled =
            settled_none t r n a thirds (λ y x. any (λ q. has seen q && closes t q a y x) (up_to 32)) seconds;
        more = λ q h. h;
        only = λ q h m. both h m;
      }

  pub marked_one :
      (q one : ℕ) (places : List ℕ)
      → q < 32
      → has rules q ≡ true
      → WordOf (λ j. eqb j q) one
      → Settled t r n a thirds (closes t q a) seconds places
      → SettledBy t r n rules a thirds seconds seen
      (record { places = places; rules = bit_or seen one; last = last })
  marked_one q one places small among single settled =
      record {
        settled =
            record {
              within = settled.within;
              gone = λ y x ly lx h m inside refusal.
                  at_any (λ j. has (bit_or seen one) j && closes t j a y x) 32 q small
                  (and_true (has (bit_or seen one) q) (closes t q a y x) here
                  (settled.gone y x ly lx h m inside refusal));
            };
        more = λ j h. rw (has_or, h);
        only = λ j h m.
            let same : j ≡ q =
            eqb-true j q
            (and_right (ltb j 64) (eqb j q)
            (sym (single j) ∙ or_rest (has seen j) (has one j) (sym (has_or seen one j) ∙ h) m)) in
            rw same among;
      }
    where
      here : has (bit_or seen one) q ≡ true
      here = rw (has_or, single q, lt-ltb q 64 (omega arith), eq-eqb q q refl) (or_true (has seen q))
