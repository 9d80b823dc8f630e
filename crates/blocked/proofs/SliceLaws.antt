-- Laws of pairs of operations as words: one restriction more, and the words of each order and rule. Assumes nothing.
use Prim.Native.Nat.{ℕ, zero, suc, ◌+◌, ◌-◌, ◌*◌, ◌/◌, ◌%◌, ◌^◌, ◌≤◌, ◌<◌}
use native.Mathlib.Nat.{zero-add, lt_of_le_of_lt}
use native.Mathlib.Omega.{arith}
use mathlib.Core.Path.{◌≡◌, refl, sym, ◌∙◌, ap}
use mathlib.Core.Bool.{Bool, true, false, ◌&&◌, ◌||◌, not}
use mathlib.Core.List.{List, [], ◌∷◌}
use lib.ListN.{length, get_or, set, length-set}
use lib.Seq.{get_or-set_same, get_or-set_other}
use lib.Dec.{eqb}
use lib.Bits.{bit_and, bit_or, and_le_l}
use borrow.Author.Tests.{eqb-true, eqb-false, ne_eqb}
use Rattle.book.specs.Lists.{any, up_to}
use Rattle.book.specs.Sets.{has, WordOf}
use Rattle.book.proofs.Lists.{any_none, any_more, or_end, and_end, and_false}
use Rattle.book.proofs.Members.{has_zero, has_or, has_and}
use Rattle.search.specs.Inner.Table.{takes_at, takes_words}
use Rattle.search.specs.Inner.Closing.{accepted_at}
use Rattle.search.proofs.Fours.{has_cut}
use Rattle.search.proofs.Sieves.{both, later_member, low_rules, without_single}
use Rattle.search.proofs.PlaceLaws.{has_shift}
use Rattle.search.specs.declared.tables.RuleTable.{RuleTable}
use Rattle.blocked.specs.Inner.Pairs.{AcceptedWords, OrderHolds, first_at, second_at, slice_at, third_at}

-- what holds of each of four words
pub four_words :
    (P : ℕ → ℕ → Type 0) (a b c d : ℕ)
    → P 0 a
    → P 1 b
    → P 2 c
    → P 3 d
    → (w : ℕ)
    → w < 4
    → P w (get_or (a ∷ b ∷ c ∷ d ∷ []) w 0)
four_words P a b c d pa pb pc pd zero h = pa
four_words P a b c d pa pb pc pd (suc zero) h = pb
four_words P a b c d pa pb pc pd (suc (suc zero)) h = pc
four_words P a b c d pa pb pc pd (suc (suc (suc zero))) h = pd
four_words P a b c d pa pb pc pd (suc (suc (suc (suc w)))) h = absurd (omega arith)

module _ (t : List RuleTable) (q i k l a : ℕ) where
  -- restriction j takes pair b of word w
  abbrev pub taking_pair : ℕ → ℕ → ℕ → Bool
  taking_pair w b j = takes_at t q i j b && (takes_at t q k j a && takes_at t q l j (4 * w + b / 16))

  -- word w of the pairs that one of the first n restrictions takes
  abbrev pub PairWord : ℕ → ℕ → ℕ → Type 0
  PairWord n w word = (b : ℕ) → b < 64 → has word b ≡ any (taking_pair w b) (up_to n)

  abbrev pub PairWords : ℕ → List ℕ → Type 0
  PairWords n words = (w : ℕ) → w < 4 → PairWord n w (get_or words w 0)

  pub pairs_none : PairWords 0 (0 ∷ 0 ∷ 0 ∷ 0 ∷ [])
  pairs_none = four_words (PairWord 0) 0 0 0 0 (none 0) (none 1) (none 2) (none 3)
    where
      none : (w : ℕ) → PairWord 0 w 0
      none w b n = rw (has_zero, any_none (taking_pair w b))

  -- a restriction that does not take a at k takes no pair
  pub pairs_skip :
      (j first : ℕ) (x : Bool) (words : List ℕ)
      → PairWords j words
      → first ≡ get_or (takes_words t q k) j 0
      → x ≡ has first (a % 64)
      → not x ≡ true
      → PairWords (j + 1) words
  unfolding takes_at
  pairs_skip j first x words old ef ex e w m b n =
      let no : has (get_or (takes_words t q k) j 0) (a % 64) ≡ false = rw (← ef) (sym ex ∙ off x e) in
      rw (any_more (taking_pair w b) j, no, and_false, or_end) (old w m b n)
    where
      off : (y : Bool) → not y ≡ true → y ≡ false
      off true h = sym h
      off false h = refl

  -- one that takes it takes the pairs of the other two words
  pub pairs_more :
      (j first second third r₀ r₁ r₂ r₃ : ℕ) (x : Bool) (words : List ℕ)
      → PairWords j words
      → first ≡ get_or (takes_words t q k) j 0
      → x ≡ has first (a % 64)
      → not x ≡ false
      → second ≡ get_or (takes_words t q l) j 0
      → third ≡ get_or (takes_words t q i) j 0
      → ((n : ℕ) → n < 64 → has r₀ n ≡ has second (n / 16))
      → ((n : ℕ) → n < 64 → has r₁ n ≡ has (second / 2 ^ 4) (n / 16))
      → ((n : ℕ) → n < 64 → has r₂ n ≡ has (second / 2 ^ 8) (n / 16))
      → ((n : ℕ) → n < 64 → has r₃ n ≡ has (second / 2 ^ 12) (n / 16))
      → PairWords (j + 1)
      (bit_or (get_or words 0 0) (bit_and r₀ third)
      ∷ bit_or (get_or words 1 0) (bit_and r₁ third)
      ∷ bit_or (get_or words 2 0) (bit_and r₂ third)
      ∷ bit_or (get_or words 3 0) (bit_and r₃ third)
      ∷ [])
  unfolding takes_at
  pairs_more j first second third r₀ r₁ r₂ r₃ x words old ef ex e es et e₀ e₁ e₂ e₃ =
      four_words (PairWord (j + 1)) _ _ _ _ (one 0 (omega arith) r₀ (λ n h. e₀ n h ∙ rw zero-add))
      (one 1 (omega arith) r₁ (λ n h. e₁ n h ∙ has_shift second 4 (n / 16)))
      (one 2 (omega arith) r₂ (λ n h. e₂ n h ∙ has_shift second 8 (n / 16)))
      (one 3 (omega arith) r₃ (λ n h. e₃ n h ∙ has_shift second 12 (n / 16)))
    where
      on : (y : Bool) → not y ≡ false → y ≡ true
      on true h = refl
      on false h = sym h

      swap : (u v : Bool) → (u && v) ≡ (v && u)
      swap true true = refl
      swap true false = refl
      swap false true = refl
      swap false false = refl

      one :
          (w : ℕ)
          → w < 4
          → (r : ℕ)
          → ((n : ℕ) → n < 64 → has r n ≡ has second (4 * w + n / 16))
          → PairWord (j + 1) w (bit_or (get_or words w 0) (bit_and r third))
      one w m r er b n =
          let taken : has (get_or (takes_words t q k) j 0) (a % 64) ≡ true = rw (← ef) (sym ex ∙ on x e) in
          let low : b % 64 ≡ b = omega arith in
          let lower : (4 * w + b / 16) % 64 ≡ 4 * w + b / 16 = omega arith in
          rw (has_or, has_and, old w m b n, er b n, any_more (taking_pair w b) j, taken, low, lower, es, et)
          (ap (λ (z : Bool). any (taking_pair w b) (up_to j) || z)
          (swap (has (get_or (takes_words t q l) j 0) (4 * w + b / 16))
          (has (get_or (takes_words t q i) j 0) b)))

  pub pairs_end : (n : ℕ) (words : List ℕ) → n ≡ 8 → PairWords n words → AcceptedWords t q i k l a words
  unfolding accepted_at
  pairs_end n words e old w b m s = rw (← e) (old w m b s)

-- The words of each rule of a mask

module _ (t : List RuleTable) (mask i k l a : ℕ) where
  -- what the four words of rule q tell
  abbrev pub SliceOf : List (List ℕ) → ℕ → Type 0
  SliceOf s q =
      (w b : ℕ) → w < 4 → b < 64 → has (slice_at s q w) b ≡ accepted_at t q i k l a (4 * w + b / 16) b

  -- the rules that do not wait have had their turn
  pub record Slicing (s : List (List ℕ)) (waiting : ℕ) : Type 0 where
    pub size : length s ≡ 32
    pub fits : waiting < 2 ^ 64
    pub members : (q : ℕ) → has waiting q ≡ true → q < 32
    pub turned : (q : ℕ) → q < 32 → has mask q ≡ true → has waiting q ≡ false → SliceOf s q

  -- all wait first
  pub slicing_start : (s : List (List ℕ)) → length s ≡ 32 → Slicing s (mask % 4294967296)
  slicing_start s size =
      record {
        size = size;
        fits = omega arith;
        members = λ q h. (low_rules mask q h).0;
        turned = λ q lq h none. both (has_cut 32 mask q lq ∙ h) none;
      }

  -- rule q has had its turn
  pub slicing_more :
      (s : List (List ℕ)) (words : List ℕ) (waiting one q : ℕ)
      → one < 2 ^ 64
      → WordOf (λ j. eqb j q) one
      → has waiting q ≡ true
      → AcceptedWords t q i k l a words
      → Slicing s waiting
      → Slicing (set s (q % 32) words) (bit_and waiting ((2 ^ 64 - 1) - one))
  slicing_more s words waiting one q lo single member new old =
      record {
        size = length-set s (q % 32) words ∙ old.size;
        fits = lt_of_le_of_lt (and_le_l waiting ((2 ^ 64 - 1) - one)) old.fits;
        members = λ j h. old.members j (later_member waiting one j h);
        turned = λ j lj h none. go j lj h none (eqb j q) refl;
      }
    where
      here : q % 32 ≡ q
      here =
          let low : q < 32 = old.members q member in
          omega arith

      go :
          (j : ℕ)
          → j < 32
          → has mask j ≡ true
          → has (bit_and waiting ((2 ^ 64 - 1) - one)) j ≡ false
          → (x : Bool)
          → eqb j q ≡ x
          → SliceOf (set s (q % 32) words) j
      go j lj h none true e w b lw lb =
          let low : q < 32 = old.members q member in
          let size : length s ≡ 32 = old.size in
          rw (eqb-true j q e, here, get_or-set_same s q words [] (omega arith)) (new w b lw lb)
      go j lj h none false e w b lw lb =
          let apart = eqb-false j q e in
          rw (here, get_or-set_other s q j words [] apart)
          (old.turned j lj h
          (rw (without_single waiting one q j old.fits lo single, ne_eqb j q apart, and_false, and_end) at none)
          w b lw lb)

  -- none waits any more
  pub slicing_end : (s : List (List ℕ)) (waiting : ℕ) → waiting ≡ 0 → Slicing s waiting → OrderHolds t mask i k l a s
  slicing_end s waiting z old q w b lq lw lb h = old.turned q lq h (rw z (has_zero q)) w b lw lb

-- The words of each order

module _ (t : List RuleTable) (masks : List ℕ) (a : ℕ) where
  -- the orders below v have had their turn
  pub record Sliced (s : List (List (List ℕ))) (v : ℕ) : Type 0 where
    pub size : length s ≡ 6
    pub bound : v ≤ 6
    pub turned :
        (u : ℕ) → u < v → OrderHolds t (get_or masks u 0) (third_at u) (first_at u) (second_at u) a (get_or s u [])

  pub sliced_more :
      (s : List (List (List ℕ))) (v i k l : ℕ) (words : List (List ℕ))
      → v < 6
      → k ≡ first_at v
      → l ≡ second_at v
      → i ≡ third_at v
      → OrderHolds t (get_or masks v 0) i k l a words
      → Sliced s v
      → Sliced (set s v words) (v + 1)
  sliced_more s v i k l words lv ek el ei new old =
      record {
        size = length-set s v words ∙ old.size;
        bound = omega arith;
        turned = λ u lu. go u lu (eqb u v) refl;
      }
    where
      go :
          (u : ℕ)
          → u < v + 1
          → (x : Bool)
          → eqb u v ≡ x
          → OrderHolds t (get_or masks u 0) (third_at u) (first_at u) (second_at u) a (get_or (set s v words) u [])
      go u lu true e =
          let size : length s ≡ 6 = old.size in
          rw (eqb-true u v e, get_or-set_same s v words [] (omega arith), ← ek, ← el, ← ei) new
      go u lu false e =
          let other = eqb-false u v e in
          rw (get_or-set_other s v u words [] other) (old.turned u (omega arith))
