-- Laws of pairs of operations that rules narrow: one rule after another takes what it does not accept.
-- Assumes nothing.
use Prim.Native.Nat.{ℕ, zero, suc, ◌+◌, ◌-◌, ◌/◌, ◌%◌, ◌^◌, ◌≤◌, ◌<◌}
use native.Mathlib.Nat.{lt_of_le_of_lt}
use native.Mathlib.Omega.{arith}
use mathlib.Core.Path.{◌≡◌, refl, sym, ap, ◌∙◌}
use mathlib.Core.Bool.{Bool, true, false, ◌&&◌, ◌||◌, not, cond}
use mathlib.Core.Logic.{⊎_elim}
use mathlib.Core.List.{List, [], ◌∷◌}
use lib.ListN.{length, get_or, set, length-set}
use lib.Dec.{eqb, ltb}
use lib.Bits.{bit_and, bit_or, and_le_l, and_le_r, or_lt}
use lib.Count.{count_trailing_zeros}
use borrow.Author.Tests.{eqb-true, eqb-false, eq-eqb, ne_eqb, lt-ltb, not-true}
use Rattle.book.specs.Lists.{all, up_to}
use Rattle.book.specs.Sets.{has, WordOf}
use Rattle.book.proofs.Lists.{and_true, and_left, and_right, and_end, and_false, all_at, at_all}
use Rattle.book.proofs.Lists.{or_either, or_holds, or_true, same_test}
use Rattle.book.proofs.Members.{has_and, has_or, has_zero}
use Rattle.search.proofs.Fours.{has_cut}
use Rattle.search.proofs.Sieves.{both, low_rules, without_single}
use Rattle.search.proofs.PlaceLaws.{trailing_member}
use Rattle.search.specs.Inner.Table.{in_four}
use Rattle.blocked.specs.Inner.Pairs.{Narrowed, Accepts, Answers, slice_at}

implies : (a c : Bool) → (a ≡ true → c ≡ true) → (not a || c) ≡ true
implies true c h = h refl
implies false c h = refl

-- Four words

-- four words as one
abbrev pub joined : List ℕ → ℕ
joined rest = bit_or (bit_or (bit_or (get_or rest 0 0) (get_or rest 1 0)) (get_or rest 2 0)) (get_or rest 3 0)

-- a member of the four words is in one of them
from_joined :
    (rest : List ℕ) (b : ℕ) → has (joined rest) b ≡ true → (w : ℕ) × (w < 4) × (has (get_or rest w 0) b ≡ true)
from_joined rest b h =
    ⊎_elim
    (λ left.
    ⊎_elim
    (λ low.
    ⊎_elim (λ e. (0, omega arith, e)) (λ e. (1, omega arith, e))
    (or_either (has (get_or rest 0 0) b) (has (get_or rest 1 0) b)
    (sym (has_or (get_or rest 0 0) (get_or rest 1 0) b) ∙ low)))
    (λ e. (2, omega arith, e))
    (or_either (has two b) (has (get_or rest 2 0) b) (sym (has_or two (get_or rest 2 0) b) ∙ left)))
    (λ e. (3, omega arith, e))
    (or_either (has three b) (has (get_or rest 3 0) b) (sym (has_or three (get_or rest 3 0) b) ∙ h))
  where
    two : ℕ
    two = bit_or (get_or rest 0 0) (get_or rest 1 0)

    three : ℕ
    three = bit_or two (get_or rest 2 0)

to_joined : (rest : List ℕ) (b w : ℕ) → w < 4 → has (get_or rest w 0) b ≡ true → has (joined rest) b ≡ true
to_joined rest b zero l h = rw (has_or, has_or, has_or, h)
to_joined rest b (suc zero) l h = rw (has_or, has_or, has_or, h, or_true)
to_joined rest b (suc (suc zero)) l h = rw (has_or, has_or, h, or_true)
to_joined rest b (suc (suc (suc zero))) l h = rw (has_or, h, or_true)
to_joined rest b (suc (suc (suc (suc w)))) l h = absurd (omega arith)

-- The loop over rules

-- the rules of a set that do not wait have had their turn
pub record Narrowing (s : List (List ℕ)) (rules : ℕ) (before rest : List ℕ) (waiting : ℕ) : Type 0 where
  pub fits : waiting < 2 ^ 64
  pub size : length rest ≡ 4
  pub fewer : (w : ℕ) → w < 4 → get_or rest w 0 ≤ get_or before w 0
  pub members : (q : ℕ) → has waiting q ≡ true → (q < 32) × (has rules q ≡ true)
  pub within : (w b : ℕ) → w < 4 → has (get_or rest w 0) b ≡ true → has (get_or before w 0) b ≡ true
  pub passed :
      (w b q : ℕ)
      → w < 4
      → q < 32
      → has rules q ≡ true
      → has waiting q ≡ false
      → has (get_or rest w 0) b ≡ true
      → has (slice_at s q w) b ≡ true
  pub stays :
      (w b : ℕ)
      → w < 4
      → has (get_or before w 0) b ≡ true
      → ((q : ℕ) → q < 32 → has rules q ≡ true → has waiting q ≡ false → has (slice_at s q w) b ≡ true)
      → has (get_or rest w 0) b ≡ true

-- word k of some words, cut by a word
abbrev pub cut_at : List ℕ → ℕ → ℕ → List ℕ
cut_at rest k a = set rest k (bit_and (get_or rest k 0) a)

-- each of four words cut by one of four others
abbrev pub cut_by : List ℕ → List ℕ → List ℕ
cut_by rest words =
    cut_at (cut_at (cut_at (cut_at rest 0 (get_or words 0 0)) 1 (get_or words 1 0)) 2 (get_or words 2 0)) 3
    (get_or words 3 0)

pub cut_size : (rest words : List ℕ) → length rest ≡ 4 → length (cut_by rest words) ≡ 4
cut_size rest words n = rw (length-set, length-set, length-set, length-set) n

four_cut :
    (words rest : List ℕ)
    → length rest ≡ 4
    → (w : ℕ)
    → w < 4
    → get_or (cut_by rest words) w 0 ≡ bit_and (get_or rest w 0) (get_or words w 0)
four_cut words (x ∷ y ∷ z ∷ u ∷ []) n zero l = refl
four_cut words (x ∷ y ∷ z ∷ u ∷ []) n (suc zero) l = refl
four_cut words (x ∷ y ∷ z ∷ u ∷ []) n (suc (suc zero)) l = refl
four_cut words (x ∷ y ∷ z ∷ u ∷ []) n (suc (suc (suc zero))) l = refl
four_cut words (x ∷ y ∷ z ∷ u ∷ []) n (suc (suc (suc (suc w)))) l = absurd (omega arith)
four_cut words [] n w l = absurd (omega arith)
four_cut words (x ∷ []) n w l = absurd (omega arith)
four_cut words (x ∷ y ∷ []) n w l = absurd (omega arith)
four_cut words (x ∷ y ∷ z ∷ []) n w l = absurd (omega arith)
four_cut words (x ∷ y ∷ z ∷ u ∷ t ∷ l) n w k = absurd (omega arith)

-- a rule's turn
pub turn :
    (s : List (List ℕ)) (q : ℕ) (rest : List ℕ)
    → length rest ≡ 4
    → q < 32
    → (w : ℕ)
    → w < 4
    → get_or (cut_by rest (get_or s (q % 32) [])) w 0 ≡ bit_and (get_or rest w 0) (slice_at s q w)
turn s q rest n l w k =
    let same : q % 32 ≡ q = omega arith in
    four_cut (get_or s (q % 32) []) rest n w k ∙ ap (λ (x : ℕ). bit_and (get_or rest w 0) (slice_at s x w)) same

module _ (s : List (List ℕ)) (rules : ℕ) where
  -- all wait first
  pub narrowing_start : (rest : List ℕ) → length rest ≡ 4 → Narrowing s rules rest rest (rules % 4294967296)
  narrowing_start rest n =
      record {
        fits = omega arith;
        size = n;
        fewer = λ w l. omega arith;
        members = low_rules rules;
        within = λ w b l h. h;
        passed = λ w b q l m h d. both (has_cut 32 rules q m ∙ h) d;
        stays = λ w b l h each. h;
      }

  -- rule q has had its turn
  pub narrowing_more :
      (before rest after : List ℕ) (waiting one q : ℕ)
      → one < 2 ^ 64
      → WordOf (λ i. eqb i q) one
      → has waiting q ≡ true
      → length after ≡ 4
      → (q < 32 → (w : ℕ) → w < 4 → get_or after w 0 ≡ bit_and (get_or rest w 0) (slice_at s q w))
      → Narrowing s rules before rest waiting
      → Narrowing s rules before after (bit_and waiting ((2 ^ 64 - 1) - one))
  narrowing_more before rest after waiting one q lo single h n turn old =
      record {
        fits = lt_of_le_of_lt (and_le_l waiting ((2 ^ 64 - 1) - one)) old.fits;
        size = n;
        fewer = λ w l.
            let less : get_or after w 0 ≤ get_or rest w 0 =
            rw (turn small w l) (and_le_l (get_or rest w 0) (slice_at s q w)) in
            omega (arith, old.fewer w l);
        members = λ j m. old.members j (later j m);
        within = λ w b l m.
            old.within w b l (and_left (has (get_or rest w 0) b) (has (slice_at s q w) b) (cut w b l m));
        passed = λ w b j l m r d k. passes w b j l m r d (cut w b l k) (eqb j q) refl;
        stays = λ w b l m each.
            ap (λ (x : ℕ). has x b) (turn small w l)
            ∙ has_and (get_or rest w 0) (slice_at s q w) b
            ∙ and_true (has (get_or rest w 0) b) (has (slice_at s q w) b)
            (old.stays w b l m (λ j k r d. each j k r (not_later j d)))
            (each q small (old.members q h).1 gone);
      }
    where
      small : q < 32
      small = (old.members q h).0

      without :
          (j : ℕ) → has (bit_and waiting ((2 ^ 64 - 1) - one)) j ≡ (has waiting j && not (ltb j 64 && eqb j q))
      without j = without_single waiting one q j old.fits lo single

      later : (j : ℕ) → has (bit_and waiting ((2 ^ 64 - 1) - one)) j ≡ true → has waiting j ≡ true
      later j m = and_left (has waiting j) (not (ltb j 64 && eqb j q)) (sym (without j) ∙ m)

      not_later : (j : ℕ) → has waiting j ≡ false → has (bit_and waiting ((2 ^ 64 - 1) - one)) j ≡ false
      not_later j d = without j ∙ rw d

      gone : has (bit_and waiting ((2 ^ 64 - 1) - one)) q ≡ false
      gone = without q ∙ rw (lt-ltb q 64 (omega (arith, small)), eq-eqb q q refl, and_false)

      cut :
          (w b : ℕ)
          → w < 4
          → has (get_or after w 0) b ≡ true
          → (has (get_or rest w 0) b && has (slice_at s q w) b) ≡ true
      cut w b l m =
          sym (has_and (get_or rest w 0) (slice_at s q w) b) ∙ ap (λ (x : ℕ). has x b) (sym (turn small w l)) ∙ m

      passes :
          (w b j : ℕ)
          → w < 4
          → j < 32
          → has rules j ≡ true
          → has (bit_and waiting ((2 ^ 64 - 1) - one)) j ≡ false
          → (has (get_or rest w 0) b && has (slice_at s q w) b) ≡ true
          → (x : Bool)
          → eqb j q ≡ x
          → has (slice_at s j w) b ≡ true
      passes w b j l m r d k true e =
          let same : j ≡ q = eqb-true j q e in
          rw same (and_right (has (get_or rest w 0) b) (has (slice_at s q w) b) k)
      passes w b j l m r d k false e =
          old.passed w b j l m r
          (rw (without j, ne_eqb j q (eqb-false j q e), and_false, and_end) at d)
          (and_left (has (get_or rest w 0) b) (has (slice_at s q w) b) k)

  -- what every rule of the set accepts is left
  narrowing_left :
      (before rest : List ℕ) (waiting w b : ℕ)
      → w < 4
      → Narrowing s rules before rest waiting
      → (has (get_or before w 0) b && all (λ q. not (has rules q) || has (slice_at s q w) b) (up_to 32)) ≡ true
      → has (get_or rest w 0) b ≡ true
  narrowing_left before rest waiting w b l old h =
      old.stays w b l
      (and_left (has (get_or before w 0) b) (all (λ q. not (has rules q) || has (slice_at s q w) b) (up_to 32)) h)
      (λ q k r d.
      or_holds (has rules q) (has (slice_at s q w) b)
      (all_at (λ q. not (has rules q) || has (slice_at s q w) b) 32
      (and_right (has (get_or before w 0) b) (all (λ q. not (has rules q) || has (slice_at s q w) b) (up_to 32)) h) q
      k)
      r)

  -- none waits any more
  pub narrowing_end :
      (before rest : List ℕ) (waiting : ℕ)
      → waiting ≡ 0
      → Narrowing s rules before rest waiting
      → Narrowed s rules before rest
  narrowing_end before rest waiting z old w b l m =
      same_test (has (get_or rest w 0) b)
      (has (get_or before w 0) b && all (λ q. not (has rules q) || has (slice_at s q w) b) (up_to 32))
      (λ h.
      and_true (has (get_or before w 0) b) (all (λ q. not (has rules q) || has (slice_at s q w) b) (up_to 32))
      (old.within w b l h)
      (at_all (λ q. not (has rules q) || has (slice_at s q w) b) 32
      (λ q k. implies (has rules q) (has (slice_at s q w) b) (λ r. old.passed w b q l k r (idle q) h))))
      (narrowing_left before rest waiting w b l old)
    where
      idle : (q : ℕ) → has waiting q ≡ false
      idle q = rw z (has_zero q)

  -- or nothing is left
  pub narrowing_empty :
      (before rest : List ℕ) (waiting : ℕ)
      → joined rest ≡ 0
      → Narrowing s rules before rest waiting
      → Narrowed s rules before rest
  narrowing_empty before rest waiting none old w b l m =
      same_test (has (get_or rest w 0) b)
      (has (get_or before w 0) b && all (λ q. not (has rules q) || has (slice_at s q w) b) (up_to 32))
      (λ h. both (to_joined rest b w l h) (ap (λ (x : ℕ). has x b) none ∙ has_zero b))
      (narrowing_left before rest waiting w b l old)

-- The loop over orders

-- the orders below v have had their turn
pub record Asking (s : List (List (List ℕ))) (met masks first rest : List ℕ) (v : ℕ) : Type 0 where
  pub bound : v ≤ 6
  pub words : (w : ℕ) → w < 4 → get_or rest w 0 < 2 ^ 64
  pub within : (w b : ℕ) → w < 4 → b < 64 → has (get_or rest w 0) b ≡ true → has (get_or first w 0) b ≡ true
  pub passed :
      (w b j q : ℕ)
      → w < 4
      → b < 64
      → j < v
      → q < 32
      → has (get_or masks j 0) q ≡ true
      → has (get_or met (j / 2) 0) q ≡ true
      → has (get_or rest w 0) b ≡ true
      → has (slice_at (get_or s j []) q w) b ≡ true
  pub stays :
      (w b : ℕ)
      → w < 4
      → b < 64
      → has (get_or first w 0) b ≡ true
      → ((j q : ℕ)
      → j < v
      → q < 32
      → has (get_or masks j 0) q ≡ true
      → has (get_or met (j / 2) 0) q ≡ true
      → has (slice_at (get_or s j []) q w) b ≡ true)
      → has (get_or rest w 0) b ≡ true

module _ (s : List (List (List ℕ))) (met masks : List ℕ) where
  pub asking_start :
      (first : List ℕ) → ((w : ℕ) → w < 4 → get_or first w 0 < 2 ^ 64) → Asking s met masks first first 0
  asking_start first words =
      record {
        bound = omega arith;
        words = words;
        within = λ w b l m h. h;
        passed = λ w b j q l m k. absurd (omega arith);
        stays = λ w b l m h each. h;
      }

  -- order v has had its turn
  pub asking_more :
      (first rest after : List ℕ) (word v : ℕ)
      → v < 6
      → word ≡ get_or met (v / 2) 0
      → ((w : ℕ) → w < 4 → get_or after w 0 < 2 ^ 64)
      → Narrowed (get_or s v []) (bit_and (get_or masks v 0) word) rest after
      → Asking s met masks first rest v
      → Asking s met masks first after (v + 1)
  asking_more first rest after word v small met_word words turn old =
      record {
        bound = omega arith;
        words = words;
        within = λ w b l m h. old.within w b l m (left w b l m h);
        passed = λ w b j q l m k i a c h. passes w b j q l m k i a c h (eqb j v) refl;
        stays = λ w b l m h each.
            turn w b l m
            ∙ and_true (has (get_or rest w 0) b) (all (λ q. not (has waits q) || has (slice_at (get_or s v []) q w) b) (up_to 32))
            (old.stays w b l m h (λ j q k. each j q (omega arith)))
            (at_all (λ q. not (has waits q) || has (slice_at (get_or s v []) q w) b) 32
            (λ q k.
            implies (has waits q) (has (slice_at (get_or s v []) q w) b)
            (λ r.
            each v q (omega arith) k (and_left (has (get_or masks v 0) q) (has word q) (parts q r))
            (ap (λ (x : ℕ). has x q) (sym met_word)
            ∙ and_right (has (get_or masks v 0) q) (has word q) (parts q r)))));
      }
    where
      waits : ℕ
      waits = bit_and (get_or masks v 0) word

      parts : (q : ℕ) → has waits q ≡ true → (has (get_or masks v 0) q && has word q) ≡ true
      parts q r = sym (has_and (get_or masks v 0) word q) ∙ r

      left : (w b : ℕ) → w < 4 → b < 64 → has (get_or after w 0) b ≡ true → has (get_or rest w 0) b ≡ true
      left w b l m h =
          and_left (has (get_or rest w 0) b) (all (λ q. not (has waits q) || has (slice_at (get_or s v []) q w) b) (up_to 32))
          (sym (turn w b l m) ∙ h)

      passes :
          (w b j q : ℕ)
          → w < 4
          → b < 64
          → j < v + 1
          → q < 32
          → has (get_or masks j 0) q ≡ true
          → has (get_or met (j / 2) 0) q ≡ true
          → has (get_or after w 0) b ≡ true
          → (x : Bool)
          → eqb j v ≡ x
          → has (slice_at (get_or s j []) q w) b ≡ true
      passes w b j q l m k i a c h true e =
          let same : j ≡ v = eqb-true j v e in
          let a' : has (get_or masks v 0) q ≡ true = rw same at a in
          let c' : has (get_or met (v / 2) 0) q ≡ true = rw same at c in
          rw same
          (or_holds (has waits q) (has (slice_at (get_or s v []) q w) b)
          (all_at (λ q. not (has waits q) || has (slice_at (get_or s v []) q w) b) 32
          (and_right (has (get_or rest w 0) b) (all (λ q. not (has waits q) || has (slice_at (get_or s v []) q w) b) (up_to 32))
          (sym (turn w b l m) ∙ h))
          q i)
          (has_and (get_or masks v 0) word q
          ∙ and_true (has (get_or masks v 0) q) (has word q) a' (ap (λ (x : ℕ). has x q) met_word ∙ c')))
      passes w b j q l m k i a c h false e =
          let other = eqb-false j v e in
          old.passed w b j q l m (omega arith) i a c (left w b l m h)

-- The answer

-- the pairs at first
abbrev pub begun : List ℕ → ℕ → List ℕ
begun pairs thirds =
    bit_and (get_or pairs 0 0) thirds
    ∷ bit_and (get_or pairs 1 0) thirds
    ∷ bit_and (get_or pairs 2 0) thirds
    ∷ bit_and (get_or pairs 3 0) thirds
    ∷ []

begun_at :
    (pairs : List ℕ) (thirds w : ℕ) → w < 4 → get_or (begun pairs thirds) w 0 ≡ bit_and (get_or pairs w 0) thirds
begun_at pairs thirds zero l = refl
begun_at pairs thirds (suc zero) l = refl
begun_at pairs thirds (suc (suc zero)) l = refl
begun_at pairs thirds (suc (suc (suc zero))) l = refl
begun_at pairs thirds (suc (suc (suc (suc w)))) l = absurd (omega arith)

pub begun_fits :
    (pairs : List ℕ) (thirds : ℕ) → thirds < 2 ^ 64 → (w : ℕ) → w < 4 → get_or (begun pairs thirds) w 0 < 2 ^ 64
begun_fits pairs thirds h w l =
    let e = begun_at pairs thirds w l in
    let m = and_le_r (get_or pairs w 0) thirds in
    lt_of_le_of_lt (rw e m) h

same_four : (x b : ℕ) → in_four x x x x b ≡ has x (b % 16)
same_four x b = go (ltb b 16) (ltb b 32) (ltb b 48)
  where
    go : (p q r : Bool) → has (cond p x (cond q x (cond r x x))) (b % 16) ≡ has x (b % 16)
    go true q r = refl
    go false true r = refl
    go false false true = refl
    go false false false = refl

module _
    (s : List (List (List ℕ)))
    (met masks pairs rest : List ℕ)
    (third thirds v : ℕ)
    (spread : (b : ℕ) → b < 64 → has thirds b ≡ in_four third third third third b)
    (past : 6 ≤ v)
    (asked : Asking s met masks (begun pairs thirds) rest v)
  where
    starts :
        (w b : ℕ)
        → w < 4
        → b < 64
        → has (get_or (begun pairs thirds) w 0) b ≡ (has (get_or pairs w 0) b && has third (b % 16))
    starts w b l m =
        ap (λ (x : ℕ). has x b) (begun_at pairs thirds w l)
        ∙ has_and (get_or pairs w 0) thirds b
        ∙ ap (λ (x : Bool). has (get_or pairs w 0) b && x) (spread b m ∙ same_four third b)

    accepts_left : (w b : ℕ) → w < 4 → b < 64 → has (get_or rest w 0) b ≡ true → Accepts s met masks pairs third w b
    accepts_left w b l m h =
        let both_parts = sym (starts w b l m) ∙ asked.within w b l m h in
        record {
          pair = and_left (has (get_or pairs w 0) b) (has third (b % 16)) both_parts;
          operation = and_right (has (get_or pairs w 0) b) (has third (b % 16)) both_parts;
          each = λ j q k i a c. asked.passed w b j q l m (omega arith) i a c h;
        }

    left_accepts : (w b : ℕ) → w < 4 → b < 64 → Accepts s met masks pairs third w b → has (get_or rest w 0) b ≡ true
    left_accepts w b l m one =
        asked.stays w b l m
        (starts w b l m ∙ and_true (has (get_or pairs w 0) b) (has third (b % 16)) one.pair one.operation)
        (λ j q k i a c. one.each j q (omega (arith, asked.bound)) i a c)

    -- some word is not empty where some pair is left
    pub asking_end : Answers s met masks pairs third (not (eqb (joined rest) 0))
    asking_end = record { found = finds; none = λ e w b l m one. misses e w b l m one }
      where
        fits : joined rest < 2 ^ 64
        fits =
            let x = get_or rest 0 0 in
            let y = get_or rest 1 0 in
            let z = get_or rest 2 0 in
            let words = asked.words in
            let two = or_lt 64 x y (words 0 (omega arith)) (words 1 (omega arith)) in
            let three = or_lt 64 (bit_or x y) z two (words 2 (omega arith)) in
            or_lt 64 (bit_or (bit_or x y) z) (get_or rest 3 0) three (words 3 (omega arith))

        finds :
            not (eqb (joined rest) 0) ≡ true
            → (w b : ℕ) × (w < 4) × (b < 64) × Accepts s met masks pairs third w b
        finds e =
            let full = eqb-false (joined rest) 0 (not-true (eqb (joined rest) 0) e) in
            let some = trailing_member 64 (joined rest) fits full in
            let b = count_trailing_zeros 64 (joined rest) in
            let one = from_joined rest b some.1 in
            (one.0, b, one.1, some.0, accepts_left one.0 b one.1 some.0 one.2)

        turned : (x : Bool) → not x ≡ false → x ≡ true
        turned true e = refl
        turned false e = sym e

        misses :
            not (eqb (joined rest) 0) ≡ false
            → (w b : ℕ)
            → w < 4
            → b < 64
            → Accepts s met masks pairs third w b
            → ⊥
        misses e w b l m one =
            let zero_word : joined rest ≡ 0 = eqb-true (joined rest) 0 (turned (eqb (joined rest) 0) e) in
            both (to_joined rest b w l (left_accepts w b l m one)) (ap (λ (x : ℕ). has x b) zero_word ∙ has_zero b)
