-- Laws of the sieve: rules take from a set of places what breaks them, in any order, and it may end early.
-- Assumes nothing.
use Prim.Native.Nat.{ℕ, ◌-◌, ◌/◌, ◌%◌, ◌^◌, ◌<◌}
use native.Mathlib.Nat.{lt_of_le_of_lt}
use native.Mathlib.Omega.{arith}
use mathlib.Core.Path.{◌≡◌, refl, sym, ap, ◌∙◌}
use mathlib.Core.Bool.{Bool, true, false, ◌&&◌, not, false≢true}
use mathlib.Core.List.{List}
use lib.ListN.{get_or}
use lib.Dec.{eqb, ltb}
use lib.Bits.{bit_and, bit_or, and_le_l}
use borrow.Author.Tests.{not-true, eqb-true, eqb-false, eq-eqb, ne_eqb, lt-ltb, ltb-true, ltb-false}
use Rattle.book.specs.Lists.{any, up_to}
use Rattle.book.specs.Sets.{has, WordOf}
use Rattle.book.proofs.Lists.{and_true, and_left, and_right, and_end, and_false, or_rest, or_true}
use Rattle.book.proofs.Lists.{any_wider}
use Rattle.book.proofs.Members.{has_zero, has_or, has_minus, has_above, has_and}
use Rattle.verdicts.proofs.Quantifiers.{at_any}
use Rattle.search.specs.Inner.Places.{in_places, PlacesOf}
use Rattle.search.specs.Inner.Closing.{closes, meets_with, Masked, Within, Turned, Sifted}
use Rattle.search.specs.Inner.Closing.{Remaining}
use Rattle.search.proofs.Fours.{has_cut}
use Rattle.search.specs.declared.tables.RuleTable.{RuleTable}

-- Tests

-- a test can't pass and fail
pub both : {A : Type 0} {b : Bool} → b ≡ true → b ≡ false → A
both h n = absurd (false≢true (sym n ∙ h))

-- One rule's turn

module _ (t : List RuleTable) (q b c : ℕ) (masks : List ℕ) (made : Masked t q b c masks) where
  -- masks with no operation: no place breaks the rule
  pub none_closes : ((i : ℕ) → get_or masks i 0 ≡ 0) → (p : ℕ) → closes t q b c p ≡ false
  unfolding closes
  none_closes e p =
      rw (
        ← (made.first p),
        ← (made.second p),
        ← (made.third p),
        e 0,
        e 1,
        e 2,
        has_zero,
        and_false,
        and_false,
        and_false,
      )

  -- the set without what breaks the rule
  pub kept_closes :
      (old new : List ℕ)
      → PlacesOf (λ p. in_places old p && not (meets_with t q masks p)) new
      → PlacesOf (λ p. in_places old p && not (closes t q b c p)) new
  unfolding closes
  kept_closes old new h p l = rw (← (made.first p), ← (made.second p), ← (made.third p)) (h p l)

-- nothing was taken
pub turn_none :
    (t : List RuleTable) (q b c : ℕ) (rest : Remaining) (places : List ℕ)
    → places ≡ rest.places
    → PlacesOf (λ p. in_places rest.places p && not (closes t q b c p)) places
    → Turned t q b c rest (record { places = places; rules = rest.rules; last = rest.last })
turn_none t q b c rest places e h =
    record {
      kept = h;
      more = λ j m. m;
      only = λ j m n. both m n;
      marked = λ p l m n. both m (ap (λ (s : List ℕ). in_places s p) (sym e) ∙ n);
    }

pub turn_idle :
    (t : List RuleTable) (q b c : ℕ) (rest : Remaining) → ((p : ℕ) → closes t q b c p ≡ false) → Turned t q b c rest rest
turn_idle t q b c rest h = turn_none t q b c rest rest.places refl (λ p l. rw (h p, and_end))

pub turn_some :
    (t : List RuleTable) (q b c one last : ℕ) (before : Remaining) (places : List ℕ)
    → q < 32
    → WordOf (λ j. eqb j q) one
    → PlacesOf (λ p. in_places before.places p && not (closes t q b c p)) places
    → Turned t q b c before (record { places = places; rules = bit_or before.rules one; last = last })
turn_some t q b c one last before places small single h =
    record {
      kept = h;
      more = λ j m. rw (has_or, m);
      only = λ j m n.
          eqb-true j q
          (and_right (ltb j 64) (eqb j q)
          (sym (single j) ∙ or_rest (has before.rules j) (has one j) (sym (has_or before.rules one j) ∙ m) n));
      marked = λ p l m n.
          rw (has_or, single q, lt-ltb q 64 (omega arith), eq-eqb q q refl) (or_true (has before.rules q));
    }

-- The sieve

module _ (t : List RuleTable) (rules b c : ℕ) where
  pub sifted_start : (rest : Remaining) → Sifted t rules (λ q. false) b c rest rest
  sifted_start rest =
      record {
        within = λ p l h. h;
        passed = λ p q l m h d. absurd (false≢true d);
        gone = λ p l h n. both h n;
        more = λ j h. h;
        only = λ j h n. both h n;
      }

  -- what is gone stays gone with more rules marked
  gone_more :
      (p : ℕ) (some more : ℕ → Bool)
      → Within some more
      → any (λ q. some q && closes t q b c p) (up_to 32) ≡ true
      → any (λ q. more q && closes t q b c p) (up_to 32) ≡ true
  gone_more p some more h e =
      any_wider (λ q. some q && closes t q b c p) (λ q. more q && closes t q b c p) (up_to 32)
      (λ q f.
      and_true (more q) (closes t q b c p) (h q (and_left (some q) (closes t q b c p) f))
      (and_right (some q) (closes t q b c p) f))
      e

  -- rule q has its turn
  pub sifted_turn :
      (done next : ℕ → Bool) (q : ℕ) (before rest after : Remaining)
      → q < 32
      → has rules q ≡ true
      → ((j : ℕ) → next j ≡ true → (j ≡ q → ⊥) → done j ≡ true)
      → Sifted t rules done b c before rest
      → Turned t q b c rest after
      → Sifted t rules next b c before after
  sifted_turn done next q before rest after small inside doing old turn =
      record {
        within = λ p l h. old.within p l (left p l h);
        passed = λ p j l m h d. passes p j l m h d (eqb j q) refl;
        gone = λ p l h n. goes p l h n (in_places rest.places p) refl;
        more = λ j h. turn.more j (old.more j h);
        only = λ j h n. allows j h n (has rest.rules j) refl;
      }
    where
      left : (p : ℕ) → p < 2112 → in_places after.places p ≡ true → in_places rest.places p ≡ true
      left p l h = and_left (in_places rest.places p) (not (closes t q b c p)) (sym (turn.kept p l) ∙ h)

      passes :
          (p j : ℕ)
          → p < 2112
          → j < 32
          → in_places after.places p ≡ true
          → next j ≡ true
          → (x : Bool)
          → eqb j q ≡ x
          → closes t j b c p ≡ false
      passes p j l m h d true e =
          let same : j ≡ q = eqb-true j q e in
          rw same
          (not-true (closes t q b c p)
          (and_right (in_places rest.places p) (not (closes t q b c p)) (sym (turn.kept p l) ∙ h)))
      passes p j l m h d false e = old.passed p j l m (left p l h) (doing j d (eqb-false j q e))

      goes :
          (p : ℕ)
          → p < 2112
          → in_places before.places p ≡ true
          → in_places after.places p ≡ false
          → (x : Bool)
          → in_places rest.places p ≡ x
          → any (λ j. has after.rules j && closes t j b c p) (up_to 32) ≡ true
      goes p l h n true e =
          at_any (λ j. has after.rules j && closes t j b c p) 32 q small
          (and_true (has after.rules q) (closes t q b c p) (turn.marked p l e n)
          (taken (closes t q b c p) (sym n ∙ turn.kept p l ∙ rw e)))
        where
          taken : (x : Bool) → false ≡ not x → x ≡ true
          taken true z = refl
          taken false z = z
      goes p l h n false e = gone_more p (has rest.rules) (has after.rules) turn.more (old.gone p l h e)

      allows :
          (j : ℕ)
          → has after.rules j ≡ true
          → has before.rules j ≡ false
          → (x : Bool)
          → has rest.rules j ≡ x
          → has rules j ≡ true
      allows j h n true e = old.only j e n
      allows j h n false e =
          let same : j ≡ q = turn.only j h e in
          rw same inside

  -- rules that break at no place are done
  pub sifted_idle :
      (done next : ℕ → Bool) (before after : Remaining)
      → ((q p : ℕ) → q < 32 → next q ≡ true → done q ≡ false → closes t q b c p ≡ false)
      → Sifted t rules done b c before after
      → Sifted t rules next b c before after
  sifted_idle done next before after idle old =
      record {
        within = old.within;
        passed = λ p q l m h d. passes p q l m h d (done q) refl;
        gone = old.gone;
        more = old.more;
        only = old.only;
      }
    where
      passes :
          (p q : ℕ)
          → p < 2112
          → q < 32
          → in_places after.places p ≡ true
          → next q ≡ true
          → (x : Bool)
          → done q ≡ x
          → closes t q b c p ≡ false
      passes p q l m h d true e = old.passed p q l m h e
      passes p q l m h d false e = idle q p m d e

  -- a set with no place has all rules done
  pub sifted_empty :
      (done next : ℕ → Bool) (before after : Remaining)
      → ((w : ℕ) → get_or after.places w 0 ≡ 0)
      → Sifted t rules done b c before after
      → Sifted t rules next b c before after
  unfolding in_places
  sifted_empty done next before after none old =
      record {
        within = old.within;
        passed = λ p q l m h d.
            both h (ap (λ (w : ℕ). has w (p % 64)) (none (p / 64)) ∙ has_zero (p % 64));
        gone = old.gone;
        more = old.more;
        only = old.only;
      }

  -- one sieve after another
  pub sifted_join :
      (done next : ℕ → Bool) (before rest after : Remaining)
      → Sifted t rules done b c before rest
      → Sifted t rules next b c rest after
      → Sifted t rules next b c before after
  sifted_join done next before rest after old new =
      record {
        within = λ p l h. old.within p l (new.within p l h);
        passed = new.passed;
        gone = λ p l h n. goes p l h n (in_places rest.places p) refl;
        more = λ j h. new.more j (old.more j h);
        only = λ j h n. allows j h n (has rest.rules j) refl;
      }
    where
      goes :
          (p : ℕ)
          → p < 2112
          → in_places before.places p ≡ true
          → in_places after.places p ≡ false
          → (x : Bool)
          → in_places rest.places p ≡ x
          → any (λ j. has after.rules j && closes t j b c p) (up_to 32) ≡ true
      goes p l h n true e = new.gone p l e n
      goes p l h n false e = gone_more p (has rest.rules) (has after.rules) new.more (old.gone p l h e)

      allows :
          (j : ℕ)
          → has after.rules j ≡ true
          → has before.rules j ≡ false
          → (x : Bool)
          → has rest.rules j ≡ x
          → has rules j ≡ true
      allows j h n true e = old.only j e n
      allows j h n false e = new.only j h e

-- a set without one member

-- the code's `waiting & !single(q)`
pub without_single :
    (word one q j : ℕ)
    → word < 2 ^ 64
    → one < 2 ^ 64
    → WordOf (λ i. eqb i q) one
    → has (bit_and word ((2 ^ 64 - 1) - one)) j ≡ (has word j && not (ltb j 64 && eqb j q))
without_single word one q j lw lo single = rw (has_minus 64 word one j lw lo, single j)

pub without_smaller :
    (word one q : ℕ)
    → word < 2 ^ 64
    → one < 2 ^ 64
    → q < 64
    → WordOf (λ i. eqb i q) one
    → has word q ≡ true
    → bit_and word ((2 ^ 64 - 1) - one) < word
without_smaller word one q lw lo small single h =
    let low = and_le_l word ((2 ^ 64 - 1) - one) in
    let gone : has (bit_and word ((2 ^ 64 - 1) - one)) q ≡ false =
    without_single word one q q lw lo single ∙ rw (lt-ltb q 64 small, eq-eqb q q refl, and_false) in
    let other : bit_and word ((2 ^ 64 - 1) - one) ≡ word → ⊥ =
    λ e. both h (ap (λ (w : ℕ). has w q) (sym e) ∙ gone) in
    omega arith

-- what is left of a set is in it
pub later_member :
    (word out q : ℕ) → has (bit_and word ((2 ^ 64 - 1) - out)) q ≡ true → has word q ≡ true
later_member word out q h =
    and_left (has word q) (has ((2 ^ 64 - 1) - out) q) (sym (has_and word ((2 ^ 64 - 1) - out) q) ∙ h)

-- The loop

-- the rules of a set that do not wait are done
pub record Sieving (t : List RuleTable) (rules b c : ℕ) (before rest : Remaining) (waiting : ℕ) : Type 0 where
  pub fits : waiting < 2 ^ 64
  pub members : (q : ℕ) → has waiting q ≡ true → (q < 32) × (has rules q ≡ true)
  pub sifted : Sifted t rules (λ q. has rules q && not (has waiting q)) b c before rest

-- the rules of a word, below 32
pub low_rules :
    (rules q : ℕ) → has (rules % 4294967296) q ≡ true → (q < 32) × (has rules q ≡ true)
low_rules rules q h = go (ltb q 32) refl
  where
    go : (x : Bool) → ltb q 32 ≡ x → (q < 32) × (has rules q ≡ true)
    go true e =
        let l = ltb-true q 32 e in
        (l, sym (has_cut 32 rules q l) ∙ h)
    go false e = both h (has_above 32 (rules % 4294967296) q (omega arith) (ltb-false q 32 e))

module _ (t : List RuleTable) (rules b c : ℕ) where
  -- all wait first
  pub sieving_start : (rest : Remaining) → Sieving t rules b c rest rest (rules % 4294967296)
  sieving_start rest =
      record {
        fits = omega arith;
        members = low_rules rules;
        sifted =
            sifted_idle t rules b c (λ q. false) (λ q. has rules q && not (has (rules % 4294967296) q)) rest rest
            (λ q p l d n.
            both
            (has_cut 32 rules q l ∙ and_left (has rules q) (not (has (rules % 4294967296) q)) d)
            (not-true (has (rules % 4294967296) q) (and_right (has rules q) (not (has (rules % 4294967296) q)) d)))
            (sifted_start t rules b c rest);
      }

  -- rule q has had its turn
  pub sieving_more :
      (before rest after : Remaining) (waiting one q : ℕ)
      → one < 2 ^ 64
      → WordOf (λ i. eqb i q) one
      → has waiting q ≡ true
      → (q < 32 → Turned t q b c rest after)
      → Sieving t rules b c before rest waiting
      → Sieving t rules b c before after (bit_and waiting ((2 ^ 64 - 1) - one))
  sieving_more before rest after waiting one q lo single h turn old =
      let lw = old.fits in
      record {
        fits = lt_of_le_of_lt (and_le_l waiting ((2 ^ 64 - 1) - one)) lw;
        members = λ j m.
            old.members j
            (and_left (has waiting j) (not (ltb j 64 && eqb j q))
            (sym (without_single waiting one q j lw lo single) ∙ m));
        sifted =
            sifted_turn t rules b c (λ j. has rules j && not (has waiting j))
            (λ j. has rules j && not (has (bit_and waiting ((2 ^ 64 - 1) - one)) j)) q before rest after
            (old.members q h).0 (old.members q h).1
            (λ j d n. rw (without_single waiting one q j lw lo single, ne_eqb j q n, and_false, and_end) at d)
            old.sifted (turn (old.members q h).0);
      }

  pub sieving_end :
      (before rest : Remaining) (waiting : ℕ)
      → waiting ≡ 0
      → Sieving t rules b c before rest waiting
      → Sifted t rules (has rules) b c before rest
  sieving_end before rest waiting e old =
      sifted_idle t rules b c (λ q. has rules q && not (has waiting q)) (has rules) before rest
      (λ q p l d n. both d (rw (e, has_zero, and_end) at n)) old.sifted
