-- Laws of the places that can be chosen: their words, and the search among them. Assumes nothing.
use Prim.Native.Nat.{ℕ, ◌+◌, ◌-◌, ◌/◌, ◌%◌, ◌^◌, ◌≤◌, ◌<◌}
use native.Mathlib.Omega.{arith}
use mathlib.Core.Path.{◌≡◌, refl, sym, ap, ◌∙◌}
use mathlib.Core.Bool.{Bool, true, false, ◌&&◌, ◌||◌, not, cond}
use mathlib.Core.List.{List}
use lib.ListN.{length, get_or, set}
use lib.Seq.{get_or-set_same, get_or-set_other}
use lib.Dec.{eqb, ltb}
use lib.Bits.{bit_and}
use borrow.Author.Tests.{eqb-true, eqb-false, eq-eqb, ne_eqb, ltb-true, ltb-false, lt-ltb, le-ltb}
use Rattle.book.specs.Sets.{has}
use Rattle.book.proofs.Lists.{and_true, and_left, and_both, or_neither, same_test}
use Rattle.book.proofs.Members.{has_zero, has_and, has_not, has_single}
use Rattle.search.proofs.PlaceLaws.{Mapped}
use Rattle.lineage.proofs.Tables.{Filled, fill_none, fill_more}
use Rattle.search.specs.Inner.Places.{in_places, PlacesOf}
use Rattle.search.specs.Inner.Table.{meets_words, meets}
use Rattle.search.specs.Inner.Closing.{accepted_at, closes, Within, Grown, Sifted}
use Rattle.search.specs.Inner.Search.{candidate, refuses, drops, solves, solves_in}
use Rattle.search.specs.Inner.Search.{Thirds, Possible}
use Rattle.search.specs.Inner.Closing.{Remaining}
use Rattle.search.proofs.Solutions.{drop_in, grown_join, grown_within, passes, passing}
use Rattle.search.proofs.Solutions.{place_below, unmarked}
use Rattle.search.specs.declared.tables.RuleTable.{RuleTable}

-- The places that can be chosen

pub candidate_below : (t : List RuleTable) (r n : ℕ) (had : List ℕ) (i p : ℕ) → candidate t r n had i p ≡ true → p < 2112
unfolding candidate
candidate_below t r n had i p h = go (ltb ((i + n) % 3) n) h
  where
    go :
        (b : Bool)
        → cond b (ltb p 2048 && (has (get_or had (p / 64) 0) (p % 64) && meets t r ((i + n) % 3) p)) (eqb p 2048) ≡ true
        → p < 2112
    go true e =
        omega (
          arith,
          ltb-true p 2048
              (and_left (ltb p 2048) (has (get_or had (p / 64) 0) (p % 64) && meets t r ((i + n) % 3) p) e),
        )
    go false e = omega (arith, eqb-true p 2048 e)

-- an absent reference has place 2048 alone
pub candidate_absent :
    (t : List RuleTable) (r n : ℕ) (had : List ℕ) (i reference : ℕ) (zeros : List ℕ) (p : ℕ)
    → reference ≡ (i + n) % 3
    → n ≤ reference
    → length zeros ≡ 33
    → ((w : ℕ) → w < 33 → get_or zeros w 0 ≡ 0)
    → p < 2112
    → in_places (set zeros 32 1) p ≡ candidate t r n had i p
unfolding in_places candidate
candidate_absent t r n had i reference zeros p same absent size none l =
    rw (← same, le-ltb reference n absent) (go (eqb (p / 64) 32) refl)
  where
    go : (b : Bool) → eqb (p / 64) 32 ≡ b → has (get_or (set zeros 32 1) (p / 64) 0) (p % 64) ≡ eqb p 2048
    go true e =
        let q : p / 64 ≡ 32 = eqb-true (p / 64) 32 e in
        rw (q, get_or-set_same zeros 32 1 0 (omega arith))
        (has_single (p % 64) 0
        ∙ same_test (eqb (p % 64) 0) (eqb p 2048)
        (λ h. eq-eqb p 2048 (omega (arith, eqb-true (p % 64) 0 h)))
        (λ h. eq-eqb (p % 64) 0 (omega (arith, eqb-true p 2048 h))))
    go false e =
        let q = eqb-false (p / 64) 32 e in
        rw (
          get_or-set_other zeros 32 (p / 64) 1 0 q,
          none (p / 64) (omega arith),
          has_zero,
          ne_eqb p 2048 (λ z. q (omega arith)),
        )

-- the words of a reference's places that can be had; the last word stays empty
pub record Candidates (t : List RuleTable) (had : List ℕ) (r reference : ℕ) (found : List ℕ) (w : ℕ) : Type 0 where
  pub short : w ≤ 32
  pub filled : Filled 33 (λ k x. x ≡ bit_and (get_or had k 0) (get_or (meets_words t r reference) k 0)) found w
  pub last : get_or found 32 0 ≡ 0

module _ (t : List RuleTable) (had : List ℕ) (r reference : ℕ) where
  pub candidates_none : (zeros : List ℕ) → length zeros ≡ 33 → get_or zeros 32 0 ≡ 0
      → Candidates t had r reference zeros 0
  candidates_none zeros size e = record { short = omega arith; filled = fill_none size; last = e }

  pub candidates_more :
      (found : List ℕ) (w word : ℕ)
      → w < 32
      → word ≡ get_or (meets_words t r reference) w 0
      → Candidates t had r reference found w
      → Candidates t had r reference (set found w (bit_and (get_or had w 0) word)) (w + 1)
  candidates_more found w word l e old =
      record {
        short = omega arith;
        filled = fill_more old.filled (omega arith) (rw e);
        last = get_or-set_other found w 32 (bit_and (get_or had w 0) word) 0 (λ z. omega arith) ∙ old.last;
      }

  pub candidates_end :
      (n i : ℕ) (found : List ℕ) (w p : ℕ)
      → reference ≡ (i + n) % 3
      → reference < n
      → 32 ≤ w
      → Candidates t had r reference found w
      → p < 2112
      → in_places found p ≡ candidate t r n had i p
  unfolding in_places candidate meets
  candidates_end n i found w p same present past all l =
      rw (← same, lt-ltb reference n present) (go (ltb p 2048) refl)
    where
      go :
          (b : Bool)
          → ltb p 2048 ≡ b
          → has (get_or found (p / 64) 0) (p % 64)
          ≡ (b
          && (has (get_or had (p / 64) 0) (p % 64) && has (get_or (meets_words t r reference) (p / 64) 0) (p % 64)))
      go true e =
          let q = ltb-true p 2048 e in
          rw (all.filled.at (p / 64) (omega arith), has_and)
      go false e =
          let q = ltb-false p 2048 e in
          let k : p / 64 ≡ 32 = omega arith in
          rw (k, all.last, has_zero)

-- a set without some operations
pub without_operations :
    (places rest : List ℕ) (operations w p : ℕ)
    → operations < 2 ^ 64
    → Mapped (λ k x. bit_and x ((2 ^ 64 - 1) - operations)) places rest w
    → p / 64 < w
    → in_places rest p ≡ (in_places places p && not (has operations (p % 64)))
unfolding in_places
without_operations places rest operations w p small mapped l =
    rw (mapped.below (p / 64) l, has_and, has_not 64 operations (p % 64) small, lt-ltb (p % 64) 64 (omega arith))

-- less what some restriction accepts beside a and y, and what breaks a rule
pub thirds_made :
    (t : List RuleTable) (r n rules a y : ℕ) (before refused after : Remaining) (accepted : ℕ)
    → ((p : ℕ) → has accepted (p % 64) ≡ accepted_at t r ((2 + n) % 3) ((0 + n) % 3) ((1 + n) % 3) a y p)
    → PlacesOf (λ p. in_places before.places p && not (has accepted (p % 64))) refused.places
    → refused.rules ≡ before.rules
    → Sifted t rules (has rules) a y refused after
    → Thirds t r n rules a y before after
unfolding refuses
thirds_made t r n rules a y before refused after accepted e less same sifted =
    record {
      within = λ x l h. (parts x l (sifted.within x l h)).0;
      refused = λ x l h. rw (← e x) (parts x l (sifted.within x l h)).1;
      passed = sifted.passed;
      gone = λ x l h m g.
          sifted.gone x l (less x l ∙ and_true (in_places before.places x) (not (has accepted (x % 64))) h
          (rw (e x) m)) g;
      more = λ j h. sifted.more j (ap (λ (w : ℕ). has w j) same ∙ h);
      only = λ j h m. sifted.only j h (ap (λ (w : ℕ). has w j) same ∙ m);
    }
  where
    parts :
        (x : ℕ)
        → x < 2112
        → in_places refused.places x ≡ true
        → (in_places before.places x ≡ true) × (not (has accepted (x % 64)) ≡ true)
    parts x l h = and_both (in_places before.places x) (not (has accepted (x % 64))) (sym (less x l) ∙ h)

-- All three

pub possible_made :
    (t : List RuleTable) (r n : ℕ) (had : List ℕ) (rules i : ℕ) (before after : Remaining)
    → PlacesOf (candidate t r n had i) before.places
    → Sifted t rules (has rules) 2048 2048 before after
    → Possible t r n had rules i before.rules after
possible_made t r n had rules i before after same sifted =
    record {
      within = λ p l h. sym (same p l) ∙ sifted.within p l h;
      passed = sifted.passed;
      gone = λ p l h g. sifted.gone p l (same p l ∙ h) g;
      more = sifted.more;
      only = sifted.only;
    }

-- a rule that does not drop three places
undropped :
    (t : List RuleTable) (q a y x : ℕ)
    → drops t q a y x ≡ false
    → (closes t q 2048 2048 a ≡ false)
    × (closes t q 2048 2048 y ≡ false)
    × (closes t q 2048 2048 x ≡ false)
    × (drop_in t a y x q ≡ false)
unfolding drops
undropped t q a y x h =
    let one = closes t q 2048 2048 a in
    let two = closes t q 2048 2048 y in
    let three = closes t q 2048 2048 x in
    let halves = or_neither (one || (two || three)) (drop_in t a y x q) h in
    let first = or_neither one (two || three) halves.0 in
    let rest = or_neither two three first.1 in
    (first.0, rest.0, rest.1, halves.1)

-- a place that breaks no marked rule by itself is left
possible_left :
    (t : List RuleTable) (r n : ℕ) (had : List ℕ) (rules i seen : ℕ) (after : Remaining)
    → Possible t r n had rules i seen after
    → (marked : ℕ → Bool)
    → Within (has after.rules) marked
    → (p : ℕ)
    → candidate t r n had i p ≡ true
    → ((q : ℕ) → q < 32 → marked q ≡ true → closes t q 2048 2048 p ≡ false)
    → in_places after.places p ≡ true
possible_left t r n had rules i seen after possible marked within p h free = go (in_places after.places p) refl
  where
    go : (s : Bool) → in_places after.places p ≡ s → s ≡ true
    go true e = refl
    go false e =
        absurd
        (unmarked (has after.rules) marked (λ q. closes t q 2048 2048 p) within free
        (possible.gone p (candidate_below t r n had i p h) h e))

module _
    (t : List RuleTable)
    (r n : ℕ)
    (had : List ℕ)
    (rules start : ℕ)
    (first second third : Remaining)
    (one : Possible t r n had rules 0 start first)
    (two : Possible t r n had rules 1 first.rules second)
    (three : Possible t r n had rules 2 second.rules third)
  where
    pub solves_there :
        (marked : ℕ → Bool)
        → Within (has third.rules) marked
        → (a y x : ℕ)
        → solves t r n had marked a y x ≡ true
        → solves_in t r n first.places second.places third.places marked a y x ≡ true
    unfolding solves solves_in drops
    solves_there marked within a y x h =
        let p =
        passing (candidate t r n had 0 a) (candidate t r n had 1 y) (candidate t r n had 2 x) (refuses t r n a y x)
        marked
        (λ q. drops t q a y x) h in
        passes (in_places first.places a) (in_places second.places y) (in_places third.places x)
        (refuses t r n a y x) marked (drop_in t a y x)
        (record {
          first =
              possible_left t r n had rules 0 start first one marked
              (λ q m. within q (three.more q (two.more q m))) a p.first
              (λ q l m. (undropped t q a y x (p.free q l m)).0);
          second =
              possible_left t r n had rules 1 first.rules second two marked (λ q m. within q (three.more q m)) y
              p.second (λ q l m. (undropped t q a y x (p.free q l m)).1);
          third =
              possible_left t r n had rules 2 second.rules third three marked within x p.third
              (λ q l m. (undropped t q a y x (p.free q l m)).2);
          refusal = p.refusal;
          free = λ q l m. (undropped t q a y x (p.free q l m)).3;
        })

    pub solves_back :
        length first.places ≡ 33
        → length second.places ≡ 33
        → length third.places ≡ 33
        → (a y x : ℕ)
        → solves_in t r n first.places second.places third.places (has rules) a y x ≡ true
        → solves t r n had (has rules) a y x ≡ true
    unfolding solves solves_in drops
    solves_back long_one long_two long_three a y x h =
        let p =
        passing (in_places first.places a) (in_places second.places y) (in_places third.places x)
        (refuses t r n a y x) (has rules) (drop_in t a y x) h in
        let la = place_below first.places a long_one p.first in
        let ly = place_below second.places y long_two p.second in
        let lx = place_below third.places x long_three p.third in
        passes (candidate t r n had 0 a) (candidate t r n had 1 y) (candidate t r n had 2 x) (refuses t r n a y x)
        (has rules) (λ q. drops t q a y x)
        (record {
          first = one.within a la p.first;
          second = two.within y ly p.second;
          third = three.within x lx p.third;
          refusal = p.refusal;
          free = λ q l m.
              rw (
                one.passed a q la l p.first m,
                two.passed y q ly l p.second m,
                three.passed x q lx l p.third m,
              ) (p.free q l m);
        })

    pub solves_within :
        Within (has start) (has rules)
        → (Within (has start) (has third.rules))
        × (Grown (has rules) (has start) (has third.rules))
        × (Within (has third.rules) (has rules))
    solves_within begun =
        let grown =
        grown_join (has rules) (has start) (has first.rules) (has third.rules) one.only
        (grown_join (has rules) (has first.rules) (has second.rules) (has third.rules) two.only
        three.only) in (
          λ q m. three.more q (two.more q (one.more q m)),
          grown,
          grown_within (has rules) (has start) (has third.rules) begun grown,
        )
