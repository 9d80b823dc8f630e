-- Laws of rows: which pairs of operations open a third cell beside a first place, what is left when a first place has
-- been tried, and when every one has. Assumes nothing.
use Prim.Native.Nat.{ℕ, ◌+◌, ◌-◌, ◌*◌, ◌/◌, ◌%◌, ◌≤◌, ◌<◌}
use native.Mathlib.Omega.{arith}
use mathlib.Core.Path.{◌≡◌, refl, sym, ap, ◌∙◌}
use mathlib.Core.Bool.{Bool, true, false, ◌&&◌, ◌||◌, not}
use mathlib.Core.List.{List, []}
use lib.ListN.{get_or}
use lib.Dec.{eqb, ltb}
use borrow.Author.Tests.{not-true, eqb-true, eqb-false, eq-eqb, ne_eqb, lt-ltb, ltb-true, ltb-false}
use Rattle.book.specs.Lists.{any, up_to}
use Rattle.book.specs.Sets.{has}
use Rattle.book.proofs.Lists.{and_both, and_end, and_true, and_left, and_right, at_none, none_at, or_end, or_true}
use Rattle.book.proofs.Members.{has_zero}
use Rattle.search.specs.Inner.Places.{FirstFrom, PlacesOf, in_places}
use Rattle.search.specs.Inner.Table.{meets}
use Rattle.search.specs.Inner.Closing.{accepted_at, closes}
use Rattle.search.proofs.Sieves.{both}
use Rattle.search.proofs.Solutions.{fails}
use Rattle.search.specs.declared.tables.RuleTable.{RuleTable}
use Rattle.blocked.specs.Inner.Cells.{Left, Opens, Tried, in_cell, spares}
use Rattle.blocked.specs.Inner.Pairs.{Accepts, Answers, Asked, CellOperations, MasksHold, Prepared, SecondPairs}
use Rattle.blocked.specs.Inner.Pairs.{SlicesHold, first_at, second_at, third_at}
use Rattle.blocked.proofs.CellLaws.{cell_member, cell_place}
use Rattle.blocked.proofs.OrderLaws.{accepted_operations, accepts_spared, spared_accepts}

-- an empty set has no place
none_in : (set : List ℕ) → ((w : ℕ) → get_or set w 0 ≡ 0) → (x : ℕ) → in_places set x ≡ false
unfolding in_places
none_in set none x = rw (none (x / 64)) (has_zero (x % 64))

-- The sieve

module _ (t : List RuleTable) (rules : ℕ → Bool) (a y x : ℕ) where
  pub spares_each : spares t rules a y x ≡ true → (q : ℕ) → q < 32 → rules q ≡ true → closes t q a y x ≡ false
  unfolding spares
  spares_each h q l m =
      let none = not-true (any (λ j. rules j && closes t j a y x) (up_to 32)) h in
      fails (closes t q a y x)
      (λ d.
      both (and_true (rules q) (closes t q a y x) m d) (none_at (λ j. rules j && closes t j a y x) 32 none q l))

  pub each_spares : ((q : ℕ) → q < 32 → rules q ≡ true → closes t q a y x ≡ false) → spares t rules a y x ≡ true
  unfolding spares
  each_spares h =
      rw (at_none (λ q. rules q && closes t q a y x) 32
      (λ q l.
      fails (rules q && closes t q a y x)
      (λ d.
      both (and_right (rules q) (closes t q a y x) d) (h q l (and_left (rules q) (closes t q a y x) d)))))

-- Pairs and places

-- what one first place a opens beside cell m, by its words
module _ (t : List RuleTable) (met : List (List ℕ)) (rules : ℕ) (seconds before : List ℕ) (a m : ℕ) (masks : List ℕ)
    (s : List (List (List ℕ))) (pairs : List ℕ)
    (given : Prepared t met (has rules) seconds before) (masked : MasksHold t rules a m masks)
    (sliced : SlicesHold t masks a s) (paired : SecondPairs seconds m pairs) (second_small : m < 132) where
  module _ (n third : ℕ) (small : n < 132) (word : CellOperations before n third)
      (y x w b : ℕ) (lw : w < 4) (lb : b < 64) (ey : y ≡ 16 * m + (4 * w + b / 16)) (ex : x ≡ 16 * n + b % 16) where
    -- the rules of a mask that cell n meets too, by the places
    module _ (q v : ℕ) (lq : q < 32) (lv : v < 6) (member : in_places seconds y ≡ true) (left : in_places before x ≡ true)
        (rule : has rules q ≡ true) where
      second_meets : meets t q (second_at v) (16 * m) ≡ meets t q (second_at v) y
      second_meets =
          let e : 16 * (y / 16) ≡ 16 * m = omega arith in
          ap (meets t q (second_at v)) (sym e)
          ∙ sym (given.seconds_whole q (second_at v) y lq rule (omega arith) (omega arith) member)

      third_meets : meets t q (third_at v) (16 * n) ≡ meets t q (third_at v) x
      third_meets =
          let e : 16 * (x / 16) ≡ 16 * n = omega arith in
          ap (meets t q (third_at v)) (sym e)
          ∙ sym (given.thirds_whole q (third_at v) x lq rule (omega arith) (omega arith) left)

      accepted_there :
          accepted_at t q (third_at v) (first_at v) (second_at v) a y x
          ≡ accepted_at t q (third_at v) (first_at v) (second_at v) a (4 * w + b / 16) b
      accepted_there =
          accepted_operations t (has rules) q (third_at v) (first_at v) (second_at v) a (4 * w + b / 16) b y x
          given.repeats lq rule (omega arith) (omega arith) (omega arith) (omega arith)

    -- a pair that every rule accepts is two places that break none
    pub accepts_spares :
        Accepts s (get_or met n []) masks pairs third w b
        → (in_places seconds y ≡ true) × (in_places before x ≡ true) × (spares t (has rules) a y x ≡ true)
    accepts_spares found =
        let member : in_places seconds y ≡ true =
        ap (in_places seconds) ey ∙ sym (paired w b lw lb) ∙ found.pair in
        let left : in_places before x ≡ true =
        ap (in_places before) ex ∙ sym (word (b % 16) (omega arith)) ∙ found.operation in (
          member,
          left,
          each_spares t (has rules) a y x
              (λ q lq rule.
              accepts_spared t q a y x
              (λ v lv mx ma my.
              let in_mask : has (get_or masks v 0) q ≡ true =
              masked v q lv
              ∙ rw (rule, lt-ltb q 32 lq, ma, second_meets q v lq lv member left rule, my) in
              let in_met =
              given.met_holds n (third_at v) q small (omega arith)
              ∙ rw (lt-ltb q 32 lq, third_meets q v lq lv member left rule, mx) in
              accepted_there q v lq lv member left rule
              ∙ sym (sliced v lv q w b lq lw lb in_mask)
              ∙ found.each v q lv lq in_mask in_met)),
        )

    -- and back
    pub spares_accepts :
        in_places seconds y ≡ true
        → in_places before x ≡ true
        → spares t (has rules) a y x ≡ true
        → Accepts s (get_or met n []) masks pairs third w b
    spares_accepts member left spared =
        record {
          pair = paired w b lw lb ∙ ap (in_places seconds) (sym ey) ∙ member;
          operation = word (b % 16) (omega arith) ∙ ap (in_places before) (sym ex) ∙ left;
          each = λ v q lv lq in_mask in_met.
              let one =
              and_both (has rules q) (ltb q 32 && (meets t q (first_at v) a && meets t q (second_at v) (16 * m)))
              (sym (masked v q lv) ∙ in_mask) in
              let rule = one.0 in
              let two =
              and_both (meets t q (first_at v) a) (meets t q (second_at v) (16 * m))
              (and_right (ltb q 32) (meets t q (first_at v) a && meets t q (second_at v) (16 * m)) one.1) in
              let met_third =
              and_right (ltb q 32) (meets t q (third_at v) (16 * n))
              (sym (given.met_holds n (third_at v) q small (omega arith)) ∙ in_met) in
              sliced v lv q w b lq lw lb in_mask
              ∙ sym (accepted_there q v lq lv member left rule)
              ∙ spared_accepts t q a y x v lv (spares_each t (has rules) a y x spared q lq rule)
              (sym (third_meets q v lq lv member left rule) ∙ met_third) two.0
              (sym (second_meets q v lq lv member left rule) ∙ two.1);
        }

-- One cell after the other

module _ (s : List (List (List ℕ))) (met : List (List ℕ)) (masks pairs before : List ℕ) where
  pub asked_start : Asked s met masks pairs 0 before before
  asked_start =
      record {
        answer = λ n. false;
        told = λ n l h. absurd (omega arith);
        later = λ n l. refl;
        kept = λ p l. sym (and_end (in_places before p));
      }

  module _ (c : ℕ) (rest : List ℕ) (old : Asked s met masks pairs c before rest) where
    -- a cell that has not been asked about is as it was
    same_later : (p : ℕ) → p < 2112 → c ≤ p / 16 → in_places rest p ≡ in_places before p
    same_later p l past = old.kept p l ∙ rw (old.later (p / 16) past, and_end)

    -- the cells up to the next place that is left have none
    pub asked_skip : (p x : ℕ) → p ≡ 16 * c → FirstFrom rest p x → Asked s met masks pairs (x / 16) before rest
    asked_skip p x ep next =
        record {
          answer = old.answer;
          told = λ n l h. go n l h (ltb n c) refl;
          later = λ n l. old.later n (omega (arith, next.low));
          kept = old.kept;
        }
      where
        go :
            (n : ℕ)
            → n < x / 16
            → in_cell before n ≡ true
            → (b : Bool)
            → ltb n c ≡ b
            → (third : ℕ) × CellOperations before n third × Answers s (get_or met n []) masks pairs third (old.answer n)
        go n l h true e = old.told n (ltb-true n c e) h
        go n l h false e =
            let z = cell_place before n h in
            let at_cell : z.0 / 16 ≡ n = z.1 in
            let past = ltb-false n c e in
            let high = next.high in
            both (same_later z.0 (omega arith) (omega arith) ∙ z.2)
            (next.skipped z.0 (omega arith) (omega arith))

    module _ (third : ℕ) (answer : Bool) (small : c < 132) (word : CellOperations rest c third)
        (here : Answers s (get_or met c []) masks pairs third answer) where
      -- what was told of the cells before, and is told of this one
      telling :
          (told : ℕ → Bool)
          → ((n : ℕ) → n < c → told n ≡ old.answer n)
          → told c ≡ answer
          → (n : ℕ)
          → n < c + 1
          → in_cell before n ≡ true
          → (b : Bool)
          → eqb n c ≡ b
          → (z : ℕ) × CellOperations before n z × Answers s (get_or met n []) masks pairs z (told n)
      telling told others this n l h true e =
          let same = eqb-true n c e in
          rw (same, this) (third, λ k m. word k m ∙ same_later (16 * c + k) (omega arith) (omega arith), here)
      telling told others this n l h false e =
          let other = eqb-false n c e in
          rw (others n (omega arith)) (old.told n (omega arith) h)

      pub asked_stays : answer ≡ false → Asked s met masks pairs (c + 1) before rest
      asked_stays e =
          record {
            answer = old.answer;
            told = λ n l h.
                telling old.answer (λ j m. refl) (old.later c (omega arith) ∙ sym e) n l h (eqb n c) refl;
            later = λ n l. old.later n (omega arith);
            kept = old.kept;
          }

      pub asked_gone :
          (after : List ℕ)
          → answer ≡ true
          → PlacesOf (λ p. in_places rest p && not (eqb (p / 16) c)) after
          → Asked s met masks pairs (c + 1) before after
      asked_gone after e less =
          record {
            answer = λ n. old.answer n || eqb n c;
            told = λ n l h.
                telling (λ j. old.answer j || eqb j c) (λ j m. rw (ne_eqb j c (λ z. omega arith), or_end))
                (rw (eq-eqb c c refl, e) (or_true (old.answer c))) n l h (eqb n c) refl;
            later = λ n l. rw (old.later n (omega arith)) (ne_eqb n c (λ z. omega arith));
            kept = λ p l.
                less p l
                ∙ rw (old.kept p l) (less_both (in_places before p) (old.answer (p / 16)) (eqb (p / 16) c));
          }
        where
          less_both : (x y z : Bool) → ((x && not y) && not z) ≡ (x && not (y || z))
          less_both true true z = refl
          less_both true false z = refl
          less_both false y z = refl

-- One first place

module _ (t : List RuleTable) (rules : ℕ) (firsts seconds : List ℕ) (l m k : ℕ) (before : List ℕ) where
  pub tried_outside : in_places firsts (16 * l + k) ≡ false → Tried t rules firsts seconds l m k before before
  tried_outside out =
      record {
        fewer = λ x b h. h;
        whole = λ x z b d e h g. g;
        closed = λ x y b h f e g. both f out;
        gone = λ x b h n. both h n;
      }

  module _ (a : ℕ) (met : List (List ℕ)) (masks : List ℕ) (s : List (List (List ℕ))) (pairs after : List ℕ) (ea : a ≡ 16 * l + k) (first : in_places firsts a ≡ true)
      (second_small : m < 132) (given : Prepared t met (has rules) seconds before)
      (masked : MasksHold t rules a m masks) (sliced : SlicesHold t masks a s) (paired : SecondPairs seconds m pairs)
      (asked : Asked s met masks pairs 132 before after) where
    stays :
        (x : ℕ)
        → x < 2112
        → in_places after x ≡ true
        → (in_places before x ≡ true) × (not (asked.answer (x / 16)) ≡ true)
    stays x b h = and_both (in_places before x) (not (asked.answer (x / 16))) (sym (asked.kept x b) ∙ h)

    -- what the answer says of a cell's places
    opened :
        (x : ℕ)
        → x < 2112
        → in_places before x ≡ true
        → asked.answer (x / 16) ≡ true
        → (y z : ℕ)
        × (y / 16 ≡ m)
        × (in_places seconds y ≡ true)
        × (z / 16 ≡ x / 16)
        × (in_places before z ≡ true)
        × (spares t (has rules) a y z ≡ true)
    opened x small h e =
        let n = x / 16 in
        let one = asked.told n (omega arith) (cell_member before x h) in
        let found = one.2.found e in
        let w = found.0 in
        let b = found.1 in
        let lw : w < 4 = found.2 in
        let lb : b < 64 = found.3 in
        let y = 16 * m + (4 * w + b / 16) in
        let z = 16 * n + b % 16 in
        let p =
        accepts_spares t met rules seconds before a m masks s pairs given masked sliced paired second_small n
        one.0 (omega arith) one.1 y z w b lw lb refl refl found.4 in
        (y, z, omega arith, p.0, omega arith, p.1, p.2)

    unopened :
        (x y : ℕ)
        → x < 2112
        → in_places before x ≡ true
        → asked.answer (x / 16) ≡ false
        → y / 16 ≡ m
        → in_places seconds y ≡ true
        → spares t (has rules) a y x ≡ false
    unopened x y small h e ey g =
        let n = x / 16 in
        let one = asked.told n (omega arith) (cell_member before x h) in
        fails (spares t (has rules) a y x)
        (λ spared.
        let w = y % 16 / 4 in
        let b = 16 * (y % 4) + x % 16 in
        one.2.none e w b (omega arith) (omega arith)
        (spares_accepts t met rules seconds before a m masks s pairs given masked sliced paired second_small n
        one.0 (omega arith) one.1 y x w b (omega arith) (omega arith) (omega arith) (omega arith) g h spared))

    pub tried_asked : Tried t rules firsts seconds l m k before after
    tried_asked =
        record {
          fewer = λ x b h. (stays x b h).0;
          whole = λ x z b d e h g.
              asked.kept z d ∙ and_true (in_places before z) (not (asked.answer (z / 16))) g (rw e (stays x b h).1);
          closed = λ x y b h f e g.
              let there = stays x b h in
              ap (λ (c : ℕ). spares t (has rules) c y x) (sym ea)
              ∙ unopened x y b there.0 (not-true (asked.answer (x / 16)) there.1) e g;
          gone = λ x b h none.
              let p = opened x b h (taken x b h none) in (
                ap (in_places firsts) (sym ea) ∙ first,
                p.0,
                p.1,
                p.2,
                p.3,
                p.4,
                p.5,
                ap (λ (c : ℕ). spares t (has rules) c p.0 p.1) (sym ea) ∙ p.6,
              );
        }
      where
        taken : (x : ℕ) → x < 2112 → in_places before x ≡ true → in_places after x ≡ false → asked.answer (x / 16) ≡ true
        taken x b h none = go (asked.answer (x / 16)) refl
          where
            go : (c : Bool) → asked.answer (x / 16) ≡ c → asked.answer (x / 16) ≡ true
            go true e = e
            go false e = both (asked.kept x b ∙ rw (h, e)) none

-- All first places of a cell

-- fewer places
pub prepared_places :
    (t : List RuleTable) (met : List (List ℕ)) (rules : ℕ → Bool) (seconds places rest : List ℕ)
    → ((x : ℕ) → x < 2112 → in_places rest x ≡ true → in_places places x ≡ true)
    → Prepared t met rules seconds places
    → Prepared t met rules seconds rest
prepared_places t met rules seconds places rest fewer given =
    record {
      met_holds = given.met_holds;
      seconds_whole = given.seconds_whole;
      thirds_whole = λ q i p l h li lp member. given.thirds_whole q i p l h li lp (fewer p lp member);
      repeats = given.repeats;
    }

-- what is left when j places of cell l have been tried, in turn from the h-th
pub record LeftFrom
    (t : List RuleTable)
    (rules : ℕ)
    (firsts seconds thirds : List ℕ)
    (l m h j : ℕ)
    (rest : List ℕ)
    : Type 0 where
  pub left : Left t rules firsts seconds thirds l m 0 rest
  pub closed :
      (i x y : ℕ)
      → i < j
      → x < 2112
      → in_places rest x ≡ true
      → in_places firsts (16 * l + (h + i) % 16) ≡ true
      → y / 16 ≡ m
      → in_places seconds y ≡ true
      → spares t (has rules) (16 * l + (h + i) % 16) y x ≡ false

module _ (t : List RuleTable) (rules : ℕ) (firsts seconds thirds : List ℕ) (l m h : ℕ) where
  pub left_start : LeftFrom t rules firsts seconds thirds l m h 0 thirds
  left_start =
      record {
        left = record {
          fewer = λ x b g. g;
          whole = λ x z b d e g i. i;
          closed = λ j x y low b g f e i. absurd (omega arith);
          gone = λ x b g n. both g n;
        };
        closed = λ i x y low b g f e k. absurd (omega arith);
      }

  module _ (j : ℕ) (rest : List ℕ) (old : LeftFrom t rules firsts seconds thirds l m h j rest) where
    -- nothing is left, and nothing of it is open
    pub left_empty : ((w : ℕ) → get_or rest w 0 ≡ 0) → Left t rules firsts seconds thirds l m 16 rest
    left_empty none =
        record {
          fewer = old.left.fewer;
          whole = old.left.whole;
          closed = λ k x y low b g f e i. both g (none_in rest none x);
          gone = old.left.gone;
        }

    -- sixteen in turn are all
    pub left_end : 16 ≤ j → Left t rules firsts seconds thirds l m 16 rest
    left_end all =
        record {
          fewer = old.left.fewer;
          whole = old.left.whole;
          closed = λ k x y low b g f e i.
              let turn : (h + (k + 16 - h % 16) % 16) % 16 ≡ k = in_turn h k low in
              rw turn at
              (old.closed ((k + 16 - h % 16) % 16) x y (omega arith) b g
              (ap (λ (c : ℕ). in_places firsts (16 * l + c)) turn ∙ f) e i);
          gone = old.left.gone;
        }
      where
        in_turn : (h k : ℕ) → k < 16 → (h + (k + 16 - h % 16) % 16) % 16 ≡ k
        in_turn h k low = omega arith

    module _ (after : List ℕ) (tried : Tried t rules firsts seconds l m ((h + j) % 16) rest after) where
      opens_gone :
          (x : ℕ)
          → x < 2112
          → in_places thirds x ≡ true
          → in_places after x ≡ false
          → Opens t (has rules) firsts seconds thirds l m (x / 16)
      opens_gone x b there none = go (in_places rest x) refl
        where
          go : (c : Bool) → in_places rest x ≡ c → Opens t (has rules) firsts seconds thirds l m (x / 16)
          go false e = old.left.gone x b there e
          go true e =
              let p = tried.gone x b e none in
              let f : p.2 / 16 ≡ x / 16 = p.5 in
              record {
                first = 16 * l + (h + j) % 16;
                second = p.1;
                third = p.2;
                in_first = (omega arith, p.0);
                in_second = (p.3, p.4);
                in_third = (f, old.left.fewer p.2 (omega arith) p.6);
                spared = p.7;
              }

      -- the next in turn
      pub left_more : LeftFrom t rules firsts seconds thirds l m h (j + 1) after
      left_more =
          record {
            left = record {
              fewer = λ x b g. old.left.fewer x b (tried.fewer x b g);
              whole = λ x z b d e g i.
                  tried.whole x z b d e g (old.left.whole x z b d e (tried.fewer x b g) i);
              closed = λ k x y low b g f e i. absurd (omega arith);
              gone = opens_gone;
            };
            closed = λ i x y low b g f e k. go i x y low b g f e k (eqb i j) refl;
          }
        where
          go :
              (i x y : ℕ)
              → i < j + 1
              → x < 2112
              → in_places after x ≡ true
              → in_places firsts (16 * l + (h + i) % 16) ≡ true
              → y / 16 ≡ m
              → in_places seconds y ≡ true
              → (c : Bool)
              → eqb i j ≡ c
              → spares t (has rules) (16 * l + (h + i) % 16) y x ≡ false
          go i x y low b g f e k true ei =
              rw (eqb-true i j ei) (tried.closed x y b g (rw (eqb-true i j ei) at f) e k)
          go i x y low b g f e k false ei =
              let other = eqb-false i j ei in
              old.closed i x y (omega arith) b (tried.fewer x b g) f e k
