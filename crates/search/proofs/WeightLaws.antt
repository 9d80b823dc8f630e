-- Laws of the search by the number of functions: sets parted by it, the earlier of two answers, and the lightest.
-- Assumes nothing.
use Prim.Native.Nat.{ℕ, ◌+◌, ◌-◌, ◌*◌, ◌/◌, ◌%◌, ◌^◌, ◌≤◌, ◌<◌}
use native.Mathlib.Omega.{arith}
use mathlib.Core.Path.{◌≡◌, refl, sym, ap, ◌∙◌}
use mathlib.Core.Logic.{⊎_elim}
use mathlib.Core.Bool.{Bool, true, false, ◌&&◌, ◌||◌, not, cond, false≢true}
use mathlib.Core.List.{List}
use lib.ListN.{length}
use lib.Dec.{eqb, ltb}
use borrow.Author.Tests.{eqb-true, eqb-false, eq-eqb, ltb-true, lt-ltb}
use Rattle.book.specs.Lists.{all, any, up_to, from}
use Rattle.book.specs.Sets.{has}
use Rattle.book.proofs.Lists.{and_true, and_both, and_end, and_false, and_left, or_either, or_end, or_left}
use Rattle.book.proofs.Lists.{or_right, or_true, all_at, ltb_more, same_test}
use Rattle.book.proofs.Members.{has_not, has_zero}
use Rattle.search.specs.Inner.Places.{in_places, PlacesOf}
use Rattle.search.specs.Inner.Search.{Earliest, NeedsFirst, NeedsUser, Possible, Searched, covers_in}
use Rattle.search.specs.Inner.Search.{others_for, refuses, solves, solves_for, solves_in, triple_before}
use Rattle.search.specs.Inner.Weight.{functions_at, weight_at, lighter_places, pattern_at, pattern_weight, solves_among}
use Rattle.search.specs.Inner.Weight.{PartOf, SetsFor, FirstOf, LightestOf}
use Rattle.search.specs.Inner.Closing.{Remaining}
use Rattle.std.specs.Prelude.{Option, Some, None}
use Rattle.std.specs.Option.{is_some, unwrap_or}
use Rattle.search.specs.declared.places.Places.{Places}
use Rattle.search.specs.declared.users.Witness.{Witness}
use Rattle.search.specs.declared.weighing.Sets.{Sets}
use Rattle.search.proofs.Sieves.{both}
use Rattle.search.proofs.Solutions.{drop_in, fails, found_solved, nothing_unsolved, place_below}
use Rattle.search.proofs.Solutions.{triple_after, triple_until}
use Rattle.search.proofs.SearchSteps.{in_lessen}
use Rattle.search.proofs.Candidates.{solves_back, solves_there, solves_within}
use Rattle.search.proofs.UserLaws.{solves_for_law}
use Rattle.search.specs.declared.tables.RuleTable.{RuleTable}

-- Functions of places

pub functions_none : (p : ℕ) → p % 16 ≡ 0 → functions_at p ≡ 0
unfolding functions_at
functions_none p e = rw (eq-eqb (p % 16) 0 e)

pub functions_one : (p : ℕ) → (p % 16 ≡ 0 → ⊥) → functions_at p ≡ 1
unfolding functions_at
functions_one p n = rw (fails (eqb (p % 16) 0) (λ e. n (eqb-true (p % 16) 0 e)))

pub functions_most : (p : ℕ) → functions_at p ≤ 1
unfolding functions_at
functions_most p = go (eqb (p % 16) 0)
  where
    go : (b : Bool) → cond b 0 1 ≤ 1
    go true = omega arith
    go false = omega arith

module _ (a y x : ℕ) where
  pub pattern_below : pattern_at a y x < 8
  unfolding pattern_at
  pattern_below = omega (arith, functions_most a, functions_most y, functions_most x)

  pub pattern_weight_law : pattern_weight (pattern_at a y x) ≡ weight_at a y x
  unfolding pattern_at weight_at
  pattern_weight_law = omega (arith, functions_most a, functions_most y, functions_most x)

  pub pattern_parts :
      (k : ℕ)
      → k ≤ 7
      → (eqb (functions_at a) (k / 4 % 2) && (eqb (functions_at y) (k / 2 % 2) && eqb (functions_at x) (k % 2)))
      ≡ eqb (pattern_at a y x) k
  unfolding pattern_at
  pattern_parts k most =
      same_test
      (eqb (functions_at a) (k / 4 % 2) && (eqb (functions_at y) (k / 2 % 2) && eqb (functions_at x) (k % 2)))
      (eqb (4 * functions_at a + (2 * functions_at y + functions_at x)) k)
      (λ h.
      let p = and_both (eqb (functions_at a) (k / 4 % 2)) (eqb (functions_at y) (k / 2 % 2) && eqb (functions_at x) (k % 2)) h in
      let q = and_both (eqb (functions_at y) (k / 2 % 2)) (eqb (functions_at x) (k % 2)) p.1 in
      let ea = eqb-true (functions_at a) (k / 4 % 2) p.0 in
      let ey = eqb-true (functions_at y) (k / 2 % 2) q.0 in
      let ex = eqb-true (functions_at x) (k % 2) q.1 in
      let four : k / 4 % 2 ≡ k / 4 = omega arith in
      let two : k / 2 ≡ 2 * (k / 4) + k / 2 % 2 = omega arith in
      let one : k ≡ 2 * (k / 2) + k % 2 = omega arith in
      eq-eqb (4 * functions_at a + (2 * functions_at y + functions_at x)) k (omega arith))
      (λ h.
      let e = eqb-true (4 * functions_at a + (2 * functions_at y + functions_at x)) k h in
      let la = functions_most a in
      let ly = functions_most y in
      let lx = functions_most x in
      and_true (eqb (functions_at a) (k / 4 % 2)) (eqb (functions_at y) (k / 2 % 2) && eqb (functions_at x) (k % 2))
      (eq-eqb (functions_at a) (k / 4 % 2) (omega arith))
      (and_true (eqb (functions_at y) (k / 2 % 2)) (eqb (functions_at x) (k % 2))
      (eq-eqb (functions_at y) (k / 2 % 2) (omega arith)) (eq-eqb (functions_at x) (k % 2) (omega arith))))

-- Sets parted by functions

-- the code's mask of the places with operation 0
pub raw_bit : (p : ℕ) → has 281479271743489 (p % 64) ≡ eqb (p % 16) 0
unfolding has all up_to from
raw_bit p =
    let e : p % 64 % 16 ≡ p % 16 = omega arith in
    alike (has 281479271743489 (p % 64)) (eqb (p % 16) 0) (rw e at (all_at test 64 each (p % 64) (omega arith)))
  where
    alike : (a b : Bool) → cond a b (not b) ≡ true → a ≡ b
    alike true b h = sym h
    alike false true h = h
    alike false false h = refl

    test : ℕ → Bool
    test j = cond (has 281479271743489 j) (eqb (j % 16) 0) (not (eqb (j % 16) 0))

    each : all test (up_to 64) ≡ true
    each = refl

-- the places that stay without some operations, also past the last
pub parted_by :
    (set part : List ℕ) (operations functions : ℕ)
    → length set ≡ 33
    → length part ≡ 33
    → ((p : ℕ) → not (has operations (p % 64)) ≡ eqb (functions_at p) functions)
    → PlacesOf (λ p. in_places set p && not (has operations (p % 64))) part
    → (p : ℕ)
    → in_places part p ≡ (in_places set p && eqb (functions_at p) functions)
parted_by set part operations functions long size same of p =
    let rest = eqb (functions_at p) functions in
    let below : p < 2112 → in_places part p ≡ (in_places set p && rest) = λ l. of p l ∙ rw (same p) in
    same_test (in_places part p) (in_places set p && rest) (λ h. sym (below (place_below part p size h)) ∙ h)
    (λ h. below (place_below set p long (and_left (in_places set p) rest h)) ∙ h)

-- what stays without the operation 0, and what stays without any other
pub raw_out : (p : ℕ) → not (has 281479271743489 (p % 64)) ≡ eqb (functions_at p) 1
unfolding functions_at
raw_out p = rw (raw_bit p) (go (eqb (p % 16) 0))
  where
    go : (b : Bool) → not b ≡ eqb (cond b 0 1) 1
    go true = refl
    go false = refl

pub raw_only : (p : ℕ) → not (has ((2 ^ 64 - 1) - 281479271743489) (p % 64)) ≡ eqb (functions_at p) 0
unfolding functions_at
raw_only p =
    rw (has_not 64 281479271743489 (p % 64) (omega arith), lt-ltb (p % 64) 64 (omega arith), raw_bit p)
    (go (eqb (p % 16) 0))
  where
    go : (b : Bool) → not (not b) ≡ eqb (cond b 0 1) 0
    go true = refl
    go false = refl

-- The first of a kind

module _ (p q : ℕ → ℕ → ℕ → Bool) (same : (a y x : ℕ) → p a y x ≡ q a y x) where
  -- tests that agree have one answer
  pub first_same : (f : Option Places) → FirstOf p f → FirstOf q f
  unfolding FirstOf
  first_same None h = λ a y x. sym (same a y x) ∙ h a y x
  first_same (Some p) h =
      record {
        solution = sym (same p.first p.second p.third) ∙ h.solution;
        earliest = λ b z w e. sym (same b z w) ∙ h.earliest b z w e;
      }

-- The same places in sets and in their parts

module _ (t : List RuleTable) (r n k : ℕ) (few : k ≤ 7) (sets : Sets) (firsts seconds thirds : List ℕ)
    (of_firsts : PartOf sets.firsts (k / 4) firsts)
    (of_seconds : PartOf sets.seconds (k / 2) seconds)
    (of_thirds : PartOf sets.thirds k thirds) where
  regroup :
      (f i s j u l rest : Bool)
      → (((f && i) && ((s && j) && (u && l))) && rest) ≡ (((f && (s && u)) && rest) && (i && (j && l)))
  regroup false i s j u l rest = refl
  regroup true false s j u l rest = sym (and_false ((s && u) && rest))
  regroup true true false j u l rest = refl
  regroup true true true false u l rest = sym (and_false (u && rest))
  regroup true true true true false l rest = refl
  regroup true true true true true true rest = sym (and_end rest)
  regroup true true true true true false rest = sym (and_false rest)

  pub solves_pattern :
      (rules a y x : ℕ)
      → solves_in t r n firsts seconds thirds (has rules) a y x
      ≡ (solves_among t r n rules sets a y x && eqb (pattern_at a y x) k)
  unfolding solves_in solves_among
  solves_pattern rules a y x =
      rw (of_firsts a, of_seconds y, of_thirds x, ← pattern_parts a y x k few)
      (regroup (in_places sets.firsts a) (eqb (functions_at a) (k / 4 % 2)) (in_places sets.seconds y)
      (eqb (functions_at y) (k / 2 % 2)) (in_places sets.thirds x) (eqb (functions_at x) (k % 2))
      (refuses t r n a y x && not (any (λ q. has rules q && drop_in t a y x q) (up_to 32))))

  -- what the search in the parts says
  pub pattern_answers :
      (rules marked : ℕ) (s : Option Places)
      → Searched (solves_in t r n firsts seconds thirds) rules 0 marked s
      → FirstOf (λ b z w. solves_among t r n rules sets b z w && eqb (pattern_at b z w) k) s
  unfolding FirstOf
  pattern_answers rules marked (Some at) searched =
      first_same (solves_in t r n firsts seconds thirds (has rules))
      (λ b z w. solves_among t r n rules sets b z w && eqb (pattern_at b z w) k) (solves_pattern rules) (Some at)
      (found_solved (solves_in t r n firsts seconds thirds) rules 0 marked (Some at) at refl searched)
  pattern_answers rules marked None searched = λ a y x.
      let none = nothing_unsolved (solves_in t r n firsts seconds thirds) rules 0 marked None refl searched in
      sym (solves_pattern rules a y x)
      ∙ fails (solves_in t r n firsts seconds thirds (has rules) a y x)
      (λ h.
      both
      (in_lessen t r n firsts seconds thirds (has marked) (has rules) (λ q m. none.only q m (has_zero q)) a y x h)
      (none.none a y x))

-- The earlier of two

module _ (p q : ℕ → ℕ → ℕ → Bool) where
  pub earlier_other : (f : Option Places) → FirstOf p None → FirstOf q f → FirstOf (λ a y x. p a y x || q a y x) f
  unfolding FirstOf
  earlier_other f none = first_same q (λ a y x. p a y x || q a y x) (λ a y x. rw (none a y x)) f

  pub earlier_one : (f : Option Places) → FirstOf p f → FirstOf q None → FirstOf (λ a y x. p a y x || q a y x) f
  unfolding FirstOf
  earlier_one f h none =
      first_same p (λ a y x. p a y x || q a y x) (λ a y x. rw (none a y x) (sym (or_end (p a y x)))) f h

  module _ (a b : Places) where
    pub earlier_second :
        triple_before b.first b.second b.third a.first a.second a.third ≡ true
        → FirstOf p (Some a)
        → FirstOf q (Some b)
        → FirstOf (λ a y x. p a y x || q a y x) (Some b)
    unfolding FirstOf
    earlier_second before one other =
        record {
          solution = or_right (p b.first b.second b.third) (q b.first b.second b.third) other.solution;
          earliest = λ c v u e.
              rw (one.earliest c v u (triple_after c v u b.first b.second b.third a.first a.second a.third e before))
              (other.earliest c v u e);
        }

    pub earlier_first :
        triple_before b.first b.second b.third a.first a.second a.third ≡ false
        → FirstOf p (Some a)
        → FirstOf q (Some b)
        → FirstOf (λ a y x. p a y x || q a y x) (Some a)
    unfolding FirstOf
    earlier_first after one other =
        record {
          solution = or_left (p a.first a.second a.third) (q a.first a.second a.third) one.solution;
          earliest = λ c v u e.
              rw (one.earliest c v u e)
              (other.earliest c v u (triple_until c v u a.first a.second a.third b.first b.second b.third e after));
        }

-- Pattern by pattern

module _ (test : ℕ → ℕ → ℕ → Bool) (weight : ℕ) where
  -- with so many functions, in the patterns below k
  abbrev pub weighed : ℕ → ℕ → ℕ → ℕ → Bool
  weighed k a y x = test a y x && (ltb (pattern_at a y x) k && eqb (weight_at a y x) weight)

  pub weighed_none : FirstOf (weighed 0) None
  unfolding FirstOf
  weighed_none a y x =
      fails (weighed 0 a y x)
      (λ h.
      let p = and_both (test a y x) (ltb (pattern_at a y x) 0 && eqb (weight_at a y x) weight) h in
      let l = ltb-true (pattern_at a y x) 0 (and_left (ltb (pattern_at a y x) 0) (eqb (weight_at a y x) weight) p.1) in
      omega arith)

  -- a pattern with another number of functions
  pub weighed_skip :
      (k : ℕ) (f : Option Places) → (pattern_weight k ≡ weight → ⊥) → FirstOf (weighed k) f → FirstOf (weighed (k + 1)) f
  weighed_skip k f other = first_same (weighed k) (weighed (k + 1)) same f
    where
      same : (a y x : ℕ) → weighed k a y x ≡ weighed (k + 1) a y x
      same a y x = go (eqb (pattern_at a y x) k) refl
        where
          go : (b : Bool) → eqb (pattern_at a y x) k ≡ b → weighed k a y x ≡ weighed (k + 1) a y x
          go false e = rw (ltb_more (pattern_at a y x) k (eqb-false (pattern_at a y x) k e))
          go true e =
              let p : pattern_at a y x ≡ k = eqb-true (pattern_at a y x) k e in
              let w = pattern_weight_law a y x in
              let no : eqb (weight_at a y x) weight ≡ false =
              fails (eqb (weight_at a y x) weight)
              (λ h. other (ap pattern_weight (sym p) ∙ w ∙ eqb-true (weight_at a y x) weight h)) in
              rw (no, and_false (ltb (pattern_at a y x) k), and_false (ltb (pattern_at a y x) (k + 1)))

  -- one with as many
  pub weighed_more :
      (k : ℕ) (f : Option Places)
      → pattern_weight k ≡ weight
      → FirstOf (λ a y x. weighed k a y x || (test a y x && eqb (pattern_at a y x) k)) f
      → FirstOf (weighed (k + 1)) f
  weighed_more k f e =
      first_same (λ a y x. weighed k a y x || (test a y x && eqb (pattern_at a y x) k)) (weighed (k + 1)) same f
    where
      same : (a y x : ℕ) → (weighed k a y x || (test a y x && eqb (pattern_at a y x) k)) ≡ weighed (k + 1) a y x
      same a y x = go (eqb (pattern_at a y x) k) refl (test a y x)
        where
          below : Bool
          below = ltb (pattern_at a y x) k

          above : Bool
          above = ltb (pattern_at a y x) (k + 1)

          equal : Bool
          equal = eqb (weight_at a y x) weight

          go :
              (b : Bool)
              → eqb (pattern_at a y x) k ≡ b
              → (c : Bool)
              → ((c && (below && equal)) || (c && eqb (pattern_at a y x) k)) ≡ (c && (above && equal))
          go b h false = refl
          go false h true =
              rw (h, or_end (below && equal), ltb_more (pattern_at a y x) k (eqb-false (pattern_at a y x) k h))
          go true h true =
              let p : pattern_at a y x ≡ k = eqb-true (pattern_at a y x) k h in
              let w = pattern_weight_law a y x in
              rw (
                h,
                or_true (below && equal),
                lt-ltb (pattern_at a y x) (k + 1) (omega arith),
                eq-eqb (weight_at a y x) weight (sym w ∙ ap pattern_weight p ∙ e),
              )

  pub weighed_all :
      (k : ℕ) (f : Option Places)
      → 8 ≤ k
      → FirstOf (weighed k) f
      → FirstOf (λ a y x. test a y x && eqb (weight_at a y x) weight) f
  weighed_all k f past =
      first_same (weighed k) (λ a y x. test a y x && eqb (weight_at a y x) weight)
      (λ a y x. rw (lt-ltb (pattern_at a y x) k (omega (arith, pattern_below a y x)))) f

-- Weight by weight

module _ (test : ℕ → ℕ → ℕ → Bool) where
  pub lightest_none : LightestOf test 0 None
  unfolding LightestOf
  lightest_none a y x l = absurd (omega arith)

  -- none has as many functions
  pub lightest_more :
      (weight : ℕ) (found : Option Places)
      → is_some found ≡ false
      → FirstOf (λ a y x. test a y x && eqb (weight_at a y x) weight) found
      → LightestOf test weight None
      → LightestOf test (weight + 1) None
  unfolding LightestOf FirstOf
  lightest_more weight (Some p) e none old = absurd (false≢true (sym e))
  lightest_more weight None h none old = λ a y x l. go a y x l (eqb (weight_at a y x) weight) refl
    where
      go : (a y x : ℕ) → weight_at a y x < weight + 1 → (b : Bool) → eqb (weight_at a y x) weight ≡ b → test a y x ≡ false
      go a y x l true e =
          fails (test a y x)
          (λ h. both (and_true (test a y x) (eqb (weight_at a y x) weight) h e) (none a y x))
      go a y x l false e =
          let n = eqb-false (weight_at a y x) weight e in
          old a y x (omega arith)

  -- the first of those with as many functions is the first of all, if none has fewer
  pub light_first :
      (weight a y x : ℕ)
      → test a y x ≡ true
      → weight_at a y x ≡ weight
      → ((b z w : ℕ) → triple_before b z w a y x ≡ true → weight_at b z w ≡ weight → test b z w ≡ false)
      → LightestOf test weight None
      → Earliest lighter_places test a y x
  unfolding LightestOf lighter_places
  light_first weight a y x here e first none =
      record {
        solution = here;
        earliest = λ b z w h.
            ⊎_elim
            (λ (l : ltb (weight_at b z w) (weight_at a y x) ≡ true).
            let m = ltb-true (weight_at b z w) (weight_at a y x) l in
            none b z w (omega arith))
            (λ (s : (eqb (weight_at b z w) (weight_at a y x) && triple_before b z w a y x) ≡ true).
            let q = and_both (eqb (weight_at b z w) (weight_at a y x)) (triple_before b z w a y x) s in
            first b z w q.1 (eqb-true (weight_at b z w) (weight_at a y x) q.0 ∙ e))
            (or_either (ltb (weight_at b z w) (weight_at a y x))
            (eqb (weight_at b z w) (weight_at a y x) && triple_before b z w a y x) h);
      }

  -- some have, and none has fewer
  pub lightest_found :
      (weight most : ℕ) (found : Option Places)
      → is_some found ≡ true
      → FirstOf (λ a y x. test a y x && eqb (weight_at a y x) weight) found
      → LightestOf test weight None
      → LightestOf test most found
  unfolding LightestOf FirstOf
  lightest_found weight most None e first none = absurd (false≢true e)
  lightest_found weight most (Some p) e first none =
      let a = p.first in
      let y = p.second in
      let x = p.third in
      let h = and_both (test a y x) (eqb (weight_at a y x) weight) first.solution in
      light_first weight a y x h.0 (eqb-true (weight_at a y x) weight h.1)
      (λ b z w e q.
      fails (test b z w)
      (λ h.
      both (and_true (test b z w) (eqb (weight_at b z w) weight) h (eq-eqb (weight_at b z w) weight q))
      (first.earliest b z w e)))
      none

-- The candidates

-- what is left when each lost what breaks a rule by itself
pub sets_for :
    (t : List RuleTable) (r n : ℕ) (had : List ℕ) (rules : ℕ) (first second third : Remaining) (sets : Sets)
    → Possible t r n had rules 0 0 first
    → Possible t r n had rules 1 first.rules second
    → Possible t r n had rules 2 second.rules third
    → length first.places ≡ 33
    → length second.places ≡ 33
    → length third.places ≡ 33
    → sets.firsts ≡ first.places
    → sets.seconds ≡ second.places
    → sets.thirds ≡ third.places
    → SetsFor t r n had rules sets
unfolding solves_among
sets_for t r n had rules first second third sets one two three la lb lc ea eb ec a y x =
    let grown = solves_within t r n had rules 0 first second third one two three (λ q h. both h (has_zero q)) in
    rw (ea, eb, ec)
    (same_test (solves t r n had (has rules) a y x)
    (solves_in t r n first.places second.places third.places (has rules) a y x)
    (solves_there t r n had rules 0 first second third one two three (has rules) grown.2 a y x)
    (solves_back t r n had rules 0 first second third one two three la lb lc a y x))

-- The lightest for the user that was found

pub nobody_lighter :
    (t : List RuleTable) (r n : ℕ) (had covered : List ℕ) (found : Option Witness)
    → found ≡ None
    → NeedsFirst triple_before t r n had covered found
    → NeedsFirst lighter_places t r n had covered None
unfolding NeedsFirst
nobody_lighter t r n had covered found e h = rw e at h

module _
    (t : List RuleTable)
    (r n : ℕ)
    (had covered : List ℕ)
    (found : Option Witness)
    (w : Witness)
    (e : found ≡ Some w)
    (needs : NeedsFirst triple_before t r n had covered found)
  where
    abbrev places : Places
    places = w.places

    abbrev weight : ℕ
    weight = weight_at places.first places.second places.third

    user_needs : NeedsUser triple_before t r n had covered w.user places.first places.second places.third
    unfolding NeedsFirst
    user_needs = rw e at needs

    -- none is lighter
    pub fewest_kept :
        LightestOf (solves_for t r n had covered w.user) weight None → NeedsFirst lighter_places t r n had covered (Some w)
    unfolding NeedsFirst
    fewest_kept none =
        let found = user_needs.found in
        record {
          below = user_needs.below;
          found =
              light_first (solves_for t r n had covered w.user) weight places.first places.second places.third
              found.solution refl (λ b z v before equal. found.earliest b z v before) none;
          users = user_needs.users;
        }

    module _ (rules : ℕ) (others : (q : ℕ) → has rules q ≡ (ltb q 32 && others_for r covered w.user q)) (sets : Sets)
        (of : SetsFor t r n had rules sets) where
      same_for : (b z v : ℕ) → solves_among t r n rules sets b z v ≡ solves_for t r n had covered w.user b z v
      unfolding solves_for
      same_for b z v =
          let covers =
          and_left (covers_in covered r w.user)
          (solves t r n had (others_for r covered w.user) places.first places.second places.third)
          user_needs.found.solution in
          sym (of b z v) ∙ solves_for_law t r n had covered w.user rules others covers b z v

      pub fewest_found :
          (lighter : Option Places)
          → LightestOf (solves_among t r n rules sets) weight lighter
          → NeedsFirst lighter_places t r n had covered (Some (record { user = w.user; places = unwrap_or lighter places }))
      unfolding NeedsFirst LightestOf
      fewest_found None least = fewest_kept (λ b z v l. sym (same_for b z v) ∙ least b z v l)
      fewest_found (Some p) light =
          record {
            below = user_needs.below;
            found =
                record {
                  solution = sym (same_for p.first p.second p.third) ∙ light.solution;
                  earliest = λ c v i before. sym (same_for c v i) ∙ light.earliest c v i before;
                };
            users = user_needs.users;
          }
