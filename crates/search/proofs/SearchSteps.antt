-- Laws of the search, place by place: the third beside two, the second and the third beside one, and the first.
-- Assumes nothing.
use Prim.Native.Nat.{ℕ, ◌+◌, ◌/◌, ◌%◌, ◌≤◌, ◌<◌}
use native.Mathlib.Nat.{lt_of_lt_of_le}
use native.Mathlib.Omega.{arith}
use mathlib.Core.Path.{◌≡◌, refl, ap, ◌∙◌}
use mathlib.Core.Bool.{Bool, true, false, ◌||◌}
use mathlib.Core.List.{List}
use lib.ListN.{length, get_or}
use lib.Dec.{eqb}
use borrow.Author.Tests.{eqb-true, eq-eqb}
use Rattle.book.specs.Sets.{has}
use Rattle.book.proofs.Lists.{or_neither}
use Rattle.book.proofs.Members.{has_zero}
use Rattle.search.specs.Inner.Places.{FirstFrom, in_places}
use Rattle.search.specs.Inner.Closing.{closes, Within, Sifted}
use Rattle.search.specs.Inner.Search.{refuses, solves_in, solves_first, solves_beside, solves_pair}
use Rattle.search.specs.Inner.Search.{Solved, Unsolved, Thirds, SettledBy}
use Rattle.search.specs.Inner.Closing.{Remaining}
use Rattle.search.proofs.Sieves.{both}
use Rattle.search.proofs.Solutions.{before_cases, beside_fewer, drop_in, fails, grown_join, grown_within}
use Rattle.search.proofs.Solutions.{in_fewer, passes, passing, place_below, unmarked}
use Rattle.search.proofs.Solutions.{Seeking, seeking_fewer, still, place_none, place_found}
use Rattle.search.specs.declared.tables.RuleTable.{RuleTable}

-- The third place, beside the first and the second

module _
    (t : List RuleTable)
    (r n rules a y : ℕ)
    (before rest : Remaining)
    (size : length before.places ≡ 33)
    (made : Thirds t r n rules a y before rest)
  where
    -- a solution is left
    thirds_left :
        (marked : ℕ → Bool)
        → Within (has rest.rules) marked
        → (b z w : ℕ)
        → solves_pair t r n a y before.places marked b z w ≡ true
        → in_places rest.places w ≡ true
    unfolding solves_pair
    thirds_left marked within b z w h =
        let p =
        passing (eqb b a) (eqb z y) (in_places before.places w) (refuses t r n b z w) marked (λ q. closes t q b z w) h in
        let first : b ≡ a = eqb-true b a p.first in
        let second : z ≡ y = eqb-true z y p.second in
        go (rw (first, second) at p.refusal) (rw (first, second) at p.free) p.third
        (in_places rest.places w) refl
      where
        go :
            refuses t r n a y w ≡ true
            → ((q : ℕ) → q < 32 → marked q ≡ true → closes t q a y w ≡ false)
            → in_places before.places w ≡ true
            → (s : Bool)
            → in_places rest.places w ≡ s
            → s ≡ true
        go refusal free third true e = refl
        go refusal free third false e =
            absurd
            (unmarked (has rest.rules) marked (λ q. closes t q a y w) within free
            (made.gone w (place_below before.places w size third) third refusal e))

    pub thirds_none :
        (x : ℕ)
        → length rest.places ≡ 33
        → FirstFrom rest.places 0 x
        → 2112 ≤ x
        → Unsolved (solves_pair t r n a y before.places) (has rules) (has before.rules) (has rest.rules)
    thirds_none x long found past =
        record {
          more = made.more;
          only = made.only;
          none = λ b z w.
              fails (solves_pair t r n a y before.places (has rest.rules) b z w)
              (λ h.
              let left = thirds_left (has rest.rules) (λ q m. m) b z w h in
              both left
              (found.skipped w (omega arith) (lt_of_lt_of_le (place_below rest.places w long left) past)));
        }

    pub thirds_found :
        (x : ℕ)
        → Within (has before.rules) (has rules)
        → FirstFrom rest.places 0 x
        → x < 2112
        → Solved (solves_pair t r n a y before.places (has rules)) a y x
    unfolding solves_pair
    thirds_found x begun found l =
        let inside = grown_within (has rules) (has before.rules) (has rest.rules) begun made.only in
        let here = found.member l in
        record {
          solution =
              passes (eqb a a) (eqb y y) (in_places before.places x) (refuses t r n a y x) (has rules)
              (λ q. closes t q a y x)
              (record {
                first = eq-eqb a a refl;
                second = eq-eqb y y refl;
                third = made.within x l here;
                refusal = made.refused x l here;
                free = λ q k j. made.passed x q l k here j;
              });
          earliest = λ b z w e.
              fails (solves_pair t r n a y before.places (has rules) b z w)
              (λ h.
              let p =
              passing (eqb b a) (eqb z y) (in_places before.places w) (refuses t r n b z w) (has rules)
              (λ q. closes t q b z w) h in
              let first = eqb-true b a p.first in
              let second = eqb-true z y p.second in
              before_cases b z w a y x e (λ low. omega arith) (λ same low. omega arith)
              (λ same equal low.
              both (thirds_left (has rules) inside b z w h) (found.skipped w (omega arith) low)));
        }

-- The second place, beside the first

module _ (t : List RuleTable) (r n a : ℕ) (seconds thirds : List ℕ) where
  pub beside_inside :
      (marked : ℕ → Bool) (b z w : ℕ)
      → solves_beside t r n a seconds thirds marked b z w ≡ true
      → in_places seconds z ≡ true
  unfolding solves_beside
  beside_inside marked b z w h =
      (passing (eqb b a) (in_places seconds z) (in_places thirds w) (refuses t r n b z w) marked (λ q. closes t q b z w)
      h).second

  pub beside_lessen :
      (some marked : ℕ → Bool)
      → Within some marked
      → (b z w : ℕ)
      → solves_beside t r n a seconds thirds marked b z w ≡ true
      → solves_beside t r n a seconds thirds some b z w ≡ true
  beside_lessen some marked within b z w = beside_fewer t r n some marked (λ q l. within q) b z w a seconds thirds

  -- no third place is left
  pub beside_empty :
      (rules before : ℕ)
      → ((k : ℕ) → get_or thirds k 0 ≡ 0)
      → Unsolved (solves_beside t r n a seconds thirds) (has rules) (has before) (has before)
  unfolding solves_beside in_places
  beside_empty rules before empty =
      record {
        more = λ q h. h;
        only = λ q h m. both h m;
        none = λ b z w.
            fails (solves_beside t r n a seconds thirds (has before) b z w)
            (λ h.
            both
            (passing (eqb b a) (in_places seconds z) (in_places thirds w) (refuses t r n b z w) (has before)
            (λ q. closes t q b z w) h).third
            (ap (λ (k : ℕ). has k (w % 64)) (empty (w / 64)) ∙ has_zero (w % 64)));
      }

  -- a solution for all second places is one for its own
  beside_pair :
      (s : ℕ) (marked : ℕ → Bool) (b z w : ℕ)
      → z ≡ s
      → solves_beside t r n a seconds thirds marked b z w ≡ true
      → solves_pair t r n a s thirds marked b z w ≡ true
  unfolding solves_beside solves_pair
  beside_pair s marked b z w e h =
      let p =
      passing (eqb b a) (in_places seconds z) (in_places thirds w) (refuses t r n b z w) marked
      (λ q. closes t q b z w) h in
      passes (eqb b a) (eqb z s) (in_places thirds w) (refuses t r n b z w) marked (λ q. closes t q b z w)
      (record {
        first = p.first;
        second = eq-eqb z s e;
        third = p.third;
        refusal = p.refusal;
        free = p.free;
      })

  pub beside_found :
      (waiting : List ℕ) (rules start seen s b z w : ℕ)
      → Within (has start) (has rules)
      → s < 2112
      → ((p : ℕ) → p < 2112 → in_places waiting p ≡ true → in_places seconds p ≡ true)
      → Seeking (solves_beside t r n a seconds thirds) (λ b z w. z) waiting rules start seen s
      → Solved (solves_pair t r n a s thirds (has rules)) b z w
      → Solved (solves_beside t r n a seconds thirds (has rules)) b z w
  unfolding solves_beside solves_pair
  beside_found waiting rules start seen s b z w begun l within seeking found =
      let p =
      passing (eqb b a) (eqb z s) (in_places thirds w) (refuses t r n b z w) (has rules) (λ q. closes t q b z w)
      found.solution in
      let first : b ≡ a = eqb-true b a p.first in
      let second : z ≡ s = eqb-true z s p.second in
      place_found (solves_beside t r n a seconds thirds) (λ b z w. z) beside_lessen (solves_pair t r n a s thirds) s
      (beside_pair s) waiting rules start seen b z w begun seeking
      (passes (eqb b a) (in_places seconds z) (in_places thirds w) (refuses t r n b z w) (has rules)
      (λ q. closes t q b z w)
      (record {
        first = p.first;
        second = ap (in_places seconds) second ∙ within s l (seeking.member l);
        third = p.third;
        refusal = p.refusal;
        free = p.free;
      }))
      (λ c y x e h.
      let same =
      eqb-true c a
      (passing (eqb c a) (in_places seconds y) (in_places thirds x) (refuses t r n c y x) (has rules)
      (λ q. closes t q c y x) h).first in
      before_cases c y x b z w e (λ low. absurd (omega arith)) (λ e low. omega arith) (λ e f low. omega arith))
      found

  -- a place that is settled has no solution
  beside_settled :
      (waiting : List ℕ) (rules seen : ℕ) (after : Remaining)
      → length waiting ≡ 33
      → length thirds ≡ 33
      → SettledBy t r n rules a thirds waiting seen after
      → (b z w : ℕ)
      → in_places waiting z ≡ true
      → in_places after.places z ≡ false
      → solves_beside t r n a seconds thirds (has after.rules) b z w ≡ false
  unfolding solves_beside
  beside_settled waiting rules seen after size long done b z w inside gone =
      fails (solves_beside t r n a seconds thirds (has after.rules) b z w)
      (λ h.
      let p =
      passing (eqb b a) (in_places seconds z) (in_places thirds w) (refuses t r n b z w) (has after.rules)
      (λ q. closes t q b z w) h in
      let same : b ≡ a = eqb-true b a p.first in
      unmarked (has after.rules) (has after.rules) (λ q. closes t q a z w) (λ q m. m)
      (rw same at p.free)
      (done.settled.gone z w (place_below waiting z size inside) (place_below thirds w long p.third) inside gone
      p.third (rw same at p.refusal)))

  -- a second place is done, and others may be settled
  pub beside_more :
      (waiting : List ℕ) (rules start seen more s next : ℕ) (after : Remaining)
      → length waiting ≡ 33
      → length thirds ≡ 33
      → FirstFrom after.places (s + 1) next
      → Unsolved (solves_pair t r n a s thirds) (has rules) (has seen) (has more)
      → SettledBy t r n rules a thirds waiting more after
      → Seeking (solves_beside t r n a seconds thirds) (λ b z w. z) waiting rules start seen s
      → Seeking (solves_beside t r n a seconds thirds) (λ b z w. z) after.places rules start after.rules next
  beside_more waiting rules start seen more s next after size long found none done =
      seeking_fewer (solves_beside t r n a seconds thirds) (λ b z w. z) beside_lessen waiting after.places rules start
      seen after.rules s next found (λ q h. done.more q (none.more q h))
      (grown_join (has rules) (has seen) (has more) (has after.rules) none.only done.only)
      (λ b z w e.
      still (solves_beside t r n a seconds thirds) (λ b z w. z) beside_lessen (has more) (has after.rules)
      done.more b z w
      (place_none (solves_beside t r n a seconds thirds) (λ b z w. z) beside_lessen (solves_pair t r n a s thirds) s
      (beside_pair s) (has rules) (has seen) (has more) none b z w e))
      (beside_settled waiting rules more after size long done)

-- The set without what breaks a rule beside the first place

module _
    (t : List RuleTable)
    (rules b c : ℕ)
    (done : ℕ → Bool)
    (before after : Remaining)
    (sifted : Sifted t rules done b c before after)
  where
    -- a place that breaks no marked rule is left
    pub sifted_left :
        (marked : ℕ → Bool)
        → Within (has after.rules) marked
        → (p : ℕ)
        → p < 2112
        → in_places before.places p ≡ true
        → ((q : ℕ) → q < 32 → marked q ≡ true → closes t q b c p ≡ false)
        → in_places after.places p ≡ true
    sifted_left marked within p l h free = go (in_places after.places p) refl
      where
        go : (s : Bool) → in_places after.places p ≡ s → s ≡ true
        go true e = refl
        go false e =
            absurd (unmarked (has after.rules) marked (λ q. closes t q b c p) within free (sifted.gone p l h e))

module _
    (t : List RuleTable)
    (r n rules f : ℕ)
    (before second next third : Remaining)
    (two : Sifted t rules (has rules) f 2048 before second)
    (three : Sifted t rules (has rules) f 2048 next third)
  where
    pub first_there :
        length before.places ≡ 33
        → length next.places ≡ 33
        → Within (has second.rules) (has third.rules)
        → (marked : ℕ → Bool)
        → Within (has third.rules) marked
        → (a y x : ℕ)
        → solves_first t r n f before.places next.places marked a y x ≡ true
        → solves_beside t r n f second.places third.places marked a y x ≡ true
    unfolding solves_first solves_beside
    first_there long_two long_three grown marked within a y x h =
        let p =
        passing (eqb a f) (in_places before.places y) (in_places next.places x) (refuses t r n a y x) marked
        (drop_in t a y x) h in
        let same : a ≡ f = eqb-true a f p.first in
        let parts : (q : ℕ) → q < 32 → marked q ≡ true → (closes t q a 2048 y ≡ false) × (closes t q a 2048 x ≡ false) =
        λ q l m.
        or_neither (closes t q a 2048 y) (closes t q a 2048 x)
        (or_neither (closes t q a 2048 y || closes t q a 2048 x) (closes t q a y x) (p.free q l m)).0 in
        passes (eqb a f) (in_places second.places y) (in_places third.places x) (refuses t r n a y x) marked
        (λ q. closes t q a y x)
        (record {
          first = p.first;
          second =
              sifted_left t rules f 2048 (has rules) before second two marked (λ q m. within q (grown q m)) y
              (place_below before.places y long_two p.second) p.second
              (λ q l m. rw (← same) (parts q l m).0);
          third =
              sifted_left t rules f 2048 (has rules) next third three marked within x
              (place_below next.places x long_three p.third) p.third
              (λ q l m. rw (← same) (parts q l m).1);
          refusal = p.refusal;
          free = λ q l m.
              (or_neither (closes t q a 2048 y || closes t q a 2048 x) (closes t q a y x) (p.free q l m)).1;
        })

    pub first_back :
        length second.places ≡ 33
        → length third.places ≡ 33
        → (a y x : ℕ)
        → solves_beside t r n f second.places third.places (has rules) a y x ≡ true
        → solves_first t r n f before.places next.places (has rules) a y x ≡ true
    unfolding solves_first solves_beside
    first_back long_two long_three a y x h =
        let p =
        passing (eqb a f) (in_places second.places y) (in_places third.places x) (refuses t r n a y x) (has rules)
        (λ q. closes t q a y x) h in
        let same : a ≡ f = eqb-true a f p.first in
        let ly = place_below second.places y long_two p.second in
        let lx = place_below third.places x long_three p.third in
        passes (eqb a f) (in_places before.places y) (in_places next.places x) (refuses t r n a y x) (has rules)
        (drop_in t a y x)
        (record {
          first = p.first;
          second = two.within y ly p.second;
          third = three.within x lx p.third;
          refusal = p.refusal;
          free = λ q l m.
              rw (p.free q l m, same, two.passed y q ly l p.second m, three.passed x q lx l p.third m);
        })

-- The first place

module _ (t : List RuleTable) (r n : ℕ) (firsts seconds thirds : List ℕ) where
  pub in_inside :
      (marked : ℕ → Bool) (a y x : ℕ)
      → solves_in t r n firsts seconds thirds marked a y x ≡ true
      → in_places firsts a ≡ true
  unfolding solves_in
  in_inside marked a y x h =
      (passing (in_places firsts a) (in_places seconds y) (in_places thirds x) (refuses t r n a y x) marked
      (drop_in t a y x) h).first

  pub in_lessen :
      (some marked : ℕ → Bool)
      → Within some marked
      → (a y x : ℕ)
      → solves_in t r n firsts seconds thirds marked a y x ≡ true
      → solves_in t r n firsts seconds thirds some a y x ≡ true
  in_lessen some marked within a y x = in_fewer t r n some marked (λ q l. within q) a y x firsts seconds thirds

  -- a solution for all first places is one for its own
  in_first :
      (marked : ℕ → Bool) (f a y x : ℕ)
      → a ≡ f
      → solves_in t r n firsts seconds thirds marked a y x ≡ true
      → solves_first t r n f seconds thirds marked a y x ≡ true
  unfolding solves_in solves_first
  in_first marked f a y x e h =
      let p =
      passing (in_places firsts a) (in_places seconds y) (in_places thirds x) (refuses t r n a y x) marked
      (drop_in t a y x) h in
      passes (eqb a f) (in_places seconds y) (in_places thirds x) (refuses t r n a y x) marked (drop_in t a y x)
      (record {
        first = eq-eqb a f e;
        second = p.second;
        third = p.third;
        refusal = p.refusal;
        free = p.free;
      })

  first_in_law :
      (marked : ℕ → Bool) (f a y x : ℕ)
      → in_places firsts f ≡ true
      → solves_first t r n f seconds thirds marked a y x ≡ true
      → (a ≡ f) × (solves_in t r n firsts seconds thirds marked a y x ≡ true)
  unfolding solves_in solves_first
  first_in_law marked f a y x inside h =
      let p =
      passing (eqb a f) (in_places seconds y) (in_places thirds x) (refuses t r n a y x) marked (drop_in t a y x) h in
      let same : a ≡ f = eqb-true a f p.first in (
        same,
        passes (in_places firsts a) (in_places seconds y) (in_places thirds x) (refuses t r n a y x) marked
            (drop_in t a y x)
            (record {
              first = ap (in_places firsts) same ∙ inside;
              second = p.second;
              third = p.third;
              refusal = p.refusal;
              free = p.free;
            }),
      )

  pub among_none :
      (f : ℕ) (rules before marked : ℕ → Bool)
      → Unsolved (solves_first t r n f seconds thirds) rules before marked
      → (a y x : ℕ)
      → a ≡ f
      → solves_in t r n firsts seconds thirds marked a y x ≡ false
  among_none f =
      place_none (solves_in t r n firsts seconds thirds) (λ b z w. b) in_lessen (solves_first t r n f seconds thirds) f
      (λ marked a y x e h. in_first marked f a y x e h)

  pub among_found :
      (rules start seen f a y x : ℕ)
      → Within (has start) (has rules)
      → f < 2112
      → Seeking (solves_in t r n firsts seconds thirds) (λ b z w. b) firsts rules start seen f
      → Solved (solves_first t r n f seconds thirds (has rules)) a y x
      → Solved (solves_in t r n firsts seconds thirds (has rules)) a y x
  among_found rules start seen f a y x begun l seeking found =
      let here = first_in_law (has rules) f a y x (seeking.member l) found.solution in
      let same : a ≡ f = here.0 in
      place_found (solves_in t r n firsts seconds thirds) (λ b z w. b) in_lessen (solves_first t r n f seconds thirds) f
      (λ marked a y x e h. in_first marked f a y x e h) firsts rules start seen a y x begun seeking here.1
      (λ b z w e h. before_cases b z w a y x e (λ low. omega arith) (λ e low. omega arith) (λ e f low. omega arith))
      found
