-- Laws of the search: what three places must pass, one search through another, and a loop over the places of a set.
-- Assumes nothing.
use Prim.Native.Nat.{ℕ, ◌+◌, ◌%◌, ◌≤◌, ◌<◌}
use native.Mathlib.Nat.{eq-or-lt_of_le}
use native.Mathlib.Omega.{arith}
use mathlib.Core.Path.{◌≡◌, refl, ap, ◌∙◌}
use mathlib.Core.Logic.{⊎_elim}
use mathlib.Core.Bool.{Bool, true, false, ◌&&◌, ◌||◌, not}
use mathlib.Core.List.{List}
use lib.ListN.{length, get_or-eq_default}
use lib.Dec.{eqb, ltb}
use borrow.Author.Tests.{not-true, eqb-true, eqb-false, eq-eqb, ltb-true, ltb-false, lt-ltb}
use Rattle.book.specs.Lists.{any, up_to}
use Rattle.book.specs.Sets.{has}
use Rattle.book.proofs.Lists.{and_true, and_left, and_right, or_true, at_none, none_at}
use Rattle.book.proofs.Members.{has_zero}
use Rattle.verdicts.proofs.Quantifiers.{any_at}
use Rattle.search.specs.Inner.Places.{FirstFrom, in_places}
use Rattle.search.specs.Inner.Closing.{closes, Within, Grown}
use Rattle.search.specs.Inner.Search.{candidate, refuses, drops, solves, solves_in, solves_beside}
use Rattle.search.specs.Inner.Search.{triple_before, Solved, Unsolved, Searched}
use Rattle.std.specs.Prelude.{Option, Some, None}
use Rattle.search.specs.declared.places.Places.{Places}
use Rattle.search.proofs.Sieves.{both}
use Rattle.search.specs.declared.tables.RuleTable.{RuleTable}

-- Tests

-- a test that can't pass
pub fails : (b : Bool) → (b ≡ true → ⊥) → b ≡ false
fails true h = absurd (h refl)
fails false h = refl

-- a set of 33 words has no place past them
pub place_below : (places : List ℕ) (p : ℕ) → length places ≡ 33 → in_places places p ≡ true → p < 2112
unfolding in_places
place_below places p size h = go (ltb p 2112) refl
  where
    go : (b : Bool) → ltb p 2112 ≡ b → p < 2112
    go true e = ltb-true p 2112 e
    go false e =
        let l = ltb-false p 2112 e in
        both h
        (ap (λ (w : ℕ). has w (p % 64)) (get_or-eq_default places 0 (omega arith)) ∙ has_zero (p % 64))

-- no rule of a set drops, so none of a smaller set does
pub unmarked :
    (some marked drop : ℕ → Bool)
    → Within some marked
    → ((q : ℕ) → q < 32 → marked q ≡ true → drop q ≡ false)
    → any (λ q. some q && drop q) (up_to 32) ≡ true
    → ⊥
unmarked some marked drop within free found =
    let w = any_at (λ q. some q && drop q) 32 found in
    let q = w.0 in
    both (and_right (some q) (drop q) w.1) (free q w.2 (within q (and_left (some q) (drop q) w.1)))

-- Three places

-- three tests pass, r is refused, and no rule of a set drops
abbrev pub test : Bool → Bool → Bool → Bool → (ℕ → Bool) → (ℕ → Bool) → Bool
test i j k refused rules drop =
    (i && (j && k)) && (refused && not (any (λ q. rules q && drop q) (up_to 32)))

pub record Passing (i j k refused : Bool) (rules drop : ℕ → Bool) : Type 0 where
  pub first : i ≡ true
  pub second : j ≡ true
  pub third : k ≡ true
  pub refusal : refused ≡ true
  pub free : (q : ℕ) → q < 32 → rules q ≡ true → drop q ≡ false

module _ (i j k refused : Bool) (rules drop : ℕ → Bool) where
  pub passing : test i j k refused rules drop ≡ true → Passing i j k refused rules drop
  passing h =
      let none = any (λ q. rules q && drop q) (up_to 32) in
      let places = and_left (i && (j && k)) (refused && not none) h in
      let rest = and_right (i && (j && k)) (refused && not none) h in
      let last = and_right i (j && k) places in
      record {
        first = and_left i (j && k) places;
        second = and_left j k last;
        third = and_right j k last;
        refusal = and_left refused (not none) rest;
        free = λ q l m.
            fails (drop q)
            (λ d.
            both (and_true (rules q) (drop q) m d)
            (none_at (λ p. rules p && drop p) 32 (not-true none (and_right refused (not none) rest)) q l));
      }

  pub passes : Passing i j k refused rules drop → test i j k refused rules drop ≡ true
  passes h =
      rw (
        h.first,
        h.second,
        h.third,
        h.refusal,
        at_none (λ q. rules q && drop q) 32
            (λ q l. fails (rules q && drop q) (λ d. both (and_right (rules q) (drop q) d)
            (h.free q l (and_left (rules q) (drop q) d)))),
      )

-- fewer rules drop less
pub fewer :
    (i j k refused : Bool) (some rules drop : ℕ → Bool)
    → ((q : ℕ) → q < 32 → some q ≡ true → rules q ≡ true)
    → test i j k refused rules drop ≡ true
    → test i j k refused some drop ≡ true
fewer i j k refused some rules drop within h =
    let p = passing i j k refused rules drop h in
    passes i j k refused some drop
    (record {
      first = p.first;
      second = p.second;
      third = p.third;
      refusal = p.refusal;
      free = λ q l m. p.free q l (within q l m);
    })

-- what drops at the same places
abbrev pub drop_in : List RuleTable → ℕ → ℕ → ℕ → ℕ → Bool
drop_in t a y x q = (closes t q a 2048 y || closes t q a 2048 x) || closes t q a y x

module _
    (t : List RuleTable)
    (r n : ℕ)
    (some rules : ℕ → Bool)
    (within : (q : ℕ) → q < 32 → some q ≡ true → rules q ≡ true)
    (a y x : ℕ)
  where
    pub solves_fewer :
        (had : List ℕ) → solves t r n had rules a y x ≡ true → solves t r n had some a y x ≡ true
    unfolding solves
    solves_fewer had =
        fewer (candidate t r n had 0 a) (candidate t r n had 1 y) (candidate t r n had 2 x) (refuses t r n a y x) some
        rules
        (λ q. drops t q a y x) within

    pub in_fewer :
        (firsts seconds thirds : List ℕ)
        → solves_in t r n firsts seconds thirds rules a y x ≡ true
        → solves_in t r n firsts seconds thirds some a y x ≡ true
    unfolding solves_in
    in_fewer firsts seconds thirds =
        fewer (in_places firsts a) (in_places seconds y) (in_places thirds x) (refuses t r n a y x) some rules
        (drop_in t a y x) within

    pub beside_fewer :
        (f : ℕ) (seconds thirds : List ℕ)
        → solves_beside t r n f seconds thirds rules a y x ≡ true
        → solves_beside t r n f seconds thirds some a y x ≡ true
    unfolding solves_beside
    beside_fewer f seconds thirds =
        fewer (eqb a f) (in_places seconds y) (in_places thirds x) (refuses t r n a y x) some rules
        (λ q. closes t q a y x)
        within

-- One search through another

-- marks only grow, within the rules given
pub grown_join :
    (rules before rest after : ℕ → Bool) → Grown rules before rest → Grown rules rest after → Grown rules before after
grown_join rules before rest after old new q h n = go (rest q) refl
  where
    go : (b : Bool) → rest q ≡ b → rules q ≡ true
    go true e = old q e n
    go false e = new q h e

pub grown_within :
    (rules before after : ℕ → Bool) → Within before rules → Grown rules before after → Within after rules
grown_within rules before after start more q h = go (before q) refl
  where
    go : (b : Bool) → before q ≡ b → rules q ≡ true
    go true e = start q e
    go false e = more q h e

-- a search in smaller sets, out of which some marked rules took places
pub searched_through :
    (inner outer : (ℕ → Bool) → ℕ → ℕ → ℕ → Bool) (rules before rest : ℕ)
    → ((marked : ℕ → Bool)
    → Within (has rest) marked
    → (a y x : ℕ)
    → outer marked a y x ≡ true
    → inner marked a y x ≡ true)
    → ((a y x : ℕ) → inner (has rules) a y x ≡ true → outer (has rules) a y x ≡ true)
    → Within (has before) (has rest)
    → Grown (has rules) (has before) (has rest)
    → Within (has rest) (has rules)
    → (marked : ℕ)
    → (found : Option Places)
    → Searched inner rules rest marked found
    → Searched outer rules before marked found
unfolding Searched
searched_through inner outer rules before rest there back more only inside marked (Some found) h =
    record {
      solution = back found.first found.second found.third h.solution;
      earliest = λ b z w e.
          fails (outer (has rules) b z w) (λ o. both (there (has rules) inside b z w o) (h.earliest b z w e));
    }
searched_through inner outer rules before rest there back more only inside marked None h =
    record {
      more = λ q e. h.more q (more q e);
      only = grown_join (has rules) (has before) (has rest) (has marked) only h.only;
      none = λ a y x. fails (outer (has marked) a y x)
          (λ o. both (there (has marked) h.more a y x o) (h.none a y x));
    }

-- what an answer says
module _ (of : (ℕ → Bool) → ℕ → ℕ → ℕ → Bool) (rules before marked : ℕ) (s : Option Places) where
  pub found_solved :
      (found : Places)
      → s ≡ Some found
      → Searched of rules before marked s
      → Solved (of (has rules)) found.first found.second found.third
  unfolding Searched
  found_solved found e h = rw e at h

  pub nothing_unsolved :
      s ≡ None → Searched of rules before marked s → Unsolved of (has rules) (has before) (has marked)
  unfolding Searched
  nothing_unsolved e h = rw e at h

-- A loop over the places of a set

-- no three places pass whose place in the set is before i, or no longer in it
pub record Seeking
    (of : (ℕ → Bool) → ℕ → ℕ → ℕ → Bool)
    (key : ℕ → ℕ → ℕ → ℕ)
    (places : List ℕ)
    (rules before seen i : ℕ)
    : Type 0 where
  pub bound : i ≤ 2112
  pub member : i < 2112 → in_places places i ≡ true
  pub more : Within (has before) (has seen)
  pub only : Grown (has rules) (has before) (has seen)
  pub none : (a y x : ℕ) → key a y x < i → of (has seen) a y x ≡ false
  pub outside : (a y x : ℕ) → in_places places (key a y x) ≡ false → of (has seen) a y x ≡ false

module _ (of : (ℕ → Bool) → ℕ → ℕ → ℕ → Bool) (key : ℕ → ℕ → ℕ → ℕ) where
  pub seeking_start :
      (places : List ℕ) (rules before i : ℕ)
      → ((a y x : ℕ) → of (has before) a y x ≡ true → in_places places (key a y x) ≡ true)
      → FirstFrom places 0 i
      → Seeking of key places rules before before i
  seeking_start places rules before i inside found =
      record {
        bound = found.high;
        member = found.member;
        more = λ q h. h;
        only = λ q h n. both h n;
        none = λ a y x l. out a y x (found.skipped (key a y x) (omega arith) l);
        outside = out;
      }
    where
      out : (a y x : ℕ) → in_places places (key a y x) ≡ false → of (has before) a y x ≡ false
      out a y x n = fails (of (has before) a y x) (λ o. both (inside a y x o) n)

  pub seeking_end :
      (places : List ℕ) (rules before seen i : ℕ)
      → length places ≡ 33
      → 2112 ≤ i
      → Seeking of key places rules before seen i
      → Unsolved of (has rules) (has before) (has seen)
  seeking_end places rules before seen i size past old =
      record {
        more = old.more;
        only = old.only;
        none = λ a y x. go a y x (in_places places (key a y x)) refl;
      }
    where
      go : (a y x : ℕ) → (b : Bool) → in_places places (key a y x) ≡ b → of (has seen) a y x ≡ false
      go a y x true e =
          let low = place_below places (key a y x) size e in
          old.none a y x (omega arith)
      go a y x false e = old.outside a y x e

  module _
      (lessen :
      (some marked : ℕ → Bool) → Within some marked → (a y x : ℕ) → of marked a y x ≡ true → of some a y x ≡ true)
    where
      -- with more rules marked
      pub still : (some marked : ℕ → Bool) → Within some marked → (a y x : ℕ) → of some a y x ≡ false
          → of marked a y x ≡ false
      still some marked within a y x n = fails (of marked a y x) (λ o. both (lessen some marked within a y x o) n)

      -- a turn that also makes the set smaller
      pub seeking_fewer :
          (places fewer : List ℕ) (rules before seen next i k : ℕ)
          → FirstFrom fewer (i + 1) k
          → Within (has seen) (has next)
          → Grown (has rules) (has seen) (has next)
          → ((a y x : ℕ) → key a y x ≡ i → of (has next) a y x ≡ false)
          → ((a y x : ℕ)
          → in_places places (key a y x) ≡ true
          → in_places fewer (key a y x) ≡ false
          → of (has next) a y x ≡ false)
          → Seeking of key places rules before seen i
          → Seeking of key fewer rules before next k
      seeking_fewer places fewer rules before seen next i k found more only here gone old =
          record {
            bound = found.high;
            member = found.member;
            more = λ q h. more q (old.more q h);
            only = grown_join (has rules) (has before) (has seen) (has next) old.only only;
            none = λ a y x l. go a y x l (ltb (key a y x) i) refl (eqb (key a y x) i) refl;
            outside = λ a y x n. out a y x n (in_places places (key a y x)) refl;
          }
        where
          out :
              (a y x : ℕ)
              → in_places fewer (key a y x) ≡ false
              → (b : Bool)
              → in_places places (key a y x) ≡ b
              → of (has next) a y x ≡ false
          out a y x n true e = gone a y x e n
          out a y x n false e = still (has seen) (has next) more a y x (old.outside a y x e)

          go :
              (a y x : ℕ)
              → key a y x < k
              → (b : Bool)
              → ltb (key a y x) i ≡ b
              → (c : Bool)
              → eqb (key a y x) i ≡ c
              → of (has next) a y x ≡ false
          go a y x l true e c f =
              still (has seen) (has next) more a y x (old.none a y x (ltb-true (key a y x) i e))
          go a y x l false e true f = here a y x (eqb-true (key a y x) i f)
          go a y x l false e false f =
              let low = ltb-false (key a y x) i e in
              let other = eqb-false (key a y x) i f in
              out a y x (found.skipped (key a y x) (omega arith) l) (in_places places (key a y x)) refl

      pub seeking_more :
          (places : List ℕ) (rules before seen next i k : ℕ)
          → FirstFrom places (i + 1) k
          → Within (has seen) (has next)
          → Grown (has rules) (has seen) (has next)
          → ((a y x : ℕ) → key a y x ≡ i → of (has next) a y x ≡ false)
          → Seeking of key places rules before seen i
          → Seeking of key places rules before next k
      seeking_more places rules before seen next i k found more only here =
          seeking_fewer places places rules before seen next i k found more only here (λ a y x h n. both h n)

      -- before i none passes all rules either
      pub seeking_before :
          (places : List ℕ) (rules before seen i : ℕ)
          → Within (has before) (has rules)
          → Seeking of key places rules before seen i
          → (a y x : ℕ)
          → key a y x < i
          → of (has rules) a y x ≡ false
      seeking_before places rules before seen i start old a y x l =
          still (has seen) (has rules) (grown_within (has rules) (has before) (has seen) start old.only) a y x
          (old.none a y x l)

      -- the search at place i alone
      module _
          (inner : (ℕ → Bool) → ℕ → ℕ → ℕ → Bool)
          (i : ℕ)
          (there : (marked : ℕ → Bool) (a y x : ℕ) → key a y x ≡ i → of marked a y x ≡ true → inner marked a y x ≡ true)
        where
          pub place_none :
              (rules before marked : ℕ → Bool)
              → Unsolved inner rules before marked
              → (a y x : ℕ)
              → key a y x ≡ i
              → of marked a y x ≡ false
          place_none rules before marked none a y x e =
              fails (of marked a y x) (λ h. both (there marked a y x e h) (none.none a y x))

          pub place_found :
              (places : List ℕ) (rules start seen a y x : ℕ)
              → Within (has start) (has rules)
              → Seeking of key places rules start seen i
              → of (has rules) a y x ≡ true
              → ((b z w : ℕ) → triple_before b z w a y x ≡ true → of (has rules) b z w ≡ true → key b z w ≤ i)
              → Solved (inner (has rules)) a y x
              → Solved (of (has rules)) a y x
          place_found places rules start seen a y x begun seeking here order found =
              record {
                solution = here;
                earliest = λ b z w e.
                    fails (of (has rules) b z w)
                    (λ o.
                    ⊎_elim (λ (same : key b z w ≡ i). both (there (has rules) b z w same o) (found.earliest b z w e))
                    (λ (low : key b z w < i).
                    both o (seeking_before places rules start seen i begun seeking b z w low))
                    (eq-or-lt_of_le (order b z w e o)));
              }

-- The order

pub before_cases :
    {A : Type 0} (b z w a y x : ℕ)
    → triple_before b z w a y x ≡ true
    → (b < a → A)
    → (b ≡ a → z < y → A)
    → (b ≡ a → z ≡ y → w < x → A)
    → A
unfolding triple_before
before_cases {A} b z w a y x h low middle high = go (ltb b a) refl h
  where
    inner : b ≡ a → (s : Bool) → ltb z y ≡ s → (s || (eqb z y && ltb w x)) ≡ true → A
    inner e true l m = middle e (ltb-true z y l)
    inner e false l m =
        high e (eqb-true z y (and_left (eqb z y) (ltb w x) m)) (ltb-true w x (and_right (eqb z y) (ltb w x) m))

    go : (s : Bool) → ltb b a ≡ s → (s || (eqb b a && (ltb z y || (eqb z y && ltb w x)))) ≡ true → A
    go true l m = low (ltb-true b a l)
    go false l m =
        inner (eqb-true b a (and_left (eqb b a) (ltb z y || (eqb z y && ltb w x)) m)) (ltb z y) refl
        (and_right (eqb b a) (ltb z y || (eqb z y && ltb w x)) m)

-- three places come before three others by the first that differs
module _ (b z w a y x : ℕ) where
  triple_low : b < a → triple_before b z w a y x ≡ true
  unfolding triple_before
  triple_low l = rw (lt-ltb b a l)

  triple_middle : b ≡ a → z < y → triple_before b z w a y x ≡ true
  unfolding triple_before
  triple_middle e l = rw (eq-eqb b a e, lt-ltb z y l) (or_true (ltb b a))

  triple_high : b ≡ a → z ≡ y → w < x → triple_before b z w a y x ≡ true
  unfolding triple_before
  triple_high e f l =
      rw (eq-eqb b a e, eq-eqb z y f, lt-ltb w x l, or_true (ltb z y)) (or_true (ltb b a))

pub triple_after :
    (b z w a y x c v u : ℕ)
    → triple_before b z w a y x ≡ true
    → triple_before a y x c v u ≡ true
    → triple_before b z w c v u ≡ true
triple_after b z w a y x c v u h k =
    before_cases b z w a y x h
    (λ l.
    before_cases a y x c v u k (λ m. triple_low b z w c v u (omega arith)) (λ e m. triple_low b z w c v u (omega arith))
    (λ e f m. triple_low b z w c v u (omega arith)))
    (λ e l.
    before_cases a y x c v u k (λ m. triple_low b z w c v u (omega arith))
    (λ f m. triple_middle b z w c v u (omega arith) (omega arith))
    (λ f g m. triple_middle b z w c v u (omega arith) (omega arith)))
    (λ e f l.
    before_cases a y x c v u k (λ m. triple_low b z w c v u (omega arith))
    (λ g m. triple_middle b z w c v u (omega arith) (omega arith))
    (λ g i m. triple_high b z w c v u (omega arith) (omega arith) (omega arith)))

-- what comes before three places comes before three others that do not come before them
pub triple_until :
    (b z w a y x c v u : ℕ)
    → triple_before b z w a y x ≡ true
    → triple_before c v u a y x ≡ false
    → triple_before b z w c v u ≡ true
triple_until b z w a y x c v u h n =
    either b c (triple_low b z w c v u)
    (λ e.
    either z v (triple_middle b z w c v u e)
    (λ f.
    either w u (triple_high b z w c v u e f)
    (λ g. both (rw (e, f, g) at h) n)
    (λ l. both (triple_after c v u b z w a y x (triple_high c v u b z w (omega arith) (omega arith) l) h) n))
    (λ l. both (triple_after c v u b z w a y x (triple_middle c v u b z w (omega arith) l) h) n))
    (λ l. both (triple_after c v u b z w a y x (triple_low c v u b z w l) h) n)
  where
    either : {A : Type 0} (i j : ℕ) → (i < j → A) → (i ≡ j → A) → (j < i → A) → A
    either {A} i j low same high = go (ltb i j) refl (eqb i j) refl
      where
        go : (s : Bool) → ltb i j ≡ s → (r : Bool) → eqb i j ≡ r → A
        go true e r f = low (ltb-true i j e)
        go false e true f = same (eqb-true i j f)
        go false e false f =
            let l = ltb-false i j e in
            let n = eqb-false i j f in
            high (omega arith)
