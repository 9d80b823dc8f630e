-- Laws of the search over users: sets of rules that leave a row open, the first user to whom a row is closed, and the
-- rows in their order. Assumes nothing.
use Prim.Native.Nat.{ℕ, ◌+◌, ◌*◌, ◌≤◌, ◌<◌}
use native.Mathlib.Omega.{arith}
use mathlib.Core.Path.{◌≡◌, refl, sym, ap, ◌∙◌}
use mathlib.Core.Bool.{Bool, true, false, ◌&&◌}
use mathlib.Core.List.{List}
use lib.ListN.{length, get_or, set}
use lib.Seq.{get_or-set_same, get_or-set_other, set_out}
use lib.Dec.{eqb, ltb}
use lib.Bits.{bit_and, bit_or}
use Rattle.std.specs.Prelude.{Option, Some, None, IfSome}
use Rattle.std.specs.Option.{option_or, unwrap_or}
use Rattle.std.specs.List.{list_all, list_any}
use borrow.Author.Tests.{eqb-true, eqb-false, lt-ltb, ltb-true, ltb-false}
use Rattle.book.specs.Sets.{has}
use Rattle.book.proofs.Lists.{and_false, and_left, and_right}
use Rattle.book.proofs.Members.{has_and, has_or, has_zero}
use Rattle.search.specs.Inner.Closing.{Within}
use Rattle.search.specs.Inner.Search.{covers_in}
use Rattle.search.proofs.Sieves.{both}
use Rattle.search.proofs.Solutions.{before_cases}
use Rattle.search.specs.declared.tables.RuleTable.{RuleTable}
use Rattle.blocked.specs.Inner.Cells.{in_cell}
use Rattle.blocked.specs.Inner.Pairs.{Prepared, Ready}
use Rattle.blocked.specs.Inner.Rows.{AllOpen, CellsOf, DeniedIn, DeniedUserIn, OpensOf, RowOpen, RowThere, ShutThird, lies_within}
use Rattle.blocked.specs.Inner.Rows.{own_of}
use Rattle.blocked.specs.Inner.Users.{DeniedFirst, FirstShut, OpenBefore, OpenUpTo, OwnRules, RowsUpTo, UserUpTo, covering_rules, limit_of}
use Rattle.blocked.specs.declared.tables.Scope.{Scope}
use Rattle.blocked.specs.declared.users.Denial.{Denial}
use Rattle.blocked.proofs.Selecting.{each_of, some_of}
use Rattle.blocked.proofs.TripleLaws.{none_opens, opens_fewer}

-- some of all rules
part : (all rules q : ℕ) → q < 32 → has (bit_and all rules) q ≡ true → has all q ≡ true
part all rules q l h = and_left (has all q) (has rules q) (sym (has_and all rules q) ∙ h)

-- what holds of the tables for all rules holds for some
pub fewer_prepared :
    (t : List RuleTable) (met : List (List ℕ)) (s : Scope) (some rules : ℕ → Bool)
    → ((q : ℕ) → q < 32 → some q ≡ true → rules q ≡ true)
    → Prepared t met rules s.seconds s.thirds
    → Prepared t met some s.seconds s.thirds
fewer_prepared t met s some rules within given =
    record {
      met_holds = given.met_holds;
      seconds_whole = λ q i p l h. given.seconds_whole q i p l (within q l h);
      thirds_whole = λ q i p l h. given.thirds_whole q i p l (within q l h);
      repeats = λ q i j p l h. given.repeats q i j p l (within q l h);
    }

pub part_prepared :
    (t : List RuleTable) (met : List (List ℕ)) (s : Scope) (all rules : ℕ)
    → Prepared t met (has all) s.seconds s.thirds
    → Prepared t met (has (bit_and all rules)) s.seconds s.thirds
part_prepared t met s all rules = fewer_prepared t met s (has (bit_and all rules)) (has all) (part all rules)

-- a word that lies within another
pub within_law : (rules wide : ℕ) → lies_within rules wide ≡ true → Within (has rules) (has wide)
within_law rules wide h q m =
    ap (λ (x : ℕ). has x q) (sym (eqb-true (bit_or rules wide) wide h)) ∙ rw (has_or, m)

-- Sets of rules that leave a row open

module _ (t : List RuleTable) (s : Scope) (l m : ℕ) where
  pub none_open : RowOpen t (has 0) s l m
  none_open w cells = none_opens t s (has 0) (λ q small. has_zero q) l m w cells

  -- a set that leaves the row open, or the empty one
  pub opened_or :
      (some : Option ℕ) → IfSome some (λ rules. RowOpen t (has rules) s l m) → RowOpen t (has (unwrap_or some 0)) s l m
  opened_or None h = none_open
  opened_or (Some rules) h = h

  -- rules that are all in a set, or in one of the sets
  pub within_open :
      (rules wide : ℕ) → Within (has rules) (has wide) → RowOpen t (has wide) s l m → RowOpen t (has rules) s l m
  within_open rules wide within free w cells =
      opens_fewer t s (has rules) (has wide) (λ q k h. within q h) l m w (free w cells)

  -- the rules of each user are in a set
  pub all_open :
      (all : ℕ) (own : List ℕ) (wide v : ℕ)
      → list_all (λ rules. lies_within (bit_and all rules) wide) own ≡ true
      → v < length own
      → RowOpen t (has wide) s l m
      → RowOpen t (own_of all own v) s l m
  all_open all own wide v h k =
      within_open (bit_and all (get_or own v 0)) wide
      (within_law (bit_and all (get_or own v 0)) wide (each_of (λ rules. lies_within (bit_and all rules) wide) own h v k))

  pub settled_open :
      (sets : List ℕ) (rules : ℕ)
      → length sets ≡ 33
      → list_any (lies_within rules) sets ≡ true
      → AllOpen t s l m sets
      → RowOpen t (has rules) s l m
  settled_open sets rules size h free =
      let found = some_of (lies_within rules) sets h in
      let wide = get_or sets found.0 0 in
      within_open rules wide (within_law rules wide found.2) (free found.0 (omega (arith, found.1)))

  -- one set changed, if it is there
  pub sets_set :
      (sets : List ℕ) (i word : ℕ)
      → AllOpen t s l m sets
      → RowOpen t (has word) s l m
      → AllOpen t s l m (set sets i word)
  sets_set sets i word old new j k = go (eqb j i) refl (ltb i (length sets)) refl
    where
      go :
          (b : Bool)
          → eqb j i ≡ b
          → (c : Bool)
          → ltb i (length sets) ≡ c
          → RowOpen t (has (get_or (set sets i word) j 0)) s l m
      go true e true f =
          rw (eqb-true j i e, get_or-set_same sets i word 0 (ltb-true i (length sets) f)) new
      go true e false f = rw (set_out sets i word (ltb-false i (length sets) f)) (old j k)
      go false e c f = rw (get_or-set_other sets i j word 0 (eqb-false j i e)) (old j k)

  pub sets_none : (sets : List ℕ) → ((i : ℕ) → i < 33 → get_or sets i 0 ≡ 0) → AllOpen t s l m sets
  sets_none sets zeros i k = rw (zeros i k) none_open

-- Rows in their order

module _ (t : List RuleTable) (s : Scope) where
  pub up_to_none : (rules : ℕ → Bool) → OpenUpTo t rules s 0
  up_to_none rules b z w h cells =
      let low = ltb-true (132 * b + z) 0 h in
      absurd (omega arith)

  -- one row more
  pub up_to_more :
      (rules : ℕ → Bool) (l m : ℕ)
      → m < 132
      → OpenUpTo t rules s (132 * l + m)
      → RowOpen t rules s l m
      → OpenUpTo t rules s (132 * l + (m + 1))
  up_to_more rules l m small old new b z w h cells = go (eqb (132 * b + z) (132 * l + m)) refl
    where
      go : (c : Bool) → eqb (132 * b + z) (132 * l + m) ≡ c → OpensOf t rules s b z w
      go true e =
          let same = eqb-true (132 * b + z) (132 * l + m) e in
          let low : z < 132 = cells.below.1 in
          let eb : b ≡ l = omega arith in
          let ez : z ≡ m = omega arith in
          rw (eb, ez) (new w (rw (eb, ez) at cells))
      go false e =
          let other = eqb-false (132 * b + z) (132 * l + m) e in
          let low = ltb-true (132 * b + z) (132 * l + (m + 1)) h in
          old b z w (lt-ltb (132 * b + z) (132 * l + m) (omega arith)) cells

  -- the first third cell that a row closes, where the rows before it are open
  pub shut_first :
      (rules : ℕ → Bool) (l m n : ℕ)
      → m < 132
      → n < 132
      → OpenUpTo t rules s (132 * l + m)
      → ShutThird t rules s l m n
      → FirstShut t rules s l m n
  shut_first rules l m n lm ln old third =
      record {
        shut = third.shut;
        open_before = λ b z w h cells.
            let low : z < 132 = cells.below.1 in
            before_cases b z w l m n h
            (λ k. old b z w (lt-ltb (132 * b + z) (132 * l + m) (omega arith)) cells)
            (λ e k. old b z w (lt-ltb (132 * b + z) (132 * l + m) (omega arith)) cells)
            (λ e f k. rw (e, f) (third.open_before w k (rw (e, f) at cells)));
      }

-- One row more, for the users before the one found so far

module _ (t : List RuleTable) (all : ℕ) (s : Scope) (own : List ℕ) where
  pub rows_none : RowsUpTo t all s own 0 None
  rows_none v l = up_to_none t s (own_of all own v)

  pub limit_small : (h : ℕ) (before : Option Denial) → RowsUpTo t all s own h before → limit_of before ≤ 32
  limit_small h None old = omega arith
  limit_small h (Some d) old = omega (arith, old.below)

  -- rows that are open to all
  wider :
      (h k : ℕ) (before : Option Denial)
      → ((rules : ℕ → Bool) → OpenUpTo t rules s h → OpenUpTo t rules s k)
      → RowsUpTo t all s own h before
      → RowsUpTo t all s own k before
  wider h k None more old = λ v l. more (own_of all own v) (old v l)
  wider h k (Some d) more old =
      record {
        below = old.below;
        open_before = λ v l. more (own_of all own v) (old.open_before v l);
        first_shut = old.first_shut;
      }

  -- no row has first cell l
  pub rows_skip :
      (l : ℕ) (before : Option Denial)
      → in_cell s.firsts l ≡ false
      → RowsUpTo t all s own (132 * l) before
      → RowsUpTo t all s own (132 * (l + 1)) before
  rows_skip l before none =
      wider (132 * l) (132 * (l + 1)) before (λ rules old b z w h cells. go rules old b z w h cells (eqb b l) refl)
    where
      go :
          (rules : ℕ → Bool)
          → OpenUpTo t rules s (132 * l)
          → (b z w : ℕ)
          → ltb (132 * b + z) (132 * (l + 1)) ≡ true
          → CellsOf s b z w
          → (c : Bool)
          → eqb b l ≡ c
          → OpensOf t rules s b z w
      go rules old b z w h cells true e = both cells.first (rw (eqb-true b l e) none)
      go rules old b z w h cells false e =
          let other = eqb-false b l e in
          let low = ltb-true (132 * b + z) (132 * (l + 1)) h in
          let small : z < 132 = cells.below.1 in
          old b z w (lt-ltb (132 * b + z) (132 * l) (omega arith)) cells

  module _ (l m : ℕ) (lm : m < 132) where
    -- a row that has no places
    pub rows_absent :
        (before : Option Denial)
        → (RowThere s l m → ⊥)
        → l < 132
        → RowsUpTo t all s own (132 * l + m) before
        → RowsUpTo t all s own (132 * l + (m + 1)) before
    rows_absent before none ll =
        wider (132 * l + m) (132 * l + (m + 1)) before
        (λ rules old.
        up_to_more t s rules l m lm old
        (λ w cells. absurd (none (record { below = (ll, lm); first = cells.first; second = cells.second }))))

    user_found :
        (limit : ℕ) (d : Denial)
        → d.user < 32
        → DeniedUserIn t all s own l m limit d
        → ((v : ℕ) → v < d.user + 1 → OpenUpTo t (own_of all own v) s (132 * l + m))
        → UserUpTo t all s own (132 * l + (m + 1)) d
    user_found limit d below row old =
        record {
          below = below;
          open_before = λ v k.
              up_to_more t s (own_of all own v) l m lm (old v (omega arith)) (row.open_before v k);
          first_shut =
              let shut = row.shut in
              let small : d.third < 132 = shut.shut.cells.below.2 in
              rw (row.first, row.second)
              (shut_first t s (own_of all own d.user) l m d.third lm small (old d.user (omega arith)) shut);
        }

    -- it is closed to the first of these users, or to none
    pub rows_more :
        (before found : Option Denial)
        → RowsUpTo t all s own (132 * l + m) before
        → DeniedIn t all s own l m (limit_of before) found
        → RowsUpTo t all s own (132 * l + (m + 1)) (option_or found before)
    rows_more None None old row = λ v k. up_to_more t s (own_of all own v) l m lm (old v k) (row v k)
    rows_more (Some d) None old row =
        record {
          below = old.below;
          open_before = λ v k. up_to_more t s (own_of all own v) l m lm (old.open_before v k) (row v k);
          first_shut = old.first_shut;
        }
    rows_more None (Some d) old row =
        user_found 32 d row.below row (λ v k. old v (omega (arith, row.below)))
    rows_more (Some e) (Some d) old row =
        user_found e.user d (omega (arith, row.below, old.below)) row (λ v k. old.open_before v (omega (arith, row.below)))

-- From the users' rules to the rules that cover them

module _ (t : List RuleTable) (met : List (List ℕ)) (r all : ℕ) (s : Scope) (covered own : List ℕ)
    (ready : Ready t met all s.seconds s.thirds covered) (told : OwnRules r covered own) where
  module _ (u : ℕ) (small : u < 32) where
    there : covers_in covered r u ≡ true → (q : ℕ) → q < 32 → covering_rules covered u q ≡ true → own_of all own u q ≡ true
    there covers q l h =
        has_and all (get_or own u 0) q
        ∙ rw (ready.among u q small l h, told u q small, covers, lt-ltb q 32 l, h)

    back : (q : ℕ) → q < 32 → own_of all own u q ≡ true → covering_rules covered u q ≡ true
    back q l h =
        and_right (ltb q 32) (covering_rules covered u q)
        (and_right (covers_in covered r u) (ltb q 32 && covering_rules covered u q)
        (sym (told u q small)
        ∙ and_right (has all q) (has (get_or own u 0) q) (sym (has_and all (get_or own u 0) q) ∙ h)))

    -- a user whom r does not cover has no rules here
    uncovered : covers_in covered r u ≡ false → (q : ℕ) → q < 32 → own_of all own u q ≡ false
    uncovered e q l = has_and all (get_or own u 0) q ∙ rw (told u q small, e) (and_false (has all q))

  -- nobody, or the first user
  module _ (h : ℕ) (past : 17424 ≤ h) where
    open_users :
        (limit : ℕ)
        → limit ≤ 32
        → ((v : ℕ) → v < limit → OpenUpTo t (own_of all own v) s h)
        → OpenBefore t r s.firsts s.seconds s.thirds covered limit
    open_users limit most free v k covers b z w cells =
        let lb : b < 132 = cells.below.0 in
        let lz : z < 132 = cells.below.1 in
        opens_fewer t s (covering_rules covered v) (own_of all own v) (there v (omega arith) covers) b z w
        (free v k b z w (lt-ltb (132 * b + z) h (omega arith)) cells)

    pub denied_first :
        (found : Option Denial)
        → RowsUpTo t all s own h found
        → DeniedFirst t r s.firsts s.seconds s.thirds covered found
    unfolding DeniedFirst
    denied_first None rows = open_users 32 (omega arith) rows
    denied_first (Some d) rows =
        let found = rows.first_shut in
        record {
          below = rows.below;
          covers = go (covers_in covered r d.user) refl;
          shut =
              record {
                cells = found.shut.cells;
                closed = λ o.
                    found.shut.closed
                    (opens_fewer t s (own_of all own d.user) (covering_rules covered d.user) (back d.user rows.below)
                    d.first d.second d.third o);
              };
          earliest = λ b z w e cells.
              opens_fewer t s (covering_rules covered d.user) (own_of all own d.user)
              (there d.user rows.below (go (covers_in covered r d.user) refl)) b z w (found.open_before b z w e cells);
          users = open_users d.user (omega (arith, rows.below)) rows.open_before;
        }
      where
        go : (c : Bool) → covers_in covered r d.user ≡ c → c ≡ true
        go true e = refl
        go false e =
            absurd
            (rows.first_shut.shut.closed
            (none_opens t s (own_of all own d.user) (uncovered d.user rows.below e) d.first d.second d.third
            rows.first_shut.shut.cells))
