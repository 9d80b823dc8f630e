-- Laws of dropping rules among three cells: one third cell alone, and one rule tried. Assumes nothing.
use Prim.Native.Nat.{ℕ, suc, ◌-◌, ◌/◌, ◌^◌, ◌<◌}
use native.Mathlib.Omega.{arith}
use mathlib.Core.Path.{◌≡◌, refl, sym, ap, subst, fun_ext, ◌∙◌}
use mathlib.Core.Bool.{Bool, true, false, ◌&&◌, ◌||◌, not, false≢true}
use mathlib.Core.List.{List}
use lib.Bits.{bit_and}
use lib.Dec.{eqb, ltb}
use Rattle.std.specs.Prelude.{Option, Some, None}
use borrow.Author.Tests.{eq-eqb, eqb-false, eqb-true, ltb-false, ne_eqb, not-true}
use Rattle.book.specs.Sets.{WordOf, has}
use Rattle.book.proofs.Lists.{and_end, and_false, and_first, and_left, and_right, and_true, and_where}
use Rattle.book.proofs.Lists.{or_neither}
use Rattle.book.proofs.Members.{has_above}
use Rattle.search.specs.Inner.Places.{PlacesOf, in_places}
use Rattle.search.proofs.Sieves.{without_single}
use Rattle.search.specs.declared.tables.RuleTable.{RuleTable}
use Rattle.blocked.specs.Few.{after_trials, with_asking, without}
use Rattle.blocked.specs.Inner.Cells.{in_cell}
use Rattle.blocked.specs.Inner.Rows.{Given, OpensOf, RowThere, ThirdOf}
use Rattle.blocked.specs.Inner.Tables.{with_thirds}
use Rattle.blocked.specs.Inner.Few.{CellsGiven, Dropped, Keeps, OneGiven, ShutOf, Told}
use Rattle.blocked.specs.declared.tables.Scope.{Scope}
use Rattle.blocked.proofs.CellLaws.{cell_member, cell_place}
use Rattle.blocked.proofs.RowLaws.{prepared_places}
use Rattle.blocked.proofs.TrialLaws.{and_exchange, trial_absent, trial_gone, trial_kept}
use Rattle.blocked.proofs.UserLaws.{fewer_prepared}

-- One third cell alone

module _ (t : List RuleTable) (met : List (List ℕ)) (s : Scope) (thirds : List ℕ) (l m n counts : ℕ)
    (alone : PlacesOf (λ p. in_places s.thirds p && eqb (p / 16) n) thirds)
    (given : CellsGiven t met counts s l m n) where
  abbrev cut : Scope
  cut = with_thirds s thirds

  small : n < 132
  small = given.cells.below.2

  cut_in : (p : ℕ) → p < 2112 → in_places thirds p ≡ true → (in_places s.thirds p ≡ true) × (p / 16 ≡ n)
  cut_in p low h =
      let both = sym (alone p low) ∙ h in (
        and_left (in_places s.thirds p) (eqb (p / 16) n) both,
        eqb-true (p / 16) n (and_right (in_places s.thirds p) (eqb (p / 16) n) both),
      )

  in_cut : (p : ℕ) → p / 16 ≡ n → in_places s.thirds p ≡ true → in_places thirds p ≡ true
  in_cut p e h =
      let below : n < 132 = small in
      alone p (omega arith) ∙ and_true (in_places s.thirds p) (eqb (p / 16) n) h (eq-eqb (p / 16) n e)

  cut_cell : in_cell thirds n ≡ true
  cut_cell =
      let p = cell_place s.thirds n given.cells.third in
      subst (λ (c : ℕ). in_cell thirds c ≡ true) p.1 (cell_member thirds p.0 (in_cut p.0 p.1 p.2))

  opens_cut : (rules : ℕ → Bool) → OpensOf t rules s l m n → OpensOf t rules cut l m n
  opens_cut rules o =
      record {
        first = o.first;
        second = o.second;
        third = o.third;
        in_first = o.in_first;
        in_second = o.in_second;
        in_third = (o.in_third.0, in_cut o.third o.in_third.0 o.in_third.1);
        spared = o.spared;
      }

  cut_opens : (rules : ℕ → Bool) → OpensOf t rules cut l m n → OpensOf t rules s l m n
  cut_opens rules o =
      let below : n < 132 = small in
      let e : o.third / 16 ≡ n = o.in_third.0 in
      record {
        first = o.first;
        second = o.second;
        third = o.third;
        in_first = o.in_first;
        in_second = o.in_second;
        in_third = (o.in_third.0, (cut_in o.third (omega arith) o.in_third.1).0);
        spared = o.spared;
      }

  pub one_given : OneGiven t met counts cut l m n
  one_given =
      record {
        cells_given =
            record {
              prepared =
                  prepared_places t met (has counts) s.seconds s.thirds thirds (λ p low h. (cut_in p low h).0)
                  given.prepared;
              cells =
                  record {
                    below = given.cells.below;
                    first = given.cells.first;
                    second = given.cells.second;
                    third = cut_cell;
                  };
            };
        one = λ w low h.
            let p = cell_place thirds w h in
            let e : p.0 / 16 ≡ w = p.1 in
            sym e ∙ (cut_in p.0 (omega arith) p.2).1;
      }

  pub cut_told :
      (r : ℕ) (passes : (ℕ → Bool) → Bool) → Told t s l m n r counts passes → Told t cut l m n r counts passes
  cut_told r passes told =
      record {
        shut = λ left h.
            told.shut left
            (record {
              cells = given.cells;
              closed = λ o. h.closed (opens_cut (λ q. with_asking r left q && has counts q) o);
            });
        opens = λ left o. told.opens left (cut_opens (λ q. with_asking r left q && has counts q) o);
      }

-- One rule tried

-- r is not tried, nor a rule that is not there: nothing changes
pub not_tried :
    (r counts q rules : ℕ) (passes : (ℕ → Bool) → Bool) (there : Bool)
    → there ≡ has rules q
    → Keeps r counts rules
    → (eqb q r || not there) ≡ true
    → Dropped passes r counts q rules rules
unfolding without
not_tried r counts q rules passes there e keeps h =
    record {
      keeps = keeps;
      trial =
          trial_absent passes q (without (has rules) r)
          (ap (λ b. b && not (eqb q r)) (sym e) ∙ go (eqb q r) there h);
    }
  where
    go : (b c : Bool) → (b || not c) ≡ true → (c && not b) ≡ false
    go true c g = and_false c
    go false c g = rw (not-true c g)

-- a rule that is tried is not r
pub tried_other : (r q : ℕ) (there : Bool) → (eqb q r || not there) ≡ false → q ≡ r → ⊥
tried_other r q there h = eqb-false q r (or_neither (eqb q r) (not there) h).0

-- the rules that count among some, together with r, are these with r
counted :
    (r counts rules : ℕ)
    → Keeps r counts rules
    → (λ q. with_asking r (without (has rules) r) q && has counts q) ≡ has rules
unfolding with_asking without
counted r counts rules keeps = fun_ext (λ q. go q (eqb q r) refl)
  where
    go :
        (q : ℕ) (b : Bool)
        → eqb q r ≡ b
        → ((b || (has rules q && not b)) && has counts q) ≡ has rules q
    go q true e =
        let same = eqb-true q r e in
        rw same (keeps.within r keeps.asking ∙ sym keeps.asking)
    go q false e =
        ap (λ c. c && has counts q) (and_end (has rules q))
        ∙ and_first (has rules q) (has counts q) (keeps.within q)

-- the code's `word & !single(q)`
pub less_one :
    (word one q j : ℕ)
    → word < 2 ^ 64
    → one < 2 ^ 64
    → WordOf (λ i. eqb i q) one
    → has (bit_and word ((2 ^ 64 - 1) - one)) j ≡ (has word j && not (eqb j q))
less_one word one q j fits small single =
    without_single word one q j fits small single
    ∙ and_where (has word j) (not (ltb j 64 && eqb j q)) (not (eqb j q))
    (λ h. ap (λ b. not (b && eqb j q)) (go (ltb j 64) refl h))
  where
    go : (b : Bool) → ltb j 64 ≡ b → has word j ≡ true → b ≡ true
    go true e h = refl
    go false e h = absurd (false≢true (sym (has_above 64 word j fits (ltb-false j 64 e)) ∙ h))

module _ (t : List RuleTable) (met : List (List ℕ)) (s : Scope) (thirds : List ℕ)
    (l m n r counts q before fewer : ℕ) (passes : (ℕ → Bool) → Bool)
    (given : OneGiven t met counts (with_thirds s thirds) l m n)
    (told : Told t (with_thirds s thirds) l m n r counts passes) (keeps : Keeps r counts before)
    (bits : (j : ℕ) → has fewer j ≡ (has before j && not (eqb j q))) (other : q ≡ r → ⊥) (cell : Option ℕ)
    (row : Given t met fewer (with_thirds s thirds) → RowThere s l m → ThirdOf t (has fewer) (with_thirds s thirds) l m cell) where
  abbrev beside : Scope
  beside = with_thirds s thirds

  fewer_keeps : Keeps r counts fewer
  fewer_keeps =
      record {
        within = λ j h.
            keeps.within j (and_left (has before j) (not (eqb j q)) (sym (bits j) ∙ h));
        asking = bits r ∙ rw (keeps.asking, ne_eqb r q (λ e. other (sym e)));
      }

  -- the rules tried are those left but for r
  tried : without (without (has before) r) q ≡ without (has fewer) r
  unfolding without
  tried = fun_ext (λ j. rw (bits j) (and_exchange (has before j) (not (eqb j r)) (not (eqb j q))))

  third : ThirdOf t (has fewer) beside l m cell
  third =
      let cells = given.cells_given.cells in
      row
      (fewer_prepared t met beside (has fewer) (has counts) (λ j k. fewer_keeps.within j) given.cells_given.prepared)
      (record { below = (cells.below.0, cells.below.1); first = cells.first; second = cells.second })

  pub tried_shut : (w : ℕ) → cell ≡ Some w → Dropped passes r counts q before fewer
  tried_shut w e =
      let shut = (rw e at third).shut in
      let here : w ≡ n = given.one w shut.cells.below.2 shut.cells.third in
      let passed : passes (without (without (has before) r) q) ≡ true =
      rw tried
      (told.shut (without (has fewer) r)
      (subst (λ (rules : ℕ → Bool). ShutOf t rules beside l m n) (sym (counted r counts fewer fewer_keeps)) (rw here at shut))) in
      record {
        keeps = fewer_keeps;
        trial = trial_gone passes q (without (has before) r) passed ∙ ap (after_trials passes q) tried;
      }

  pub tried_open : cell ≡ None → Dropped passes r counts q before before
  tried_open e =
      let cells = given.cells_given.cells in
      let failed : passes (without (without (has before) r) q) ≡ false =
      rw tried
      (told.opens (without (has fewer) r)
      (subst (λ (rules : ℕ → Bool). OpensOf t rules beside l m n) (sym (counted r counts fewer fewer_keeps))
      ((rw e at third) n cells))) in
      record { keeps = keeps; trial = trial_kept passes q (without (has before) r) failed }

-- One rule after the other, from 31 down

-- the rules that are left where those from k on have been tried
abbrev pub Turns : List RuleTable → List (List ℕ) → Scope → ℕ → ℕ → ℕ → ℕ → ℕ → ℕ → ℕ → Type 0
Turns t met s l m n r counts k rules =
    (passes : (ℕ → Bool) → Bool)
    → OneGiven t met counts s l m n
    → has counts r ≡ true
    → Told t s l m n r counts passes
    → Keeps r counts rules
    × (after_trials passes 32 (without (has counts) r) ≡ after_trials passes k (without (has rules) r))

module _ (t : List RuleTable) (met : List (List ℕ)) (s : Scope) (l m n r counts : ℕ) where
  pub turns_none : Turns t met s l m n r counts 32 counts
  turns_none passes given asking told = (record { within = λ q h. h; asking = asking }, refl)

  pub turns_more :
      (q k before after : ℕ)
      → k ≡ suc q
      → q < 32
      → Turns t met s l m n r counts k before
      → ((passes : (ℕ → Bool) → Bool) (w all : ℕ)
      → q < 32
      → OneGiven t met all s l m w
      → Told t s l m w r all passes
      → Keeps r all before
      → Dropped passes r all q before after)
      → Turns t met s l m n r counts q after
  turns_more q k before after e low old turn passes given asking told =
      let so_far = old passes given asking told in
      let one = turn passes n counts low given told so_far.0 in (
        one.keeps,
        so_far.1 ∙ ap (λ j. after_trials passes j (without (has before) r)) e ∙ one.trial,
      )

-- after all of them, those left but for r
pub few_left_law :
    (passes : (ℕ → Bool) → Bool) (r counts k rules one q : ℕ)
    → k ≡ 0
    → rules < 2 ^ 64
    → one < 2 ^ 64
    → WordOf (λ j. eqb j r) one
    → after_trials passes 32 (without (has counts) r) ≡ after_trials passes k (without (has rules) r)
    → has (bit_and rules ((2 ^ 64 - 1) - one)) q ≡ after_trials passes 32 (without (has counts) r) q
unfolding after_trials without
few_left_law passes r counts k rules one q none fits small single e =
    less_one rules one r q fits small single
    ∙ sym (ap (λ (f : ℕ → Bool). f q) (e ∙ ap (λ k. after_trials passes k (without (has rules) r)) none))
