-- Laws of three cells: fewer rules, and the third cells beside two others. Assumes nothing.
use Prim.Native.Nat.{ℕ, ◌+◌, ◌*◌, ◌/◌, ◌%◌, ◌≤◌, ◌<◌}
use native.Mathlib.Omega.{arith}
use mathlib.Core.Path.{◌≡◌}
use mathlib.Core.Bool.{Bool, true, false}
use mathlib.Core.List.{List}
use Rattle.book.specs.Sets.{has}
use Rattle.search.specs.Inner.Places.{FirstFrom}
use Rattle.search.proofs.Sieves.{both}
use Rattle.search.specs.declared.tables.RuleTable.{RuleTable}
use Rattle.blocked.specs.Inner.Cells.{Left, in_cell, spares}
use Rattle.blocked.specs.Inner.Rows.{CellsOf, OpensOf, RowOpen, RowThere, ShutThird}
use Rattle.blocked.specs.declared.tables.Scope.{Scope}
use Rattle.blocked.proofs.CellLaws.{cell_member, cell_place}
use Rattle.blocked.proofs.RowLaws.{each_spares, spares_each}

module _ (t : List RuleTable) (s : Scope) where
  -- Fewer rules

  module _ (some rules : ℕ → Bool) (within : (q : ℕ) → q < 32 → some q ≡ true → rules q ≡ true) where
    spares_fewer : (a y x : ℕ) → spares t rules a y x ≡ true → spares t some a y x ≡ true
    spares_fewer a y x h =
        each_spares t some a y x (λ q l m. spares_each t rules a y x h q l (within q l m))

    pub opens_fewer : (l m n : ℕ) → OpensOf t rules s l m n → OpensOf t some s l m n
    opens_fewer l m n o =
        record {
          first = o.first;
          second = o.second;
          third = o.third;
          in_first = o.in_first;
          in_second = o.in_second;
          in_third = o.in_third;
          spared = spares_fewer o.first o.second o.third o.spared;
        }

  -- where no rule counts, cells with places are open
  pub none_opens :
      (rules : ℕ → Bool) → ((q : ℕ) → q < 32 → rules q ≡ false) → (b z w : ℕ) → CellsOf s b z w → OpensOf t rules s b z w
  none_opens rules none b z w cells =
      let a = cell_place s.firsts b cells.first in
      let y = cell_place s.seconds z cells.second in
      let x = cell_place s.thirds w cells.third in
      record {
        first = a.0;
        second = y.0;
        third = x.0;
        in_first = (a.1, a.2);
        in_second = (y.1, y.2);
        in_third = (x.1, x.2);
        spared = each_spares t rules a.0 y.0 x.0 (λ q l m. both m (none q l));
      }

  -- One row

  module _ (rules l m : ℕ) (rest : List ℕ)
      (left : Left t rules s.firsts s.seconds s.thirds l m 16 rest) (x : ℕ) (found : FirstFrom rest 0 x) where
    -- a cell before the first place that is left is open
    before_open :
        (w : ℕ) → w < 132 → in_cell s.thirds w ≡ true → 16 * w + 15 < x → OpensOf t (has rules) s l m w
    before_open w small h low =
        let p = cell_place s.thirds w h in
        let e : p.0 / 16 ≡ w = p.1 in
        rw p.1 at
        (left.gone p.0 (omega arith) p.2 (found.skipped p.0 (omega arith) (omega arith)))

    -- the cell of a place that is left is closed
    left_shut : x < 2112 → OpensOf t (has rules) s l m (x / 16) → ⊥
    left_shut small o =
        let a = o.first in
        let y = o.second in
        let z = o.third in
        let ea : a / 16 ≡ l = o.in_first.0 in
        let ez : z / 16 ≡ x / 16 = o.in_third.0 in
        let fa : 16 * l + a % 16 ≡ a = omega arith in
        both o.spared
        (rw fa at
        (left.closed (a % 16) z y (omega arith) (omega arith)
        (left.whole x z small (omega arith) ez (found.member small) o.in_third.1)
        (rw fa o.in_first.1) o.in_second.0 o.in_second.1))

    -- past all places every third cell is open
    pub third_none : 2112 ≤ x → RowOpen t (has rules) s l m
    third_none past w cells =
        let small : w < 132 = cells.below.2 in
        before_open w small cells.third (omega arith)

    pub third_made : x < 2112 → RowThere s l m → ShutThird t (has rules) s l m (x / 16)
    third_made small there =
        record {
          open_before = λ w low cells.
              let below : w < 132 = cells.below.2 in
              before_open w below cells.third (omega arith);
          shut = record {
            cells =
                record {
                  below = (there.below.0, there.below.1, omega arith);
                  first = there.first;
                  second = there.second;
                  third = cell_member s.thirds x (left.fewer x small (found.member small));
                };
            closed = left_shut small;
          };
        }
