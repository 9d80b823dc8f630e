-- Users: the first to whom some cells are closed, in the tables' terms. No call's promise leans on this file. Assumes
-- nothing.
use Rattle.std.specs.Prelude.{ℕ, ◌+◌, ◌*◌, ◌<◌, ◌≡◌, Bool, true, ◌&&◌, List, get_or, ltb, Option, Some, None}
use Rattle.book.specs.Sets.{has}
use Rattle.search.specs.Inner.Search.{covers_in, triple_before}
use Rattle.search.specs.declared.tables.RuleTable.{RuleTable}
use Rattle.blocked.specs.Inner.Cells.{Cells, Opens, Shut, past_cells}
use Rattle.blocked.specs.Inner.Rows.{CellsOf, OpensOf, own_of}
use Rattle.blocked.specs.declared.tables.Scope.{Scope}
use Rattle.blocked.specs.declared.users.Denial.{Denial}

-- the rules that cover user u
abbrev pub covering_rules : List ℕ → ℕ → ℕ → Bool
covering_rules covered u q = covers_in covered q u

-- those of them that count
abbrev pub counting_rules : (ℕ → Bool) → List ℕ → ℕ → ℕ → Bool
counting_rules rules covered u q = rules q && covering_rules covered u q

-- the rules that cover each user, if r is one of them
abbrev pub OwnRules : ℕ → List ℕ → List ℕ → Type 0
OwnRules r covered own =
    (u q : ℕ) → u < 32 → has (get_or own u 0) q ≡ (covers_in covered r u && (ltb q 32 && covering_rules covered u q))

-- a set of rules leaves open the cells that pass a test
abbrev pub OpenWhere : List RuleTable → (ℕ → Bool) → Scope → (ℕ → ℕ → ℕ → Bool) → Type 0
OpenWhere t rules s test = (b z w : ℕ) → test b z w ≡ true → CellsOf s b z w → OpensOf t rules s b z w

-- those in rows before row h, the row of first cell b and second cell z being 132 × b + z
abbrev pub OpenUpTo : List RuleTable → (ℕ → Bool) → Scope → ℕ → Type 0
OpenUpTo t rules s h = OpenWhere t rules s (λ b z w. ltb (past_cells * b + z) h)

-- closed cells before which a set of rules leaves all open
pub record FirstShut (t : List RuleTable) (rules : ℕ → Bool) (s : Scope) (l m n : ℕ) : Type 0 where
  pub shut : Shut t rules s.firsts s.seconds s.thirds l m n
  pub open_before : OpenWhere t rules s (λ b z w. triple_before b z w l m n)

-- the rows before row h are closed to a user, and to no user before it
pub record UserUpTo (t : List RuleTable) (all : ℕ) (s : Scope) (own : List ℕ) (h : ℕ) (found : Denial) : Type 0 where
  pub below : found.user < 32
  pub open_before : (v : ℕ) → v < found.user → OpenUpTo t (own_of all own v) s h
  pub first_shut : FirstShut t (own_of all own found.user) s found.first found.second found.third

-- the users before whom others are looked for
abbrev pub limit_of : Option Denial → ℕ
limit_of None = 32
limit_of (Some found) = found.user

-- the first user to whom they are, if there is one
abbrev pub RowsUpTo : List RuleTable → ℕ → Scope → List ℕ → ℕ → Option Denial → Type 0
RowsUpTo t all s own h None = (v : ℕ) → v < 32 → OpenUpTo t (own_of all own v) s h
RowsUpTo t all s own h (Some found) = UserUpTo t all s own h found

-- the users before u that rule r covers have all cells open
abbrev pub OpenBefore : List RuleTable → ℕ → List ℕ → List ℕ → List ℕ → List ℕ → ℕ → Type 0
OpenBefore t r firsts seconds thirds covered u =
    (v : ℕ)
    → v < u
    → covers_in covered r v ≡ true
    → (b z w : ℕ)
    → Cells firsts seconds thirds b z w
    → Opens t (covering_rules covered v) firsts seconds thirds b z w

-- the first user whom rule r covers, and for it the first three cells
pub record DeniedUser (t : List RuleTable) (r : ℕ) (firsts seconds thirds covered : List ℕ) (u l m n : ℕ) : Type 0 where
  pub below : u < 32
  pub covers : covers_in covered r u ≡ true
  pub shut : Shut t (covering_rules covered u) firsts seconds thirds l m n
  pub earliest :
      (b z w : ℕ)
      → triple_before b z w l m n ≡ true
      → Cells firsts seconds thirds b z w
      → Opens t (covering_rules covered u) firsts seconds thirds b z w
  pub users : OpenBefore t r firsts seconds thirds covered u

unfoldable pub DeniedFirst : List RuleTable → ℕ → List ℕ → List ℕ → List ℕ → List ℕ → Option Denial → Type 0
DeniedFirst t r firsts seconds thirds covered None = OpenBefore t r firsts seconds thirds covered 32
DeniedFirst t r firsts seconds thirds covered (Some d) =
    DeniedUser t r firsts seconds thirds covered d.user d.first d.second d.third
