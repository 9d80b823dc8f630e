-- One user a turn (`Filled`). Assumes nothing.
use Prim.Native.Nat.{ℕ, ◌-◌}
use mathlib.Core.Path.{◌≡◌}
use mathlib.Core.Bool.{◌&&◌}
use lib.Dec.{ltb}
use Rattle.book.specs.Sets.{has}
use Rattle.lineage.proofs.Tables.{Filled}
use Rattle.search.specs.Inner.Search.{covers_in}
use Rattle.blocked.specs.Inner.Users.{covering_rules}
use Rattle.blocked.proofs.users.own_rules.Given as goal

abbrev pub invariant-loop-u : goal.invariant-loop-u
invariant-loop-u l =
    Filled 32 (λ u' word. (q : ℕ) → has word q ≡ (covers_in l.covered l.r u' && (ltb q 32 && covering_rules l.covered u' q))) l.own l.u

abbrev pub decreases-loop-u : goal.decreases-loop-u
decreases-loop-u l = 32 - l.u
