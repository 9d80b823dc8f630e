-- Laws of the tally by user: a count raised for its user and for others. Assumes nothing.
use Prim.Native.Nat.{ℕ, ◌+◌, ◌<◌}
use mathlib.Core.Path.{◌≡◌, ◌∙◌}
use mathlib.Core.List.{List}
use lib.ListN.{length, get_or, length-set}
use lib.Seq.{get_or-set_same, get_or-set_other}
use borrow.Author.Tests.{lt-ltb}
use Rattle.ledger.specs.Counts.{raised, raised_for}

module _ (counts : List ℕ) (user : ℕ) where
  pub raised_length : length (raised_for counts user) ≡ length counts
  unfolding raised_for
  raised_length = length-set counts user (raised (get_or counts user 0))

  pub raised_own :
      user < length counts → get_or counts user 0 < 4294967295 → get_or (raised_for counts user) user 0 ≡ get_or counts user 0 + 1
  unfolding raised_for raised
  raised_own low room =
      get_or-set_same counts user (raised (get_or counts user 0)) 0 low ∙ rw (lt-ltb (get_or counts user 0) 4294967295 room)

  pub raised_other : (other : ℕ) → (other ≡ user → ⊥) → get_or (raised_for counts user) other 0 ≡ get_or counts other 0
  unfolding raised_for
  raised_other other apart = get_or-set_other counts user other (raised (get_or counts user 0)) 0 apart
