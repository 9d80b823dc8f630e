-- Laws of words: an empty one, and that of the numbers that pass a test. Assumes nothing.
use Prim.Native.Nat.{ℕ, ◌^◌, ◌<◌}
use mathlib.Core.Path.{◌≡◌}
use mathlib.Core.Bool.{Bool, true, false, ◌&&◌, not, cond}
use lib.Dec.{eqb}
use Rattle.book.specs.Lists.{all, any, up_to}
use Rattle.book.specs.Sets.{has}
use Rattle.book.proofs.Lists.{not_any}
use Rattle.book.proofs.Members.{empty_none, has_cond}

-- Words

-- a word, or the empty one
pub has_if : (t : Bool) (word r j : ℕ) → r ≡ cond t word 0 → has r j ≡ (t && has word j)
has_if t word r j e = rw e (has_cond t word j)

-- the code's `word != 0`
pub not_empty : (n word : ℕ) → word < 2 ^ n → not (eqb word 0) ≡ any (has word) (up_to n)
not_empty n word h =
    rw (empty_none n word h)
    (go (any (has word) (up_to n)) (all (λ i. not (has word i)) (up_to n)) (not_any (has word) (up_to n)))
  where
    go : (a b : Bool) → not a ≡ b → not b ≡ a
    go true b e = rw (← e)
    go false b e = rw (← e)
