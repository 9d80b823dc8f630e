-- The library's chains over a range and over a slice are the quantifiers of specs/Lists. Assumes nothing.
use Prim.Native.Nat.{ℕ, zero, suc, ◌+◌}
use native.Mathlib.Omega.{arith}
use mathlib.Core.Path.{◌≡◌, refl, ap, ◌∙◌}
use mathlib.Core.Bool.{Bool, ◌&&◌}
use mathlib.Core.List.{List, [], ◌∷◌}
use Rattle.std.specs.List.{list_all, range_with_len}
use Rattle.book.specs.Lists.{all, from, up_to}

pub all_law : {A : Type 0} (f : A → Bool) (xs : List A) → list_all f xs ≡ all f xs
unfolding all
all_law f [] = refl
all_law f (x ∷ xs) = ap (λ b. f x && b) (all_law f xs)

range_from : (i n : ℕ) → range_with_len i n ≡ from i n
unfolding from
range_from i zero = refl
range_from i (suc n) =
    let e : i + 1 ≡ suc i = omega arith in
    rw e (ap (λ l. i ∷ l) (range_from (suc i) n))

-- `(0..n).all(f)`
pub all_below : (f : ℕ → Bool) (n : ℕ) → list_all f (range_with_len 0 n) ≡ all f (up_to n)
unfolding up_to
all_below f n = ap (list_all f) (range_from 0 n) ∙ all_law f (from 0 n)
