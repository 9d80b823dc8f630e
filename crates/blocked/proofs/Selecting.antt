-- What passes a test, as an element of a list. Assumes nothing.
use Prim.Native.Nat.{ℕ, zero, suc, ◌<◌}
use native.Mathlib.Omega.{arith}
use mathlib.Core.Path.{◌≡◌, refl}
use mathlib.Core.Bool.{Bool, true, false, ◌||◌, false≢true}
use mathlib.Core.List.{List, [], ◌∷◌}
use lib.ListN.{length, get_or}
use Rattle.std.specs.List.{list_all, list_any}
use Rattle.book.proofs.Lists.{and_left, and_right}

pub each_of : (f : ℕ → Bool) (xs : List ℕ) → list_all f xs ≡ true → (i : ℕ) → i < length xs → f (get_or xs i 0) ≡ true
each_of f [] h i l = absurd (omega arith)
each_of f (x ∷ xs) h zero l = and_left (f x) (list_all f xs) h
each_of f (x ∷ xs) h (suc i) l = each_of f xs (and_right (f x) (list_all f xs) h) i (omega arith)

pub some_of :
    (f : ℕ → Bool) (xs : List ℕ) → list_any f xs ≡ true → (i : ℕ) × (i < length xs) × (f (get_or xs i 0) ≡ true)
some_of f [] h = absurd (false≢true h)
some_of f (x ∷ xs) h = go (f x) refl h (some_of f xs)
  where
    go :
        (b : Bool)
        → f x ≡ b
        → (b || list_any f xs) ≡ true
        → (list_any f xs ≡ true → (i : ℕ) × (i < length xs) × (f (get_or xs i 0) ≡ true))
        → (i : ℕ) × (i < suc (length xs)) × (f (get_or (x ∷ xs) i 0) ≡ true)
    go true e h rest = (0, omega arith, e)
    go false e h rest =
        let found = rest h in
        let low = found.1 in
        (suc found.0, omega arith, found.2)
