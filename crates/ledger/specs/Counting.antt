-- How many of a list pass a test, and the first that does; they compute. Assumes nothing.
use Rattle.std.specs.Prelude.{ℕ, ◌+◌, Bool, cond, List, [], ◌∷◌}

-- how many pass
unfoldable pub count : {A : Type 0} → (A → Bool) → List A → ℕ
count f [] = 0
count f (x ∷ xs) = cond (f x) 1 0 + count f xs

-- the first that passes, or `none`
unfoldable pub first_of : (f : ℕ → Bool) (none : ℕ) → List ℕ → ℕ
first_of f none [] = none
first_of f none (x ∷ xs) = cond (f x) x (first_of f none xs)
