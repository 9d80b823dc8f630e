-- A part that goes to a list's end, written back. Assumes nothing.
use Prim.Native.Nat.{ℕ, ◌-◌, ◌≤◌}
use native.Mathlib.Omega.{arith}
use mathlib.Core.Path.{◌≡◌, ap}
use mathlib.Core.List.{List, ◌++◌, append-nil}
use lib.ListN.{length, take, drop, length-drop, drop_of_length-le}

pub part_back :
    (xs ys : List ℕ) (a k : ℕ) → length xs - a ≤ k → take a xs ++ (ys ++ drop k (drop a xs)) ≡ take a xs ++ ys
part_back xs ys a k l =
    let d = length-drop a xs in
    rw (drop_of_length-le (drop a xs) {i = k} (omega arith)) (ap (λ (s : List ℕ). take a xs ++ s) (append-nil ys))
