-- How a call refuses: its tests stand in a list, in document 01's order, and the first that fails gives the refusal.
-- Assumes nothing.
use Rattle.std.specs.Prelude.{◌≡◌, Bool, cond, List, [], ◌∷◌, Result, Ok, Err}
use Rattle.book.specs.declared.refusal.Refusal.{Refusal}

-- a test: the refusal, with its place, and whether the test is passed
abbrev pub Test : Type 0
Test = Refusal × Bool

-- nothing is refused, or the refusal
abbrev pub Outcome : Type 0
Outcome = Result (Unit {0}) Refusal

-- the refusal of the first test that fails, if any does
unfoldable pub first_failing : List Test → Outcome
first_failing [] = Ok tt
first_failing (test ∷ tests) = cond test.1 (first_failing tests) (Err test.0)

-- no test fails
abbrev pub Passes : List Test → Type 0
Passes tests = first_failing tests ≡ Ok tt

unfoldable pub refused_or : {A : Type 0} → Outcome → (Refusal → A) → A → A
refused_or (Ok done) refused value = value
refused_or (Err refusal) refused value = refused refusal

-- what a call answers, or leaves in a buffer: what it has for the first refusal, or its value where every test passes
unfoldable pub answered : {A : Type 0} → List Test → (Refusal → A) → A → A
answered tests refused value = refused_or (first_failing tests) refused value
