-- What the search says of a book: the first user and association, as cells; and how the answer is made of them. No
-- call's promise leans on this file. Assumes nothing.
use Rattle.std.specs.Prelude.{ℕ, ◌/◌, ◌%◌, ◌≤◌, ◌<◌, ◌≡◌, cond, List, [], ◌∷◌, ◌++◌, ltb, Option, Some, None, Ok}
use Rattle.search.specs.Alone.{none, shown}
use Rattle.blocked.specs.Associations.{Datum, Pair}
use Rattle.blocked.specs.Open.{first_closed}
use Rattle.blocked.specs.Answers.{closed_answer}
use Rattle.blocked.specs.declared.Closed.{Closed}
use Rattle.blocked.specs.declared.users.Denial.{Denial}

-- the cell of an absent reference
abbrev pub no_cell : ℕ
no_cell = 128

-- the datum of a cell below 128: the cell is 64 × action + leaf
unfoldable pub datum_at : ℕ → Datum
datum_at c = record { channel = c / 64; leaf = c % 64 }

-- the datum of a cell, if it has one
unfoldable pub data_at : ℕ → List Datum
data_at c = cond (ltb c no_cell) (datum_at c ∷ []) []

-- the association of three cells, absent references first
unfoldable pub association_at : ℕ → ℕ → ℕ → List Datum
association_at l m n = data_at l ++ (data_at m ++ data_at n)

abbrev pub pair_at : ℕ → ℕ → ℕ → ℕ → Pair
pair_at u l m n = record { user = u; association = association_at l m n }

-- the cells of absent references stand first
pub record Standing (l m n : ℕ) : Type 0 where
  pub third : n < no_cell
  pub second : m ≤ no_cell
  pub first : l ≤ no_cell
  pub absent : no_cell ≤ m → l ≡ no_cell

-- what was found is the first that is closed, and its cells stand in their order
unfoldable pub FirstDenied : List ℕ → ℕ → Option Denial → Type 0
FirstDenied book r None = first_closed book r ≡ none
FirstDenied book r (Some d) =
    (first_closed book r ≡ shown (pair_at d.user d.first d.second d.third)) × Standing d.first d.second d.third

-- the answer for three cells
abbrev pub AnswerAt : ℕ → ℕ → ℕ → ℕ → Closed → Type 0
AnswerAt u l m n answer = Standing l m n → Ok (Some answer) ≡ closed_answer (pair_at u l m n)
