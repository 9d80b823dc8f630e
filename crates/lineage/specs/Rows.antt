-- A plan's rows, byte by byte, and which of them are faulty. Document 01, "Plans and lineage", its first paragraph.
-- Assumes nothing.
use Rattle.std.specs.Prelude.{ℕ, zero, suc, ◌+◌, ◌*◌, ◌/◌, Bool, true, false, ◌&&◌, ◌||◌, List, length, get_or, eqb, ltb}
use Rattle.book.specs.Blocks.{Head}
use Rattle.book.specs.Head.{column_count, function_count}

-- the bytes of a plan; any list of numbers is one, and the tests say which are accepted
abbrev pub Plan : Type 0
Plan = List ℕ

-- "A plan is 0 to 64 rows of four bytes: kind, a, b, c."
abbrev pub row_count : Plan → ℕ
row_count plan = length plan / 4

abbrev pub kind_byte : Plan → ℕ → ℕ
kind_byte plan i = get_or plan (4 * i) 0

abbrev pub row_a : Plan → ℕ → ℕ
row_a plan i = get_or plan (4 * i + 1) 0

abbrev pub row_b : Plan → ℕ → ℕ
row_b plan i = get_or plan (4 * i + 2) 0

abbrev pub row_c : Plan → ℕ → ℕ
row_c plan i = get_or plan (4 * i + 3) 0

-- "A row is read by its kind": 1 to 5, and every other number
pub data Kind : Type 0 where
  Column Apply Choose Output Condition Unknown : Kind

unfoldable pub kind_of : ℕ → Kind
kind_of zero = Unknown
kind_of (suc zero) = Column
kind_of (suc (suc zero)) = Apply
kind_of (suc (suc (suc zero))) = Choose
kind_of (suc (suc (suc (suc zero)))) = Output
kind_of (suc (suc (suc (suc (suc zero))))) = Condition
kind_of (suc (suc (suc (suc (suc (suc n)))))) = Unknown

unfoldable pub kind_at : Plan → ℕ → Kind
kind_at plan i = kind_of (kind_byte plan i)

-- "of kind 1 to 3"
unfoldable pub is_value : Kind → Bool
is_value Column = true
is_value Apply = true
is_value Choose = true
is_value Output = false
is_value Condition = false
is_value Unknown = false

-- "A named row is lower than the row naming it and of kind 1 to 3."
unfoldable pub names : (plan : Plan) (row named : ℕ) → Bool
names plan i r = ltb r i && is_value (kind_at plan r)

-- what row i of a kind asks of its bytes a, b, c
unfoldable pub sound_as : Kind → Head → Plan → (row a b c : ℕ) → Bool
-- "a is a column, b and c zero"
sound_as Column head plan i a b c = ltb a (column_count head) && (eqb b 0 && eqb c 0)
-- "a is a function, b a row, c a row or 255 for no second row"
sound_as Apply head plan i a b c = ltb a (function_count head) && (names plan i b && (eqb c 255 || names plan i c))
-- "a, b, c rows; a decides"
sound_as Choose head plan i a b c = names plan i a && (names plan i b && names plan i c)
-- "a is a row, b and c zero"
sound_as Output head plan i a b c = names plan i a && (eqb b 0 && eqb c 0)
-- "as 4"
sound_as Condition head plan i a b c = names plan i a && (eqb b 0 && eqb c 0)
sound_as Unknown head plan i a b c = false

-- row i is not faulty
unfoldable pub row_holds : (head : Head) (plan : Plan) (row : ℕ) → Bool
row_holds head plan i = sound_as (kind_at plan i) head plan i (row_a plan i) (row_b plan i) (row_c plan i)
