-- A row of a plan as the code reads it, by its kind. No call's promise leans on this file. Assumes nothing.
use Rattle.std.specs.Prelude.{ℕ, ◌≡◌, ◌≢◌, Bool, false, ◌&&◌, eqb, Option, Some, None}
use Rattle.lineage.specs.Rows.{Plan, Kind, Column, Apply, Choose, Output, Condition, Unknown}
use Rattle.lineage.specs.Rows.{kind_at, row_a, row_b, row_c}
use Rattle.lineage.specs.Accesses.{gives}
use Rattle.lineage.specs.declared.rows.Channel.{Channel}
use Rattle.lineage.specs.declared.rows.Channel.TheVariants as channel
use Rattle.lineage.specs.declared.rows.Row.{Row}
use Rattle.lineage.specs.declared.rows.Row.TheVariants as read

-- the kind of the rows that use a row by a channel
abbrev pub kind_using : Channel → Kind
kind_using channel.Projection = Output
kind_using channel.Condition = Condition

-- row i is read as that row; a row of no kind is none
abbrev pub IsRead : Plan → ℕ → Option Row → Type 0
IsRead plan i None = kind_at plan i ≡ Unknown
IsRead plan i (Some (read.Column a)) = (kind_at plan i ≡ Column) × (row_a plan i ≡ a)
IsRead plan i (Some (read.Apply f b None)) =
    (kind_at plan i ≡ Apply) × (row_a plan i ≡ f) × (row_b plan i ≡ b) × (row_c plan i ≡ 255)
IsRead plan i (Some (read.Apply f b (Some c))) =
    (kind_at plan i ≡ Apply) × (row_a plan i ≡ f) × (row_b plan i ≡ b) × (row_c plan i ≡ c) × (c ≢ 255)
IsRead plan i (Some (read.Choose a b c)) =
    (kind_at plan i ≡ Choose) × (row_a plan i ≡ a) × (row_b plan i ≡ b) × (row_c plan i ≡ c)
IsRead plan i (Some (read.Used c r)) = (kind_at plan i ≡ kind_using c) × (row_a plan i ≡ r)

-- b and c of a row are zero
abbrev pub zeros_after : Plan → ℕ → Bool
zeros_after plan i = eqb (row_b plan i) 0 && eqb (row_c plan i) 0

-- a channel's number
abbrev pub number_of : Channel → ℕ
number_of channel.Projection = 0
number_of channel.Condition = 1

-- row i gives the accesses of a row by a channel, or none
abbrev pub IsGiven : Plan → ℕ → Option (Channel × ℕ) → Type 0
IsGiven plan i None = (s : ℕ) → gives (kind_at plan i) s ≡ false
IsGiven plan i (Some given) =
    (row_a plan i ≡ given.1) × ((s : ℕ) → gives (kind_at plan i) s ≡ eqb s (number_of given.0))
