-- Which accesses fit which action of a rule. Source document 001: "The actions also form a hierarchy where access is
-- the parent of projection and condition." Document 02, N4. `done` is what an access does, `named` what a rule names;
-- both types stand in code, `Channel` in src/rows.rt of lineage and `Action` in src/lib.rt of book. Assumes nothing.
use Rattle.std.specs.Prelude.{ℕ, zero, suc, Bool, true, false, Option, Some, None}
use Rattle.book.specs.declared.Action.{Action}
use Rattle.book.specs.declared.Action.TheVariants as named
use Rattle.lineage.specs.declared.rows.Channel.{Channel}
use Rattle.lineage.specs.declared.rows.Channel.TheVariants as done

-- "the six cases, projection or condition against projection, condition or access"
unfoldable pub action_fits : Channel → Action → Bool
action_fits done.Projection named.Projection = true
action_fits done.Projection named.Condition = false
action_fits done.Projection named.Access = true
action_fits done.Condition named.Projection = false
action_fits done.Condition named.Condition = true
action_fits done.Condition named.Access = true

-- the number of what an access does: "s being 0 for projection, 1 for condition"
abbrev pub number_of : Channel → ℕ
number_of done.Projection = 0
number_of done.Condition = 1

-- the same test for the number s of an access and the action that a reference names; no access has a number above 1, and
-- no reference of an accepted book names none
unfoldable pub channel_fits : (channel : ℕ) → Option Action → Bool
channel_fits s None = false
channel_fits zero (Some action) = action_fits done.Projection action
channel_fits (suc zero) (Some action) = action_fits done.Condition action
channel_fits (suc (suc s)) (Some action) = false
