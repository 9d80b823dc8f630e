-- The action hierarchy of source document 001, case by case. What each line says is in `specs/ActionCases.antt`.
-- Assumes nothing.
use Prim.Native.Nat.{ℕ, zero, suc, ◌<◌}
use native.Mathlib.Omega.{arith}
use mathlib.Core.Path.{◌≡◌, refl}
use mathlib.Core.Logic.{◌⊎◌, inl, inr}
use mathlib.Core.Bool.{true, false≢true}
use Rattle.std.specs.Prelude.{Option, Some, None}
use Rattle.book.specs.Refusals.{names_action}
use Rattle.book.specs.declared.Action.{Action}
use Rattle.book.specs.declared.Action.TheVariants as named
use Rattle.book.proofs.Accepted.{accepted_rule}
use Rattle.lineage.specs.declared.rows.Channel.TheVariants as done
use Rattle.verdicts.specs.Actions.{action_fits, channel_fits}
use Rattle.verdicts.specs.Accesses.{Access, fits}
use Rattle.verdicts.specs.ActionCases.{Fits, NeverFits, OneOfTwo, OneOfThree, NoOtherCase}
use Rattle.verdicts.proofs.Accesses.{fits_bounds}
use Rattle.verdicts.proofs.Held.{held_channel, plan_channel}

-- The six cases

pub projection_fits_projection : Fits done.Projection named.Projection
unfolding fits channel_fits action_fits
projection_fits_projection head rule i x does names = rw (does, names)

pub condition_fits_condition : Fits done.Condition named.Condition
unfolding fits channel_fits action_fits
condition_fits_condition head rule i x does names = rw (does, names)

pub projection_fits_access : Fits done.Projection named.Access
unfolding fits channel_fits action_fits
projection_fits_access head rule i x does names = rw (does, names)

pub condition_fits_access : Fits done.Condition named.Access
unfolding fits channel_fits action_fits
condition_fits_access head rule i x does names = rw (does, names)

pub projection_never_fits_condition : NeverFits done.Projection named.Condition
unfolding fits channel_fits action_fits
projection_never_fits_condition head rule i x does names = rw (does, names)

pub condition_never_fits_projection : NeverFits done.Condition named.Projection
unfolding fits channel_fits action_fits
condition_never_fits_projection head rule i x does names = rw (does, names)

-- No other case

two_channels : (x : Access) → x.channel < 2 → OneOfTwo x
two_channels x l = by_number x.channel l
  where
    by_number : (s : ℕ) → s < 2 → (s ≡ 0) ⊎ (s ≡ 1)
    by_number zero l = inl refl
    by_number (suc zero) l = inr refl
    by_number (suc (suc s)) l = absurd (omega arith)

three_actions : (names : Option Action) → names_action names ≡ true → OneOfThree names
unfolding names_action
three_actions (Some named.Projection) h = inl refl
three_actions (Some named.Condition) h = inr (inl refl)
three_actions (Some named.Access) h = inr (inr refl)
three_actions None h = absurd (false≢true h)

pub no_other_case : NoOtherCase
no_other_case =
    record {
      of_plan = λ head plan x h. two_channels x (plan_channel head plan x h);
      of_words = λ words x h. two_channels x (held_channel words x h);
      of_choice = λ head rule i x h. two_channels x (fits_bounds head rule i x h).0;
      of_rule = λ book r i accepted there present.
          three_actions _ ((accepted_rule book accepted r there).action_holds i present);
    }
