-- Laws of the action that a reference names: by its byte, and what refusal 7 asks of it. Assumes nothing.
use Prim.Native.Nat.{ℕ, zero, suc}
use native.Mathlib.Omega.{arith}
use mathlib.Core.Path.{◌≡◌, refl}
use borrow.Author.Tests.{le-leb, lt-leb}
use Rattle.book.specs.Rule.{action_of}
use Rattle.book.specs.Refusals.{between, names_action}
use Rattle.std.specs.Prelude.{Option, None, Some}
use Rattle.std.specs.Option.{is_some}
use Rattle.book.specs.declared.Action.{Action}

pub action_other : (n : ℕ) → (n ≡ 1 → ⊥) → (n ≡ 2 → ⊥) → (n ≡ 3 → ⊥) → action_of n ≡ None
unfolding action_of
action_other zero p q r = refl
action_other (suc zero) p q r = absurd (p refl)
action_other (suc (suc zero)) p q r = absurd (q refl)
action_other (suc (suc (suc zero))) p q r = absurd (r refl)
action_other (suc (suc (suc (suc n)))) p q r = refl

-- refusal 7 by the byte: it names an action exactly when it is 1 to 3
pub action_number_law : (n : ℕ) → names_action (action_of n) ≡ between 1 3 n
unfolding action_of names_action between
action_number_law zero = refl
action_number_law (suc zero) = refl
action_number_law (suc (suc zero)) = refl
action_number_law (suc (suc (suc zero))) = refl
action_number_law (suc (suc (suc (suc n)))) =
    rw (le-leb 1 (suc (suc (suc (suc n)))) (omega arith), lt-leb (suc (suc (suc (suc n)))) 3 (omega arith))

-- the reader's `is_some`
pub names_is_some : (named : Option Action) → is_some named ≡ names_action named
unfolding names_action
names_is_some None = refl
names_is_some (Some action) = refl
