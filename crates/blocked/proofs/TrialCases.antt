-- The law of the cases of one trial, which the laws of dropping by trial (TrialLaws) go by. Assumes nothing.
use Prim.Native.Nat.{ℕ, suc}
use mathlib.Core.Path.{◌≡◌, refl}
use mathlib.Core.Bool.{Bool, true, false, cond}
use Rattle.blocked.specs.Few.{after_trials, without}

module _ (passes : (ℕ → Bool) → Bool) where
  -- a rule is dropped, or not
  pub by_trial :
      (P : (ℕ → Bool) → Type 0) (k : ℕ) (left : ℕ → Bool)
      → (passes (without left k) ≡ true → P (after_trials passes k (without left k)))
      → (passes (without left k) ≡ false → P (after_trials passes k left))
      → P (after_trials passes (suc k) left)
  unfolding after_trials
  by_trial P k left gone kept = go (passes (without left k)) refl
    where
      go :
          (b : Bool)
          → passes (without left k) ≡ b
          → P (cond b (after_trials passes k (without left k)) (after_trials passes k left))
      go true e = gone e
      go false e = kept e
