-- Bytes laid one behind the other. No call's promise leans on this file. Assumes nothing.
use Rattle.std.specs.Prelude.{ℕ, ◌+◌, ◌-◌, ◌≤◌, ◌≡◌, List, ◌++◌, length, drop, replicate}

-- bytes stand at the front of a slice that has room for them, and the rest is as it was
abbrev pub Copied : (from before after : List ℕ) → Type 0
Copied from before after = length from ≤ length before → after ≡ from ++ drop (length from) before

-- two parts stand at the front, zeros behind them
abbrev pub Laid : (front back before after : List ℕ) → Type 0
Laid front back before after =
    length front + length back ≤ length before
    → after ≡ (front ++ back) ++ replicate (length before - (length front + length back)) 0
