-- A set of small numbers as a word: number i is a member when bit i, worth 2 to the power i, is set. Assumes nothing.
use Rattle.std.specs.Prelude.{ℕ, ◌-◌, ◌/◌, ◌%◌, ◌^◌, ◌≡◌, Bool, ◌&&◌, eqb, ltb}
use Rattle.std.specs.Int.Bits.{bit_and}

-- "bit k, worth 2 to the power k, means operation k"
unfoldable pub has : ℕ → ℕ → Bool
has word i = eqb (word / 2 ^ i % 2) 1

-- the members of the first set that the second lacks
unfoldable pub less : ℕ → ℕ → ℕ
less a b = a - bit_and a b

-- a word of 64 bits whose members are the numbers below 64 that pass f
abbrev pub WordOf : (ℕ → Bool) → ℕ → Type 0
WordOf f word = (i : ℕ) → has word i ≡ (ltb i 64 && f i)
