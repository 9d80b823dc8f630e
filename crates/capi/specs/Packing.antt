-- Each answer as one number: refusal number × 2^40 + place × 2^32 + value, the refusal 0 where nothing is refused and
-- the value 0 where something is. A held ask alone, which has no refusal, has a 1 where a refusal has its place.
-- Assumes nothing.
use Rattle.std.specs.Prelude.{ℕ, ◌+◌, ◌-◌, ◌*◌, ◌^◌, Option, Some, None, Result, Ok, Err}
use Rattle.book.specs.Numbers.{number_of, place_of}
use Rattle.book.specs.declared.refusal.Refusal.{Refusal}
use Rattle.verdicts.specs.declared.Broken.{Broken}
use Rattle.ledger.specs.declared.Asked.{Asked}
use Rattle.ledger.specs.declared.Asked.TheVariants.{Held, Declined}
use Rattle.search.specs.declared.Shown.{Shown}
use Rattle.blocked.specs.declared.Closed.{Closed}
use Rattle.trees.specs.declared.Written.{Written}

unfoldable pub packed : ℕ → ℕ → ℕ → ℕ
packed number place value = 1099511627776 * number + 4294967296 * place + value

unfoldable pub refusal_packed : Refusal → ℕ
refusal_packed refusal = packed (number_of refusal) (place_of refusal) 0

-- an answer, by the number that its value has where nothing is refused
abbrev pub answer_packed : {A : Type 0} → (A → ℕ) → Result A Refusal → ℕ
answer_packed value (Ok answer) = value answer
answer_packed value (Err refusal) = refusal_packed refusal

-- Seal, Flows: 0
unfoldable pub done_value : Unit {0} → ℕ
done_value done = packed 0 0 0

-- Book check: the number of rules. Commit and Drop: the number given. Arrive and Depart: the new mask
unfoldable pub number_value : ℕ → ℕ
number_value n = packed 0 0 n

-- Judge: the mask
unfoldable pub judge_value : Broken → ℕ
judge_value broken = packed 0 0 broken.mask

-- Idle: 0 when idle, else user × 256 + rows
unfoldable pub idle_value : Option Shown → ℕ
idle_value None = packed 0 0 0
idle_value (Some s) = packed 0 0 (256 * s.user + s.rows)

-- Blocked: 0 when open, else user × 2^24 and the references' bytes, the first lowest
unfoldable pub blocked_value : Option Closed → ℕ
blocked_value None = packed 0 0 0
blocked_value (Some c) = packed 0 0 (16777216 * c.user + c.first + 256 * c.second + 65536 * c.third)

-- Culprits: 0 when unblocked, else the mask and 2^r: the other rules that close it, and the asking one
unfoldable pub culprits_value : (r : ℕ) → Option ℕ → ℕ
culprits_value r None = packed 0 0 0
culprits_value r (Some mask) = packed 0 0 (mask + 2 ^ r)

-- Ask: held, bit 32 set and the number below it; declined, the mask
unfoldable pub asked_value : Asked → ℕ
asked_value (Held number) = packed 0 1 number
asked_value (Declined mask) = packed 0 0 mask

-- Tree: (nodes - 1) × 2^20 + the text's length; a tree has 1 to 4,096 nodes, and its text less than 2^20 bytes
unfoldable pub tree_value : Written → ℕ
tree_value w = packed 0 0 (1048576 * (w.nodes - 1) + w.length)

-- The calls

unfoldable pub check_packed : Result ℕ Refusal → ℕ
check_packed = answer_packed number_value

unfoldable pub seal_packed : Result (Unit {0}) Refusal → ℕ
seal_packed = answer_packed done_value

unfoldable pub flows_packed : Result (Unit {0}) Refusal → ℕ
flows_packed = answer_packed done_value

unfoldable pub judge_packed : Result Broken Refusal → ℕ
judge_packed = answer_packed judge_value

unfoldable pub idle_packed : Result (Option Shown) Refusal → ℕ
idle_packed = answer_packed idle_value

unfoldable pub blocked_packed : Result (Option Closed) Refusal → ℕ
blocked_packed = answer_packed blocked_value

unfoldable pub culprits_packed : (r : ℕ) → Result (Option ℕ) Refusal → ℕ
culprits_packed r = answer_packed (culprits_value r)

-- Ask
unfoldable pub reply_packed : Result Asked Refusal → ℕ
reply_packed = answer_packed asked_value

-- Commit and Drop
unfoldable pub settle_packed : Result ℕ Refusal → ℕ
settle_packed = answer_packed number_value

-- Arrive and Depart
unfoldable pub edit_packed : Result ℕ Refusal → ℕ
edit_packed = answer_packed number_value

unfoldable pub tree_packed : Result Written Refusal → ℕ
tree_packed = answer_packed tree_value
