-- What the steps of the three calls promise to each other. No call's promise leans on this file. Assumes nothing.
use Rattle.std.specs.Prelude.{ℕ, ◌≡◌, List, ◌++◌, map, get_or, Bool, Option}
use Rattle.std.specs.List.{count_by, find, range_with_len}
use Rattle.std.specs.Int.Bits.{bit_or}
use Rattle.book.specs.Lists.{up_to}
use Rattle.book.specs.Blocks.{Book}
use Rattle.book.specs.Tests.{Test}
use Rattle.verdicts.specs.Accesses.{Access, held_by, union}
use Rattle.verdicts.specs.Breaking.{broken_mask}
use Rattle.ledger.specs.Ledger.{Ledger}
use Rattle.ledger.specs.Places.{held_accesses}
use Rattle.ledger.specs.Answers.{counted_for, ledger_tests, count_tests, place_tests}
use Rattle.ledger.specs.declared.Tally.{Tally}
use Rattle.ledger.specs.declared.Holds.{Holds}

-- two times 32 words, joined word by word
unfoldable pub joined_words : (a b : List ℕ) → List ℕ
joined_words a b = map (λ w. bit_or (get_or a w 0) (get_or b w 0)) (up_to 32)

-- the lowest of the eight places that passes
abbrev pub lowest : (ℕ → Bool) → Option ℕ
lowest f = find f (range_with_len 0 8)

-- how many of the eight places pass
abbrev pub passing : (ℕ → Bool) → ℕ
passing f = count_by f (range_with_len 0 8)

-- a hold record by its parts
abbrev pub places_with : (users numbers words : List ℕ) → Holds
places_with users numbers words = record { users = users; numbers = numbers; words = words }

-- the words of a user's held plans
abbrev pub HeldWords : Holds → (user : ℕ) (words : List ℕ) → Type 0
HeldWords holds user words = (x : Access) → held_by words x ≡ held_accesses holds user x

-- an ask's tests after those of Judge
abbrev pub room_tests : (user : ℕ) → Ledger → Tally → Holds → List Test
room_tests user ledger tally holds = ledger_tests ledger ++ count_tests user tally holds ++ place_tests holds

-- the mask of a book's rules that a user breaks with what some words hold, his words and his held plans
abbrev pub MaskWith : (book : Book) (user : ℕ) (ledger : Ledger) → Holds → (words : List ℕ) (mask : ℕ) → Type 0
MaskWith book user ledger holds words mask =
    mask ≡ broken_mask book user (union (counted_for ledger holds user) (held_by words))
