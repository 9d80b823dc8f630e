-- Two lists of calls from fresh with one book that are alike for a user, and what they give him. Document 02, N8 and
-- N10. Assumes nothing.
use Rattle.std.specs.Prelude.{ℕ, ◌≡◌, Bool, false, List, map}
use Rattle.book.specs.Blocks.{Book}
use Rattle.ledger.specs.Ledger.{words_of}
use Rattle.ledger.specs.Counts.{counts_of}
use Rattle.ledger.specs.Places.{held_count}
use Rattle.ledger.specs.Histories.{Call, Ask, Commit, Drop, Made, Entry, records_after, log, entries_of}

-- N10: "whether eight were held at each of his asks"; at his other calls it is not compared
unfoldable pub eight_at : Call → (eight : Bool) → Bool
eight_at (Ask plan) eight = eight
eight_at (Commit n) eight = false
eight_at (Drop n) eight = false

-- what is compared of a call
unfoldable pub compared : Entry → Call × Bool
compared e = (e.made.call, eight_at e.made.call e.eight)

-- "alike in these": his own calls, in their order; those of others, and where they come between, are free
abbrev pub Alike : Book → (user : ℕ) (one two : List Made) → Type 0
Alike book user one two =
    map compared (entries_of user (log book one)) ≡ map compared (entries_of user (log book two))

-- "equal replies and equal words", and equal counts
pub record SameFor (book : Book) (user : ℕ) (one two : List Made) : Type 0 where
  -- the replies to his calls, one by one
  pub replies :
      map (λ e. e.reply) (entries_of user (log book one)) ≡ map (λ e. e.reply) (entries_of user (log book two))
  pub words : words_of (records_after book one).ledger user ≡ words_of (records_after book two).ledger user
  pub counts : counts_of (records_after book one).tally user ≡ counts_of (records_after book two).tally user
  pub held : held_count (records_after book one).holds user ≡ held_count (records_after book two).holds user

-- "two histories from fresh, alike in these, give him equal replies and equal words": one list, and every other
abbrev pub EqualHistories : Book → (one : List Made) → Type 0
EqualHistories book one = (two : List Made) (user : ℕ) → Alike book user one two → SameFor book user one two
