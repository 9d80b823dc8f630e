-- N3, N8 and N10, over the definitions of accesses and rules and not over the words: what one ask says, and what holds
-- "For every list of these calls from a fresh ledger, tally and hold record, with one book". Document 02. Assumes
-- nothing.
use Rattle.std.specs.Prelude.{ℕ, ◌+◌, ◌≤◌, ◌<◌, ◌≡◌, true, false, List, ◌∷◌, length, eqb, Result, Ok}
use Rattle.book.specs.Lists.{any, flat}
use Rattle.book.specs.Blocks.{Book, Head, head_of, rule_at, rule_count}
use Rattle.book.specs.Head.{is_user}
use Rattle.book.specs.Refusals.{BookAccepted}
use Rattle.book.specs.declared.refusal.Refusal.{Refusal}
use Rattle.lineage.specs.Rows.{Plan}
use Rattle.lineage.specs.Accesses.{access_words}
use Rattle.verdicts.specs.Accesses.{Access, Accesses, accesses_of}
use Rattle.verdicts.specs.Breaking.{breaks}
use Rattle.verdicts.specs.Semantics.{SatisfiesPolicy}
use Rattle.verdicts.specs.Demand.{JudgeAccepted, Demand2}
use Rattle.ledger.specs.Ledger.{Ledger, words_of, admitted_for}
use Rattle.ledger.specs.Counts.{WholeTally, counts_of}
use Rattle.ledger.specs.Counting.{count}
use Rattle.ledger.specs.Places.{WholeHolds, number_at, held_count, holds_number, eight_held}
use Rattle.ledger.specs.Answers.{given_to, asked_by, counted_for}
use Rattle.ledger.specs.Histories.{Made, Records, Entry, records_after, log, entries_of, numbered, plan_of, Account}
use Rattle.ledger.specs.Histories.{account, answered_ask, number_in, takes_place, frees_place, down_from, none_twice}
use Rattle.ledger.specs.Alike.{EqualHistories}
use Rattle.ledger.specs.declared.Tally.{Tally}
use Rattle.ledger.specs.declared.Holds.{Holds}
use Rattle.ledger.specs.declared.Asked.{Asked}
use Rattle.ledger.specs.declared.Asked.TheVariants.{Held, Declined}

-- One call

-- what an ask has to be given: what Judge has to be given, a whole ledger, a user below his million, and an empty place
pub record AskAccepted
    (book : Book) (user : ℕ) (plan : Plan) (ledger : Ledger) (tally : Tally) (holds : Holds) : Type 0
  where
    pub judge_accepted : JudgeAccepted book user plan
    pub ledger_whole : length ledger ≡ 1024
    pub asks_below : asked_by user tally holds < 1000000
    pub place_empty : eight_held holds ≡ false

-- the reply, by the accesses of the plan joined with the user's words and held plans, and by how many numbers he was
-- given
pub record Asks (book : Book) (user : ℕ) (query : Accesses) (given : ℕ) (reply : Result Asked Refusal) : Type 0 where
  -- a plan is held, with the next number, exactly when they satisfy the policy
  pub held_satisfies : (number : ℕ) → reply ≡ Ok (Held number) → SatisfiesPolicy book user query
  pub satisfies_held : SatisfiesPolicy book user query → reply ≡ Ok (Held (given + 1))
  -- otherwise it is declined with the mask of that union, which is not 0
  pub otherwise :
      ((number : ℕ) → reply ≡ Ok (Held number) → ⊥)
      → (mask : ℕ) × (reply ≡ Ok (Declined mask)) × (0 < mask) × Demand2 book user query mask

-- what committing and dropping have to be given
pub record SettleAccepted (book : Book) (user number : ℕ) (ledger : Ledger) (holds : Holds) : Type 0 where
  pub book_accepted : BookAccepted book
  pub a_user : is_user (head_of book) user ≡ true
  pub ledger_whole : length ledger ≡ 1024
  pub number_held : holds_number holds user number ≡ true

-- Every list of calls

-- an access of one of some plans
unfoldable pub in_some : Head → List Plan → Accesses
in_some head plans x = any (λ plan. accesses_of head plan x) plans

-- of each user number, over what the replies say of him: his words, and his held plans
pub record Reserved (book : Book) (user : ℕ) (ledger : Ledger) (holds : Holds) (own : Account) : Type 0 where
  -- "The words stand for admitted plans only": they are the union of his committed plans' accesses
  pub union : (x : Access) → admitted_for ledger user x ≡ in_some (head_of book) own.committed x
  -- "his words joined with his held plans break no rule": no rule of an accepted book; with any other book every call
  -- is refused
  pub breaks_none :
      BookAccepted book
      → (r : ℕ)
      → r < rule_count book
      → breaks (head_of book) (rule_at book r) user (counted_for ledger holds user) ≡ false
  -- the same in the words of source document 000
  pub satisfies : BookAccepted book → SatisfiesPolicy book user (counted_for ledger holds user)
  -- a place "keeps its user, number and accesses as asked": the numbers he holds, and the words of each
  pub held_numbers : (n : ℕ) → holds_number holds user n ≡ any (numbered n) own.holds
  pub held_words :
      (n p : ℕ)
      → p < 8
      → number_at holds user n p ≡ true
      → words_of holds.words p ≡ access_words (head_of book) (plan_of n own.holds)
  -- a number that he holds has one place
  pub one_place :
      (n p q : ℕ) → p < 8 → q < 8 → number_at holds user n p ≡ true → number_at holds user n q ≡ true → p ≡ q

-- of each user number, over his counts and the replies to him
pub record Counted (user : ℕ) (tally : Tally) (holds : Holds) (own : List Entry) : Type 0 where
  -- "counts admitted and declined plans", "each user's dropped plans too", and those that are held
  pub admitted_count : (counts_of tally user).admitted ≡ length (account own).committed
  pub declined_count : (counts_of tally user).declined ≡ (account own).declines
  pub dropped_count : (counts_of tally user).dropped ≡ (account own).drops
  pub held_count_law : held_count holds user ≡ length (account own).holds
  -- "each user's admitted + dropped + held + declined is the number of his asks that were not refused"
  pub sum : asked_by user tally holds ≡ count (λ e. answered_ask e.made.call e.reply) own
  -- 28 keeps it at a million or less, so that no count comes near its top value
  pub few : asked_by user tally holds ≤ 1000000
  -- "A new hold's number is 1 + its user's admitted + dropped + held": his are 1, 2, 3, .. in the order given
  pub numbers : flat (λ e. number_in e.reply) own ≡ down_from (given_to user tally holds)
  -- "so none is used again"
  pub once : none_twice (flat (λ e. number_in e.reply) own) ≡ true
  -- a held number is below the next one
  pub held_below : (n : ℕ) → holds_number holds user n ≡ true → (1 ≤ n) × (n < given_to user tally holds + 1)

-- of what is kept, and of the calls that led to it, each with its reply
pub record Promise (book : Book) (s : Records) (entries : List Entry) : Type 0 where
  -- the ledger stays one of 1,024 words, the tally one of 32 users, the hold record one of eight places
  pub whole : length s.ledger ≡ 1024
  pub whole_tally : WholeTally s.tally
  pub whole_holds : WholeHolds s.holds
  pub each : (user : ℕ) → Reserved book user s.ledger s.holds (account (entries_of user entries))
  pub counted : (user : ℕ) → Counted user s.tally s.holds (entries_of user entries)
  -- "At most eight are held over all users together"
  pub at_most_eight : count (λ e. takes_place e.reply) entries ≤ count (λ e. frees_place e.reply) entries + 8
  -- eight are held exactly when eight more were held than committed or dropped
  pub eight :
      eight_held s.holds
      ≡ eqb (count (λ e. takes_place e.reply) entries) (count (λ e. frees_place e.reply) entries + 8)

-- "For every list of these calls from a fresh ledger, tally and hold record, with one book"
abbrev pub EveryList : Book → Type 0
EveryList book = (list : List Made) → Promise book (records_after book list) (log book list)

-- a list leaves these records, the promise holds of them, and each user has what every list alike for him gives him
abbrev pub Leaves : Book → List Made → Records → Type 0
Leaves book list left = (records_after book list ≡ left) × Promise book left (log book list) × EqualHistories book list

-- a call on what a list has left is the next of that list
abbrev pub Continues : (book : Book) (made : Made) (before after : Records) → Type 0
Continues book made before after =
    (list : List Made) → records_after book list ≡ before → Leaves book (made ∷ list) after
