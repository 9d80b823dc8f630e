-- What the numbers of pspec_judge, pspec_idle, pspec_blocked, pspec_culprits, pspec_ask, pspec_commit, pspec_drop,
-- pspec_arrive, pspec_depart and pspec_tree say, for whoever calls the C library: demands 2 and 3, N1, N3, N6, N7, N8,
-- N10 and N11 over the number itself. A number from 2^32 on is a refusal, but for pspec_ask; below it, it is the value.
-- Assumes nothing.
use Rattle.std.specs.Prelude.{ℕ, ◌+◌, ◌-◌, ◌/◌, ◌%◌, ◌^◌, ◌≤◌, ◌<◌, ◌≡◌, List, get_or}
use Rattle.book.specs.Sets.{has}
use Rattle.book.specs.Blocks.{Book, Block, head_of, rule_at}
use Rattle.lineage.specs.Rows.{Plan}
use Rattle.lineage.specs.Accesses.{access_words}
use Rattle.verdicts.specs.Accesses.{Access, accesses_of, held_by, union}
use Rattle.verdicts.specs.Semantics.{SatisfiesPolicy}
use Rattle.verdicts.specs.Demand.{JudgeAccepted, Demand2}
use Rattle.ledger.specs.Ledger.{Ledger, words_of, admitted_for}
use Rattle.ledger.specs.Counts.{raised_for}
use Rattle.ledger.specs.Places.{empty_place, place_of, placed, freed}
use Rattle.ledger.specs.Answers.{given_to, ask_accesses}
use Rattle.ledger.specs.Histories.{Ask, Commit, Drop}
use Rattle.ledger.specs.Demand.{AskAccepted, SettleAccepted, Continues}
use Rattle.ledger.specs.declared.Tally.{Tally}
use Rattle.ledger.specs.declared.Holds.{Holds}
use Rattle.search.specs.Demand.{IdleAccepted, NobodyAlone, ShownIn}
use Rattle.blocked.specs.Associations.{Pair}
use Rattle.blocked.specs.Few.{with_asking}
use Rattle.blocked.specs.Answers.{blocked_answer, datum_byte}
use Rattle.blocked.specs.Demand.{BlockedAccepted, InScope, ClosedFirst, NoneClosed}
use Rattle.blocked.specs.Minimal.{Behind}
use Rattle.editing.specs.Books.{with_rule, without_rule}
use Rattle.editing.specs.Record.{Record, book_in, laid}
use Rattle.editing.specs.Edits.{Arrive, Depart}
use Rattle.editing.specs.Demand as editing
use Rattle.editing.specs.Demand.{ArriveAccepted, Arrives, DepartAccepted, Departs}
use Rattle.trees.specs.Demand.{TreeAccepted, Draws}
use Rattle.capi.specs.Packing.{blocked_packed}

-- the least number that is a refusal
abbrev pub refusals : ℕ
refusals = 4294967296

-- pspec_judge: the number is the mask
pub record JudgeSays (book : Book) (user : ℕ) (plan : Plan) (answer : ℕ) : Type 0 where
  -- nothing is refused exactly when book, user and plan are accepted
  pub accepted : answer < refusals → JudgeAccepted book user plan
  pub accepts : JudgeAccepted book user plan → answer < refusals
  -- 0 opens the gate: exactly for an accepted query that satisfies the policy
  pub zero_satisfies : answer ≡ 0 → SatisfiesPolicy book user (accesses_of (head_of book) plan)
  pub satisfies_zero :
      JudgeAccepted book user plan → SatisfiesPolicy book user (accesses_of (head_of book) plan) → answer ≡ 0
  -- bit r tells whether the query satisfies rule r
  pub demand : answer < refusals → Demand2 book user (accesses_of (head_of book) plan) answer

-- pspec_idle: the number is 0, or user × 256 + rows
pub record IdleSays (book : Book) (r : ℕ) (before after : List ℕ) (answer : ℕ) : Type 0 where
  -- nothing is refused exactly when the book is accepted, the rule is there and the buffer is long enough
  pub accepted : answer < refusals → IdleAccepted book r before
  pub accepts : IdleAccepted book r before → answer < refusals
  -- 0: "no user and accepted plan of 0 to 64 rows break r alone"
  pub zero_nobody : answer ≡ 0 → NobodyAlone book r
  pub nobody_zero : IdleAccepted book r before → NobodyAlone book r → answer ≡ 0
  -- any other value: the first user and plan that do, the plan in the buffer
  pub shows : 0 < answer → answer < refusals → ShownIn book r before after (answer / 256) (answer % 256)
  -- otherwise the buffer is as it was
  pub zero_keeps : answer ≡ 0 → after ≡ before
  pub refused_keeps : refusals ≤ answer → after ≡ before

-- the number taken apart: a user, and a byte for each of three references
pub record BlockedParts (answer : ℕ) (p : Pair) : Type 0 where
  pub user : answer / 16777216 ≡ p.user
  pub first : answer % 256 ≡ datum_byte p.association 0
  pub second : answer / 256 % 256 ≡ datum_byte p.association 1
  pub third : answer / 65536 % 256 ≡ datum_byte p.association 2

-- pspec_blocked: the number is 0, or user × 2^24 + the bytes of the references
pub record BlockedSays (book : Book) (r : ℕ) (answer : ℕ) : Type 0 where
  -- nothing is refused exactly when the book is accepted, the rule is there and it has a restriction
  pub accepted : answer < refusals → BlockedAccepted book r
  pub accepts : BlockedAccepted book r → answer < refusals
  -- 0: every user and association of the rule's scope can be opened
  pub zero_none : answer ≡ 0 → NoneClosed book r
  pub none_zero : BlockedAccepted book r → NoneClosed book r → answer ≡ 0
  -- any other value: the first user and association that cannot
  pub shows : 0 < answer → answer < refusals → (p : Pair) × BlockedParts answer p × ClosedFirst book r p
  -- whoever reads the number as a user and an association of the scope has read that pair
  pub named :
      (p : Pair)
      → InScope (head_of book) (rule_at book r) p
      → BlockedParts answer p
      → 0 < answer
      → answer < refusals
      → ClosedFirst book r p

-- the number taken apart: bit r, and a mask that has it not
pub record CulpritsParts (r answer mask : ℕ) : Type 0 where
  pub value : answer ≡ mask + 2 ^ r
  pub bits : (q : ℕ) → has answer q ≡ with_asking r (has mask) q

-- pspec_culprits: the number is 0, or a mask of other rules and the asking rule's bit
pub record CulpritsSays (book : Book) (r : ℕ) (answer : ℕ) : Type 0 where
  -- nothing is refused exactly when pspec_blocked refuses nothing
  pub accepted : answer < refusals → BlockedAccepted book r
  pub accepts : BlockedAccepted book r → answer < refusals
  -- 0: every user and association of the rule's scope can be opened
  pub zero_none : answer ≡ 0 → NoneClosed book r
  pub none_zero : BlockedAccepted book r → NoneClosed book r → answer ≡ 0
  -- any other value: for the first user and association that cannot, the few rules behind that
  pub shows :
      0 < answer
      → answer < refusals
      → (p : Pair) × (mask : ℕ) × CulpritsParts r answer mask × Behind book r p mask
  -- whoever reads the number of pspec_blocked as a user and an association of the scope has those behind that pair
  pub named :
      (p : Pair) (mask : ℕ)
      → InScope (head_of book) (rule_at book r) p
      → BlockedParts (blocked_packed (blocked_answer book r)) p
      → answer ≡ mask + 2 ^ r
      → answer < refusals
      → Behind book r p mask

-- the least refusal has number 1 and place 0: a held ask lies below it
abbrev pub least_refusal : ℕ
least_refusal = 1099511627776

-- pspec_ask: the number is 2^32 + the hold's number, or the mask of the union
pub record AskSays
    (book : Book) (user : ℕ) (plan : Plan) (ledger : Ledger) (tally counted : Tally) (holds kept : Holds) (answer : ℕ)
    : Type 0
  where
    -- nothing is refused exactly when book, user and plan are accepted, the ledger is whole, the user is below his
    -- million and a place is empty
    pub accepted : answer < least_refusal → AskAccepted book user plan ledger tally holds
    pub accepts : AskAccepted book user plan ledger tally holds → answer < least_refusal
    -- bit 32 is set exactly for an accepted ask whose plan, with its user's words and held plans, satisfies the policy
    pub held_satisfies :
        refusals ≤ answer
        → answer < least_refusal
        → SatisfiesPolicy book user (ask_accesses book user plan ledger tally holds)
    pub satisfies_held :
        AskAccepted book user plan ledger tally holds
        → SatisfiesPolicy book user (ask_accesses book user plan ledger tally holds)
        → refusals ≤ answer
    -- then the low 32 bits are the number, and the plan's own accesses lie in the lowest empty place
    pub held_number : refusals ≤ answer → answer < least_refusal → answer ≡ refusals + (given_to user tally holds + 1)
    pub held_place :
        refusals ≤ answer
        → answer < least_refusal
        → kept ≡ placed holds (empty_place holds) user (given_to user tally holds + 1) (access_words (head_of book) plan)
    pub held_counts : refusals ≤ answer → answer < least_refusal → counted ≡ tally
    -- otherwise they are the mask, which is not 0: bit r tells whether the union satisfies rule r
    pub declined_some : answer < refusals → 0 < answer
    pub demand : answer < refusals → Demand2 book user (ask_accesses book user plan ledger tally holds) answer
    pub declined_counts :
        answer < refusals
        → counted
        ≡ record {
          admitted = tally.admitted;
          declined = raised_for tally.declined user;
          dropped = tally.dropped;
        }
    pub declined_keeps : answer < refusals → kept ≡ holds
    -- a refusal changes nothing
    pub refused_keeps : least_refusal ≤ answer → (counted ≡ tally) × (kept ≡ holds)
    -- after a list of calls from fresh, this one is the next of the list, what is left keeps the promise, and each user
    -- has what every list alike for him gives him
    pub continues :
        Continues book (record { user = user; call = Ask plan })
        (record { ledger = ledger; tally = tally; holds = holds })
        (record { ledger = ledger; tally = counted; holds = kept })

-- pspec_commit: the number is the one given
pub record CommitSays
    (book : Book) (user number : ℕ) (before after : Ledger) (tally counted : Tally) (holds kept : Holds) (answer : ℕ)
    : Type 0
  where
    -- nothing is refused exactly when book and user are accepted, the ledger is whole and the user holds the number
    pub accepted : answer < refusals → SettleAccepted book user number before holds
    pub accepts : SettleAccepted book user number before holds → answer ≡ number
    -- then the user's words are joined with those of the lowest place of that number, which is freed
    pub joins :
        answer < refusals
        → (x : Access)
        → admitted_for after user x
        ≡ union (admitted_for before user) (held_by (words_of holds.words (place_of holds user number))) x
    pub counts :
        answer < refusals
        → counted
        ≡ record {
          admitted = raised_for tally.admitted user;
          declined = tally.declined;
          dropped = tally.dropped;
        }
    pub frees : answer < refusals → kept ≡ freed holds (place_of holds user number)
    -- no word of another user changes
    pub others_keep : (w : ℕ) → (w / 32 ≡ user → ⊥) → get_or after w 0 ≡ get_or before w 0
    -- a refusal changes nothing
    pub refused_keeps : refusals ≤ answer → (after ≡ before) × (counted ≡ tally) × (kept ≡ holds)
    pub continues :
        Continues book (record { user = user; call = Commit number })
        (record { ledger = before; tally = tally; holds = holds })
        (record { ledger = after; tally = counted; holds = kept })

-- pspec_drop: the number is the one given
pub record DropSays
    (book : Book) (user number : ℕ) (ledger : Ledger) (tally counted : Tally) (holds kept : Holds) (answer : ℕ) : Type 0
  where
    pub accepted : answer < refusals → SettleAccepted book user number ledger holds
    pub accepts : SettleAccepted book user number ledger holds → answer ≡ number
    -- the lowest place of that number is freed
    pub counts :
        answer < refusals
        → counted
        ≡ record {
          admitted = tally.admitted;
          declined = tally.declined;
          dropped = raised_for tally.dropped user;
        }
    pub frees : answer < refusals → kept ≡ freed holds (place_of holds user number)
    pub refused_keeps : refusals ≤ answer → (counted ≡ tally) × (kept ≡ holds)
    pub continues :
        Continues book (record { user = user; call = Drop number })
        (record { ledger = ledger; tally = tally; holds = holds })
        (record { ledger = ledger; tally = counted; holds = kept })

-- pspec_arrive: the number is the new mask; blocks, number of rules and mask are one record
pub record ArriveSays (before after : Record) (block : Block) (answer : ℕ) : Type 0 where
  -- nothing is refused exactly when there is room for a rule, the block is one, and the book with it is accepted
  pub accepted : answer < refusals → ArriveAccepted before.blocks before.rules block
  pub accepts : ArriveAccepted before.blocks before.rules block → answer < refusals
  -- then the book has a rule more, zero bytes behind it, and the mask stands beside it
  pub blocks : answer < refusals → after.blocks ≡ laid (with_rule (book_in before.blocks before.rules) block)
  pub rules : answer < refusals → after.rules ≡ before.rules + 1
  pub mask : answer < refusals → after.marks ≡ answer
  -- set marks are kept, and every other mark is as Idle says
  pub marks : answer < refusals → Arrives before.blocks before.rules before.marks block answer
  -- a refusal changes nothing
  pub refused_keeps : refusals ≤ answer → after ≡ before
  -- after a list of edits from an accepted book with its marks, such as one without rules and a zero mask, this one is
  -- the next of the list, and the mask is Idle's for each rule
  pub continues : editing.Continues (Arrive block) before after

-- pspec_depart: the number is the new mask
pub record DepartSays (before after : Record) (r : ℕ) (answer : ℕ) : Type 0 where
  -- nothing is refused exactly when the number of rules is at most 32, the book is accepted and the rule is there
  pub accepted : answer < refusals → DepartAccepted before.blocks before.rules r
  pub accepts : DepartAccepted before.blocks before.rules r → answer < refusals
  -- then the book has a rule less, later ones moved down, zero bytes behind it, and the mask stands beside it
  pub blocks : answer < refusals → after.blocks ≡ laid (without_rule (book_in before.blocks before.rules) r)
  pub rules : answer < refusals → after.rules ≡ before.rules - 1
  pub mask : answer < refusals → after.marks ≡ answer
  -- clear marks are kept, and every other mark is as Idle says
  pub marks : answer < refusals → Departs before.blocks before.rules before.marks r answer
  pub refused_keeps : refusals ≤ answer → after ≡ before
  pub continues : editing.Continues (Depart r) before after

-- pspec_tree: the number is (nodes - 1) × 2^20 + the text's length
pub record TreeSays (book : Book) (plan : Plan) (row : ℕ) (before after : List ℕ) (answer : ℕ) : Type 0 where
  -- nothing is refused exactly when book and plan are accepted, the row is a value row and its tree fits
  pub accepted : answer < refusals → TreeAccepted book plan row before
  pub accepts : TreeAccepted book plan row before → answer < refusals
  -- the nodes and bytes of the text that is written
  pub draws : answer < refusals → Draws plan row before after (answer / 1048576 + 1) (answer % 1048576)
  -- otherwise the buffer is as it was
  pub refused_keeps : refusals ≤ answer → after ≡ before
