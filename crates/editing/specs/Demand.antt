-- N11, over the definitions of paths and rules and not over the search: that no arrival makes an idle rule needed and no
-- departure a needed rule idle, what the mask of an accepted edit says, and what holds after every list of edits.
-- Document 02. Assumes nothing.
use Rattle.std.specs.Prelude.{ℕ, ◌≤◌, ◌<◌, ◌≡◌, true, false, List, ◌∷◌, length}
use Rattle.book.specs.Sets.{has}
use Rattle.book.specs.Blocks.{Book, Block, head_of, rule_count}
use Rattle.book.specs.Head.{is_user}
use Rattle.book.specs.Refusals.{BookAccepted}
use Rattle.lineage.specs.Rows.{Plan}
use Rattle.lineage.specs.Answers.{PlanAccepted}
use Rattle.search.specs.Alone.{plan_breaks_alone}
use Rattle.search.specs.Answers.{idle, idle_answer}
use Rattle.search.specs.Demand.{NobodyAlone}
use Rattle.editing.specs.Books.{with_rule, without_rule, number_before}
use Rattle.editing.specs.Marks.{marks_of}
use Rattle.editing.specs.Record.{Record, Blocks, book_in, laid}
use Rattle.editing.specs.Edits.{Edit, Arrive, Fresh, Marked, edited, record_after, book_after}

-- The two sentences

-- a needed rule: a user and an accepted plan break it alone
pub record Needed (book : Book) (r : ℕ) : Type 0 where
  pub user : ℕ
  pub plan : Plan
  pub a_user : is_user (head_of book) user ≡ true
  pub accepted : PlanAccepted (head_of book) plan
  pub alone : plan_breaks_alone book r user plan ≡ true

-- "No arrival makes an idle rule needed"
abbrev pub ArrivalKeepsIdle : Type 0
ArrivalKeepsIdle =
    (book : Book) (block : Block)
    → length block ≡ 512
    → BookAccepted (with_rule book block)
    → (q : ℕ)
    → q < rule_count book
    → NobodyAlone book q
    → NobodyAlone (with_rule book block) q

-- "no departure makes a needed rule idle"
abbrev pub DepartureKeepsNeeded : Type 0
DepartureKeepsNeeded =
    (book : Book) (r : ℕ)
    → BookAccepted book
    → r < rule_count book
    → (q : ℕ)
    → q < rule_count (without_rule book r)
    → Needed book (number_before r q)
    → Needed (without_rule book r) q

-- One edit, with any mask

-- a mark is as Idle says
pub record MarkTells (book : Book) (q : ℕ) (marks : ℕ) : Type 0 where
  pub set_idle : has marks q ≡ true → NobodyAlone book q
  pub idle_set : NobodyAlone book q → has marks q ≡ true

-- what an arrival has to be given
pub record ArriveAccepted (blocks : Blocks) (rules : ℕ) (block : Block) : Type 0 where
  pub room : rules < 32
  pub long : length block ≡ 512
  pub book_accepted : BookAccepted (with_rule (book_in blocks rules) block)

-- the mask that it leaves
pub record Arrives (blocks : Blocks) (rules marks : ℕ) (block : Block) (left : ℕ) : Type 0 where
  -- "an arrival keeps the set marks of the rules already there [..] even in a mask handed in wrong"
  pub keeps : (q : ℕ) → q < rules → has marks q ≡ true → has left q ≡ true
  -- "every other mark is Idle's afresh": those that were clear, and that of the new rule
  pub afresh :
      (q : ℕ) → q < rules → has marks q ≡ false → MarkTells (with_rule (book_in blocks rules) block) q left
  pub new : MarkTells (with_rule (book_in blocks rules) block) rules left
  -- "An accepted edit clears the bits past the last rule"
  pub past : (q : ℕ) → rules < q → has left q ≡ false

-- what a departure has to be given
pub record DepartAccepted (blocks : Blocks) (rules r : ℕ) : Type 0 where
  pub few : rules ≤ 32
  pub book_accepted : BookAccepted (book_in blocks rules)
  pub rule_there : r < rule_count (book_in blocks rules)

pub record Departs (blocks : Blocks) (rules marks r : ℕ) (left : ℕ) : Type 0 where
  -- "a departure [keeps] the clear marks of those that stay, even in a mask handed in wrong"
  pub keeps : (q : ℕ) → has marks (number_before r q) ≡ false → has left q ≡ false
  -- "every other mark is Idle's afresh"
  pub afresh :
      (q : ℕ)
      → q < rule_count (without_rule (book_in blocks rules) r)
      → has marks (number_before r q) ≡ true
      → MarkTells (without_rule (book_in blocks rules) r) q left
  pub past : (q : ℕ) → rule_count (without_rule (book_in blocks rules) r) ≤ q → has left q ≡ false

-- Every list of edits

-- the book that a list makes of the one that it begins with
abbrev pub made : (start : Record) → List Edit → Book
made start list = book_after (book_in start.blocks start.rules) list

-- of the record that a list leaves, and of the book that it makes
pub record Promise (start : Record) (list : List Edit) (s : Record) : Type 0 where
  -- "The book lies at the front of a record of 36 blocks [..] with its number of rules beside"
  pub holds : book_in s.blocks s.rules ≡ made start list
  pub whole : length s.blocks ≡ 18432
  pub accepted : BookAccepted (made start list)
  pub counted : s.rules ≡ rule_count (made start list)
  -- "zero bytes behind it", if they were so at the start
  pub behind : start.blocks ≡ laid (book_in start.blocks start.rules) → s.blocks ≡ laid (made start list)
  -- "the mask is the one that Idle gives afresh for each rule"
  pub mask : s.marks ≡ marks_of (made start list)
  -- rule by rule: a mark is set exactly when no user and accepted plan break the rule alone, and when the call says so
  pub marks : (r : ℕ) → r < s.rules → MarkTells (made start list) r s.marks
  pub set_call :
      (r : ℕ) (buffer : List ℕ)
      → r < s.rules
      → 36 ≤ length buffer
      → has s.marks r ≡ true
      → idle_answer (made start list) r buffer ≡ idle
  pub call_set :
      (r : ℕ) (buffer : List ℕ)
      → r < s.rules
      → 36 ≤ length buffer
      → idle_answer (made start list) r buffer ≡ idle
      → has s.marks r ≡ true
  pub past : (r : ℕ) → s.rules ≤ r → has s.marks r ≡ false

-- "After every list of such edits, from an accepted book without rules and a zero mask"
abbrev pub EveryList : Type 0
EveryList = (start : Record) (list : List Edit) → Fresh start → Promise start list (record_after start list)

-- the same from any accepted book with its marks
abbrev pub EveryListFromMarked : Type 0
EveryListFromMarked = (start : Record) (list : List Edit) → Marked start → Promise start list (record_after start list)

-- that this takes in the request's own beginning
abbrev pub FreshIsMarked : Type 0
FreshIsMarked = (s : Record) → Fresh s → Marked s

-- how a book with rules is opened: without its last one and with a zero mask it is handed in, and that one arrives
abbrev pub OpenedIsMarked : Type 0
OpenedIsMarked =
    (blocks : Blocks) (rules : ℕ) (block : Block)
    → length blocks ≡ 18432
    → ArriveAccepted blocks rules block
    → Marked (edited (record { blocks = blocks; rules = rules; marks = 0 }) (Arrive block))

-- an edit of what a list has left is the next of that list
abbrev pub Continues : (e : Edit) (before after : Record) → Type 0
Continues e before after =
    (start : Record) (list : List Edit)
    → Marked start
    → record_after start list ≡ before
    → (record_after start (e ∷ list) ≡ after) × Promise start (e ∷ list) after
