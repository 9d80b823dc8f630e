-- Which rules are idle, by the tables and by the book. No call's promise leans on this file. Assumes nothing.
use Rattle.std.specs.Prelude.{ℕ, ◌≡◌, ◌<◌, ◌&&◌, List, ltb}
use Rattle.book.specs.Sets.{has}
use Rattle.book.specs.Blocks.{Book, head_of, rule_at, rule_count}
use Rattle.book.specs.Refusals.{BookAccepted}
use Rattle.book.specs.Inner.Words.{HeadWords}
use Rattle.book.specs.declared.words.Words.{Words}
use Rattle.verdicts.specs.Inner.Words.{RuleSound}
use Rattle.search.specs.Inner.Table.{TableHolds, HadHolds, CoversHold}
use Rattle.search.specs.declared.tables.RuleTable.{RuleTable}
use Rattle.editing.specs.Marks.{idle_at}

-- the words of the head of an accepted book
pub record WordsOf (book : Book) (words : Words) : Type 0 where
  pub held : HeadWords (head_of book) words
  pub accepted : BookAccepted book

-- the tables, the accesses that can be had and the users covered are those of a book
pub record TablesOf (book : Book) (t : List RuleTable) (had covered : List ℕ) : Type 0 where
  pub sound : (q : ℕ) → q < rule_count book → RuleSound (head_of book) (rule_at book q)
  pub tables : TableHolds book (rule_count book) t
  pub hads : HadHolds (head_of book) had
  pub covers : CoversHold book (rule_count book) covered

-- the idle ones of the rules asked about
abbrev pub IdleAmong : (book : Book) (asked n marks : ℕ) → Type 0
IdleAmong book asked n marks = (q : ℕ) → has marks q ≡ (ltb q n && (has asked q && idle_at book q))
