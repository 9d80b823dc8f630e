-- The papers' number of each refusal, and its place: "The place is the block", or the row; "Places not named are 0".
-- Assumes nothing.
use Rattle.std.specs.Prelude.{ℕ}
use Rattle.book.specs.declared.refusal.Refusal.{Refusal}
use Rattle.book.specs.declared.refusal.Refusal.TheVariants.{BookLength, BlockCheck, BlockKind, CountOrZero, ParentOrOwn}
use Rattle.book.specs.declared.refusal.Refusal.TheVariants.{LabelOrFunction, RuleNumber, SharedLeaf, MaskOperation}
use Rattle.book.specs.declared.refusal.Refusal.TheVariants.{BlockLength, NoUser, PlanLength, FaultyRow, WordCount, NoRule}
use Rattle.book.specs.declared.refusal.Refusal.TheVariants.{BufferLength, RuleForbids, LedgerLength, CountsFull}
use Rattle.book.specs.declared.refusal.Refusal.TheVariants.{NoValueRow, TreeSize, PlacesFull, NotHeld, RulesFull}

unfoldable pub number_of : Refusal → ℕ
number_of BookLength = 1
number_of (BlockCheck block) = 2
number_of (BlockKind block) = 3
number_of (CountOrZero block) = 4
number_of (ParentOrOwn block) = 5
number_of (LabelOrFunction block) = 6
number_of (RuleNumber block) = 7
number_of (SharedLeaf block) = 8
number_of (MaskOperation block) = 9
number_of BlockLength = 10
number_of NoUser = 20
number_of PlanLength = 21
number_of (FaultyRow row) = 22
number_of WordCount = 23
number_of NoRule = 24
number_of BufferLength = 25
number_of RuleForbids = 26
number_of LedgerLength = 27
number_of CountsFull = 28
number_of NoValueRow = 29
number_of TreeSize = 30
number_of PlacesFull = 31
number_of NotHeld = 32
number_of RulesFull = 33

unfoldable pub place_of : Refusal → ℕ
place_of BookLength = 0
place_of (BlockCheck block) = block
place_of (BlockKind block) = block
place_of (CountOrZero block) = block
place_of (ParentOrOwn block) = block
place_of (LabelOrFunction block) = block
place_of (RuleNumber block) = block
place_of (SharedLeaf block) = block
place_of (MaskOperation block) = block
place_of BlockLength = 0
place_of NoUser = 0
place_of PlanLength = 0
place_of (FaultyRow row) = row
place_of WordCount = 0
place_of NoRule = 0
place_of BufferLength = 0
place_of RuleForbids = 0
place_of LedgerLength = 0
place_of CountsFull = 0
place_of NoValueRow = 0
place_of TreeSize = 0
place_of PlacesFull = 0
place_of NotHeld = 0
place_of RulesFull = 0
