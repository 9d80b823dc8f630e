-- The mask of the idle rules, and the masks that an arrival and a departure leave. Document 02, N11. Assumes nothing.
use Rattle.std.specs.Prelude.{ℕ, suc, Bool, true, false, ◌&&◌, ◌||◌, ltb}
use Rattle.book.specs.Lists.{up_to}
use Rattle.book.specs.Sets.{has}
use Rattle.book.specs.Blocks.{Book, rule_count}
use Rattle.lineage.specs.Accesses.{word_of}
use Rattle.search.specs.Alone.{First, none, shown, first_alone}
use Rattle.editing.specs.Books.{number_before}

unfoldable pub is_none : {A : Type 0} → First A → Bool
is_none none = true
is_none (shown x) = false

-- Idle calls rule r idle: no choice breaks it alone
unfoldable pub idle_at : Book → (r : ℕ) → Bool
idle_at book r = is_none (first_alone book r)

-- "the one that Idle gives afresh for each rule"
unfoldable pub marks_of : Book → ℕ
marks_of book = word_of (idle_at book) (up_to (rule_count book))

-- "an arrival keeps the set marks of the rules already there", of which there are n; "every other mark is Idle's
-- afresh", for the book with the new rule
unfoldable pub arrival_marks : (after : Book) (n marks : ℕ) → ℕ
arrival_marks after n marks = word_of (λ q. (ltb q n && has marks q) || idle_at after q) (up_to (suc n))

-- "a departure the clear marks of those that stay", moved down; "every other mark is Idle's afresh", for the book
-- without rule r
unfoldable pub departure_marks : (after : Book) (r marks : ℕ) → ℕ
departure_marks after r marks = word_of (λ q. has marks (number_before r q) && idle_at after q) (up_to (rule_count after))
