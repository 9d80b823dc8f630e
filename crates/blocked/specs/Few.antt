-- The few rules behind a block, as they are computed; what they are is Minimal.antt. Document 02, N6. Assumes nothing.
use Rattle.std.specs.Prelude.{ℕ, zero, suc, Bool, ◌&&◌, ◌||◌, not, cond, eqb, ltb}
use Rattle.book.specs.Lists.{up_to}
use Rattle.book.specs.Blocks.{Book, rule_count}
use Rattle.lineage.specs.Accesses.{word_of}
use Rattle.blocked.specs.Associations.{Pair}
use Rattle.blocked.specs.Open.{is_closed_under}

-- some rules "together with the asking rule"
unfoldable pub with_asking : (r : ℕ) (rules : ℕ → Bool) → ℕ → Bool
with_asking r rules q = eqb q r || rules q

-- "other rules": all of the book but the asking one
unfoldable pub others : (book : Book) (r : ℕ) → ℕ → Bool
others book r q = ltb q (rule_count book) && not (eqb q r)

-- rules less rule q
unfoldable pub without : (rules : ℕ → Bool) (q : ℕ) → ℕ → Bool
without rules q j = rules j && not (eqb j q)

-- "dropped by trial from the highest number down": what is left once the rules below n have been tried too, each
-- dropped where those left without it still pass
unfoldable pub after_trials : (passes : (ℕ → Bool) → Bool) (n : ℕ) (left : ℕ → Bool) → ℕ → Bool
after_trials passes zero left = left
after_trials passes (suc q) left =
    cond (passes (without left q)) (after_trials passes q (without left q)) (after_trials passes q left)

-- rules that, "together with the asking rule, still leave that association closed"
unfoldable pub leaves_closed : (book : Book) (r : ℕ) → Pair → (rules : ℕ → Bool) → Bool
leaves_closed book r p rules = is_closed_under book (with_asking r rules) p

-- those left of all other rules
unfoldable pub few_left : (book : Book) (r : ℕ) → Pair → ℕ → Bool
few_left book r p = after_trials (leaves_closed book r p) (rule_count book) (others book r)

-- "a mask of other rules"
unfoldable pub few_rules : (book : Book) (r : ℕ) → Pair → ℕ
few_rules book r p = word_of (few_left book r p) (up_to (rule_count book))
