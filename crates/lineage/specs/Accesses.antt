-- The accesses of a plan: (s, d, k), s being 0 for projection and 1 for condition, d a label, k an operation.
-- Document 01, "Plans and lineage", its last sentences. Assumes nothing.
use Rattle.std.specs.Prelude.{ℕ, ◌+◌, ◌^◌, ◌/◌, ◌%◌, Bool, false, ◌&&◌, cond, List, [], ◌∷◌, map, eqb}
use Rattle.book.specs.Lists.{any, up_to}
use Rattle.book.specs.Blocks.{Head}
use Rattle.lineage.specs.Rows.{Plan}
use Rattle.lineage.specs.Rows.{Kind, Column, Apply, Choose, Output, Condition, Unknown, kind_at, row_a, row_count}
use Rattle.lineage.specs.Paths.{paths, carries}

-- some path of row i carries label d with operation k
unfoldable pub reaches : (head : Head) (plan : Plan) (row label operation : ℕ) → Bool
reaches head plan i d k = any (carries head d k) (paths plan i)

-- "An Output row gives the accesses (projection, label, operation) of every path from its row. A Condition row gives
-- them as condition, and so does a of every Choose, used or not."
unfoldable pub gives : Kind → (channel : ℕ) → Bool
gives Column s = false
gives Apply s = false
gives Choose s = eqb s 1
gives Output s = eqb s 0
gives Condition s = eqb s 1
gives Unknown s = false

unfoldable pub is_access : (head : Head) (plan : Plan) (channel label operation : ℕ) → Bool
is_access head plan s d k =
    any (λ i. gives (kind_at plan i) s && reaches head plan (row_a plan i) d k) (up_to (row_count plan))

-- the word of the numbers of a list that pass f
unfoldable pub word_of : (ℕ → Bool) → List ℕ → ℕ
word_of f [] = 0
word_of f (d ∷ ds) = cond (f d) (2 ^ d) 0 + word_of f ds

-- "bit d of word 16 × s + k is set exactly when (s, d, k) is an access"
unfoldable pub access_words : Head → Plan → List ℕ
access_words head plan = map (λ w. word_of (λ d. is_access head plan (w / 16) d (w % 16)) (up_to 64)) (up_to 32)
