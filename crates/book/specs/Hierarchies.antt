-- Hierarchies of categories, once for users and for data: a number of categories and the parent of each.
-- Document 01, "The book and its blocks", its last paragraph; support is document 02's, N9. Assumes nothing.
use Rattle.std.specs.Prelude.{ℕ, zero, suc, Bool, true, false, ◌&&◌, ◌||◌, not, List, [], ◌∷◌, eqb, ltb}
use Rattle.std.specs.Int.Bits.{bit_or}
use Rattle.book.specs.Lists.{all, any, up_to}
use Rattle.book.specs.Sets.{less}

-- `upward` with at most `steps` steps
unfoldable pub upward_in : ℕ → (ℕ → ℕ) → ℕ → List ℕ
upward_in zero parent c = c ∷ []
upward_in (suc steps) parent c =
    c ∷ elim (ltb (parent c) c) as (λ b. List ℕ) [ true ↦ upward_in steps parent (parent c) | false ↦ [] ]

-- category c, its parent, the parent of that one, and so on. A parent is lower than its child, and the root has none,
-- so there are at most c steps.
unfoldable pub upward : (ℕ → ℕ) → ℕ → List ℕ
upward parent c = upward_in c parent c

-- category i is c or a descendant of c
unfoldable pub under : (ℕ → ℕ) → ℕ → ℕ → Bool
under parent c i = any (eqb c) (upward parent i)

-- "A leaf is a category that no other category names as parent; a root on its own is a leaf."
unfoldable pub leaf : ℕ → (ℕ → ℕ) → ℕ → Bool
leaf count parent c = ltb c count && all (λ j. eqb j c || not (eqb (parent j) c)) (up_to count)

-- "A category covers itself and its descendants, less each excluded category with its descendants."
unfoldable pub covers : (ℕ → ℕ) → ℕ → List ℕ → ℕ → Bool
covers parent c excluded i = under parent c i && not (any (λ e. under parent e i) excluded)

-- "An excluded category is a proper descendant of the one referred to."
unfoldable pub proper_descendant : ℕ → (ℕ → ℕ) → ℕ → ℕ → Bool
proper_descendant count parent c x = ltb x count && (not (eqb x c) && under parent c x)

-- what the first category of a way up supports: the next is its parent, and above the root there is none
unfoldable pub support_along : (own withdrawn : ℕ → ℕ) → List ℕ → ℕ
support_along own withdrawn [] = 0
support_along own withdrawn (c ∷ above) = bit_or (less (support_along own withdrawn above) (withdrawn c)) (own c)

-- "A category supports what its parent supports, less the withdrawn ones, plus its own" (N9); "the root has only its
-- own"
unfoldable pub support : (parent own withdrawn : ℕ → ℕ) → ℕ → ℕ
support parent own withdrawn c = support_along own withdrawn (upward parent c)

-- "it is below i, and 0 for category 0, the root"
unfoldable pub parent_holds : (ℕ → ℕ) → ℕ → Bool
parent_holds parent zero = eqb (parent 0) 0
parent_holds parent (suc i) = ltb (parent (suc i)) (suc i)
