-- Open and closed associations, under all rules or some, and the first closed one, as they are computed; what closed
-- means is Demand.antt. Document 02, N1 and N6. Assumes nothing.
use Rattle.std.specs.Prelude.{ℕ, Bool, true, ◌&&◌, not, List, [], ◌∷◌, map}
use Rattle.book.specs.Lists.{any, flat, up_to, keep}
use Rattle.book.specs.Blocks.{Book, Head, head_of, rule_at, rule_count}
use Rattle.verdicts.specs.Accesses.{Access, members}
use Rattle.verdicts.specs.Breaking.{breaks}
use Rattle.search.specs.Obtainable.{can_be_had}
use Rattle.search.specs.Alone.{First, first_in}
use Rattle.blocked.specs.Associations.{Datum, Pair, access_to, scope}

-- the choices of operations for an association: "Operations are those that can be had."
unfoldable pub operation_choices : Head → List Datum → List (List Access)
operation_choices head [] = [] ∷ []
operation_choices head (x ∷ association) =
    flat (λ k. map (λ c. access_to x k ∷ c) (operation_choices head association))
    (keep (λ k. can_be_had head (access_to x k)) (up_to 16))

-- some rule of the book that counts is broken by a user and the accesses chosen
unfoldable pub some_broken : (book : Book) (rules : ℕ → Bool) (user : ℕ) → List Access → Bool
some_broken book rules user choice =
    any (λ q. rules q && breaks (head_of book) (rule_at book q) user (members choice)) (up_to (rule_count book))

-- "admit[s] no choice of operations under which no rule is broken", of the rules that count
unfoldable pub is_closed_under : Book → (rules : ℕ → Bool) → Pair → Bool
is_closed_under book rules p =
    not (any (λ c. not (some_broken book rules p.user c)) (operation_choices (head_of book) p.association))

-- every rule of the book counts, the asking one too
abbrev pub is_closed : Book → Pair → Bool
is_closed book = is_closed_under book (λ q. true)

-- "The first such user and association is given"
unfoldable pub first_closed : (book : Book) (r : ℕ) → First Pair
first_closed book r = first_in (is_closed book) (scope (head_of book) (rule_at book r))
