-- Associations in the scope of a rule, and their order. Document 02, N1. Assumes nothing.
use Rattle.std.specs.Prelude.{ℕ, zero, suc, Bool, true, false, ◌&&◌, ◌||◌, List, [], ◌∷◌, map, eqb, ltb}
use Rattle.book.specs.Lists.{flat, up_to, keep}
use Rattle.book.specs.Blocks.{Head, Rule}
use Rattle.book.specs.Head.{data_count, user_count}
use Rattle.book.specs.Rule.{covers_user, reference_count}
use Rattle.verdicts.specs.Accesses.{Access, fits}
use Rattle.verdicts.specs.Breaking.{choices_from}
use Rattle.search.specs.Obtainable.{labelled}

-- an action, 0 projection or 1 condition, and a leaf
pub record Datum : Type 0 where
  pub channel : ℕ
  pub leaf : ℕ

-- what an access is to, whatever its operation; and the access to it with an operation
unfoldable pub datum_of : Access → Datum
datum_of x = record { channel = x.channel; leaf = x.leaf }

unfoldable pub access_to : Datum → (operation : ℕ) → Access
access_to x k = record { channel = x.channel; leaf = x.leaf; operation = k }

-- "one covered leaf that some column carries, and one fitting action": whether an access fits is no matter of its
-- operation
unfoldable pub in_scope_at : (head : Head) (rule : Rule) (reference : ℕ) → Datum → Bool
in_scope_at head rule i x = labelled head x.leaf && fits head rule i (access_to x 0)

-- "for each reference": one for each of n references, reference i first
unfoldable pub is_association_from : Head → Rule → (n i : ℕ) → List Datum → Bool
is_association_from head rule zero i [] = true
is_association_from head rule zero i (x ∷ association) = false
is_association_from head rule (suc n) i [] = false
is_association_from head rule (suc n) i (x ∷ association) =
    in_scope_at head rule i x && is_association_from head rule n (suc i) association

-- "an association in its scope"
unfoldable pub is_association : Head → Rule → List Datum → Bool
is_association head rule association = is_association_from head rule (reference_count rule) 0 association

-- a user and an association
pub record Pair : Type 0 where
  pub user : ℕ
  pub association : List Datum

-- The order

-- "by action and leaf"
unfoldable pub datum_before : Datum → Datum → Bool
datum_before x y = ltb x.channel y.channel || (eqb x.channel y.channel && ltb x.leaf y.leaf)

unfoldable pub same_datum : Datum → Datum → Bool
same_datum x y = eqb x.channel y.channel && eqb x.leaf y.leaf

-- "reference by reference"
unfoldable pub association_before : List Datum → List Datum → Bool
association_before [] b = false
association_before (x ∷ a) [] = false
association_before (x ∷ a) (y ∷ b) = datum_before x y || (same_datum x y && association_before a b)

-- "ordered by user, then [..]"
unfoldable pub pair_before : Pair → Pair → Bool
pair_before p q =
    ltb p.user q.user
    || (eqb p.user q.user && association_before p.association q.association)

-- All of them, in that order

unfoldable pub every_datum : Head → List Datum
every_datum head =
    flat (λ s. map (λ d. record { channel = s; leaf = d }) (up_to (data_count head))) (up_to 2)

unfoldable pub associations : Head → Rule → List (List Datum)
associations head rule =
    choices_from (reference_count rule) 0 (λ i. keep (in_scope_at head rule i) (every_datum head))

-- "some covered user and some association in its scope"
unfoldable pub scope : Head → Rule → List Pair
scope head rule =
    flat (λ u. map (λ a. record { user = u; association = a }) (associations head rule))
    (keep (covers_user head rule) (up_to (user_count head)))
