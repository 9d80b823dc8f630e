-- What the search looks for, in the tables' terms: three places, one for each reference of rule r, the absent ones
-- first. No call's promise leans on this file. Assumes nothing.
use Rattle.std.specs.Prelude.{ℕ, ◌+◌, ◌/◌, ◌%◌, ◌<◌, ◌≡◌, Bool, true, false, ◌&&◌, ◌||◌, not, cond, List, Option, Some, None, get_or, eqb, ltb}
use Rattle.book.specs.Lists.{any, up_to}
use Rattle.book.specs.Sets.{has}
use Rattle.search.specs.Inner.Places.{in_places, nowhere, past_places}
use Rattle.search.specs.Inner.Table.{meets}
use Rattle.search.specs.Inner.Closing.{accepted_at, closes_at, closes, Within, Grown, Remaining}
use Rattle.search.specs.declared.places.Places.{Places}
use Rattle.search.specs.declared.tables.Question.{Question}
use Rattle.search.specs.declared.tables.RuleTable.{RuleTable}
use Rattle.search.specs.declared.users.Witness.{Witness}

-- what is said of a question's tables, its rule and its number of references
abbrev pub asked {ℓ} : {X : Type ℓ} → (List RuleTable → ℕ → ℕ → X) → Question → X
asked of ask = of ask.tables.now ask.rule ask.references

-- the reference that stands i-th, with absent ones first: of n references 0, 1, .. the last stands last
abbrev pub reference_at : ℕ → ℕ → ℕ
reference_at n i = (i + n) % 3

-- place p can be chosen for it
unfoldable pub candidate : List RuleTable → ℕ → ℕ → List ℕ → ℕ → ℕ → Bool
candidate t r n had i p =
    cond (ltb (reference_at n i) n)
    (ltb p nowhere && (has (get_or had (p / 64) 0) (p % 64) && meets t r (reference_at n i) p)) (eqb p nowhere)

-- some restriction of rule r accepts the three places
abbrev pub accepts : List RuleTable → ℕ → ℕ → ℕ → ℕ → ℕ → Bool
accepts t r n a y x = accepted_at t r (reference_at n 2) (reference_at n 0) (reference_at n 1) a y x

-- none does
unfoldable pub refuses : List RuleTable → ℕ → ℕ → ℕ → ℕ → ℕ → Bool
refuses t r n a y x = not (accepts t r n a y x)

-- the three places break rule q: one by itself, two of them with the first, or all
unfoldable pub drops : List RuleTable → ℕ → ℕ → ℕ → ℕ → Bool
drops t q a y x =
    (closes t q nowhere nowhere a || (closes t q nowhere nowhere y || closes t q nowhere nowhere x))
    || ((closes t q a nowhere y || closes t q a nowhere x) || closes t q a y x)

-- three places break r and none of a set of rules
unfoldable pub solves : List RuleTable → ℕ → ℕ → List ℕ → (ℕ → Bool) → ℕ → ℕ → ℕ → Bool
solves t r n had rules a y x =
    (candidate t r n had 0 a && (candidate t r n had 1 y && candidate t r n had 2 x))
    && (refuses t r n a y x && not (any (λ q. rules q && drops t q a y x) (up_to 32)))

-- the same of places in three sets, which hold nothing that breaks a rule by itself
unfoldable pub solves_in : List RuleTable → ℕ → ℕ → List ℕ → List ℕ → List ℕ → (ℕ → Bool) → ℕ → ℕ → ℕ → Bool
solves_in t r n firsts seconds thirds rules a y x =
    (in_places firsts a && (in_places seconds y && in_places thirds x))
    && (refuses t r n a y x
    && not
    (any (λ q. rules q && ((closes t q a nowhere y || closes t q a nowhere x) || closes t q a y x)) (up_to 32)))

-- the same for a first place f
unfoldable pub solves_first : List RuleTable → ℕ → ℕ → ℕ → List ℕ → List ℕ → (ℕ → Bool) → ℕ → ℕ → ℕ → Bool
solves_first t r n f seconds thirds rules a y x =
    (eqb a f && (in_places seconds y && in_places thirds x))
    && (refuses t r n a y x
    && not
    (any (λ q. rules q && ((closes t q a nowhere y || closes t q a nowhere x) || closes t q a y x)) (up_to 32)))

-- the same for a first place f and sets that hold nothing that breaks a rule beside it
unfoldable pub solves_beside : List RuleTable → ℕ → ℕ → ℕ → List ℕ → List ℕ → (ℕ → Bool) → ℕ → ℕ → ℕ → Bool
solves_beside t r n f seconds thirds rules a y x =
    (eqb a f && (in_places seconds y && in_places thirds x))
    && (refuses t r n a y x && not (any (λ q. rules q && closes t q a y x) (up_to 32)))

-- the same for a first place f and a second place s
unfoldable pub solves_pair : List RuleTable → ℕ → ℕ → ℕ → ℕ → List ℕ → (ℕ → Bool) → ℕ → ℕ → ℕ → Bool
solves_pair t r n f s thirds rules a y x =
    (eqb a f && (eqb y s && in_places thirds x))
    && (refuses t r n a y x && not (any (λ q. rules q && closes t q a y x) (up_to 32)))

-- document 01's order of choices
unfoldable pub triple_before : ℕ → ℕ → ℕ → ℕ → ℕ → ℕ → Bool
triple_before a y x b z w = ltb a b || (eqb a b && (ltb y z || (eqb y z && ltb x w)))

-- the first three places, in some order, that pass a test
pub record Earliest (before : ℕ → ℕ → ℕ → ℕ → ℕ → ℕ → Bool) (test : ℕ → ℕ → ℕ → Bool) (a y x : ℕ) : Type 0 where
  pub solution : test a y x ≡ true
  pub earliest : (b z w : ℕ) → before b z w a y x ≡ true → test b z w ≡ false

-- in document 01's order
abbrev pub Solved : (ℕ → ℕ → ℕ → Bool) → ℕ → ℕ → ℕ → Type 0
Solved = Earliest triple_before

-- a set of rules, marked before or among the ones given, that no three places pass
pub record Unsolved (test : (ℕ → Bool) → ℕ → ℕ → ℕ → Bool) (rules before marked : ℕ → Bool) : Type 0 where
  pub more : Within before marked
  pub only : Grown rules before marked
  pub none : (a y x : ℕ) → test marked a y x ≡ false

-- what a search answers that began with some rules marked and ends with more
unfoldable pub Searched : ((ℕ → Bool) → ℕ → ℕ → ℕ → Bool) → ℕ → ℕ → ℕ → Option Places → Type 0
Searched test rules before marked (Some found) = Solved (test (has rules)) found.first found.second found.third
Searched test rules before marked None = Unsolved test (has rules) (has before) (has marked)

-- what it answers that is given marked rules which are among the rules
abbrev pub SearchedSince : ((ℕ → Bool) → ℕ → ℕ → ℕ → Bool) → ℕ → ℕ → ℕ → Option Places → Type 0
SearchedSince test rules before marked found = Within (has before) (has rules) → Searched test rules before marked found

-- the last reference's places beside the two before
pub record Thirds (t : List RuleTable) (r n rules a y : ℕ) (before after : Remaining) : Type 0 where
  pub within : (x : ℕ) → x < past_places → in_places after.places x ≡ true → in_places before.places x ≡ true
  pub refused : (x : ℕ) → x < past_places → in_places after.places x ≡ true → refuses t r n a y x ≡ true
  pub passed :
      (x q : ℕ)
      → x < past_places
      → q < 32
      → in_places after.places x ≡ true
      → has rules q ≡ true
      → closes t q a y x ≡ false
  pub gone :
      (x : ℕ)
      → x < past_places
      → in_places before.places x ≡ true
      → refuses t r n a y x ≡ true
      → in_places after.places x ≡ false
      → any (λ q. has after.rules q && closes t q a y x) (up_to 32) ≡ true
  pub more : Within (has before.rules) (has after.rules)
  pub only : Grown (has rules) (has before.rules) (has after.rules)

-- the places that can be chosen for the i-th reference, less what breaks a rule by itself
pub record Possible (t : List RuleTable) (r n : ℕ) (had : List ℕ) (rules i seen : ℕ) (after : Remaining) : Type 0 where
  pub within : (p : ℕ) → p < past_places → in_places after.places p ≡ true → candidate t r n had i p ≡ true
  pub passed :
      (p q : ℕ)
      → p < past_places
      → q < 32
      → in_places after.places p ≡ true
      → has rules q ≡ true
      → closes t q nowhere nowhere p ≡ false
  pub gone :
      (p : ℕ)
      → p < past_places
      → candidate t r n had i p ≡ true
      → in_places after.places p ≡ false
      → any (λ q. has after.rules q && closes t q nowhere nowhere p) (up_to 32) ≡ true
  pub more : Within (has seen) (has after.rules)
  pub only : Grown (has rules) (has seen) (has after.rules)

-- Second places that one rule settles

-- the places of a set with none of r's own operations meet reference i of rule q, with none of the others: q takes them
abbrev pub TakesAll : List RuleTable → ℕ → ℕ → List ℕ → ℕ → ℕ → Type 0
TakesAll t q i thirds own other =
    (x : ℕ)
    → x < past_places
    → in_places thirds x ≡ true
    → has own (x % 64) ≡ false
    → (meets t q i x && not (has other (x % 64))) ≡ true

-- beside a second place at l with a at k it takes at i every third place that r refuses
abbrev pub SettledBeside : List RuleTable → ℕ → ℕ → ℕ → ℕ → ℕ → ℕ → ℕ → List ℕ → ℕ → Type 0
SettledBeside t r n q i k l a thirds y =
    (x : ℕ)
    → x < past_places
    → in_places thirds x ≡ true
    → refuses t r n a y x ≡ true
    → (meets t q i x && not (accepted_at t q i k l a y x)) ≡ true

-- operations of a second place beside which it does
abbrev pub SettledWith : List RuleTable → ℕ → ℕ → ℕ → ℕ → ℕ → ℕ → ℕ → List ℕ → ℕ → Type 0
SettledWith t r n q i k l a thirds operations =
    (y : ℕ) → has operations (y % 64) ≡ true → SettledBeside t r n q i k l a thirds y

-- second places are gone beside which every third place that r refuses is taken
pub record Settled
    (t : List RuleTable)
    (r n a : ℕ)
    (thirds : List ℕ)
    (taken : ℕ → ℕ → Bool)
    (before after : List ℕ)
    : Type 0 where
  pub within : (y : ℕ) → y < past_places → in_places after y ≡ true → in_places before y ≡ true
  pub gone :
      (y x : ℕ)
      → y < past_places
      → x < past_places
      → in_places before y ≡ true
      → in_places after y ≡ false
      → in_places thirds x ≡ true
      → refuses t r n a y x ≡ true
      → taken y x ≡ true

-- by rule q, with the third place at i, a at k and the second place at l
abbrev pub SettledAt : List RuleTable → ℕ → ℕ → ℕ → ℕ → ℕ → ℕ → ℕ → List ℕ → List ℕ → List ℕ → Type 0
SettledAt t r n q i k l a thirds = Settled t r n a thirds (λ y x. meets t q i x && closes_at t q i k l a y x)

-- by a rule that is marked
pub record SettledBy
    (t : List RuleTable)
    (r n rules a : ℕ)
    (thirds seconds : List ℕ)
    (seen : ℕ)
    (after : Remaining)
    : Type 0 where
  pub settled :
      Settled t r n a thirds (λ y x. any (λ q. has after.rules q && closes t q a y x) (up_to 32)) seconds
      after.places
  pub more : Within (has seen) (has after.rules)
  pub only : Grown (has rules) (has seen) (has after.rules)

-- Users

-- rule q covers user u; `covered` has for each rule the users that it covers
abbrev pub covers_in : List ℕ → ℕ → ℕ → Bool
covers_in covered q u = has (get_or covered q 0) u

-- the rules other than r that cover user u
unfoldable pub others_for : ℕ → List ℕ → ℕ → ℕ → Bool
others_for r covered u q = covers_in covered q u && not (eqb q r)

-- rule r covers user u, and three places break it and none of the others that do
unfoldable pub solves_for : List RuleTable → ℕ → ℕ → List ℕ → List ℕ → ℕ → ℕ → ℕ → ℕ → Bool
solves_for t r n had covered u a y x = covers_in covered r u && solves t r n had (others_for r covered u) a y x

-- a mask with bit 63 says nothing; any other is a set of rules that leaves no three places
abbrev pub Settles : List RuleTable → ℕ → ℕ → List ℕ → ℕ → Type 0
Settles t r n had mask = has mask 63 ≡ false → (a y x : ℕ) → solves t r n had (has mask) a y x ≡ false

abbrev pub AllSettle : List RuleTable → ℕ → ℕ → List ℕ → List ℕ → Type 0
AllSettle t r n had masks = (i : ℕ) → i < 32 → Settles t r n had (get_or masks i 0)

-- what the search for one user answers, with a mask
unfoldable pub SearchedFor : List RuleTable → ℕ → ℕ → List ℕ → List ℕ → ℕ → ℕ → Option Places → Type 0
SearchedFor t r n had covered u mask (Some found) =
    Solved (solves_for t r n had covered u) found.first found.second found.third
SearchedFor t r n had covered u mask None =
    ((a y x : ℕ) → solves_for t r n had covered u a y x ≡ false) × Settles t r n had mask

-- the first user, and for it the first three places in some order
pub record NeedsUser
    (before : ℕ → ℕ → ℕ → ℕ → ℕ → ℕ → Bool)
    (t : List RuleTable)
    (r n : ℕ)
    (had covered : List ℕ)
    (u a y x : ℕ)
    : Type 0 where
  pub below : u < 32
  pub found : Earliest before (solves_for t r n had covered u) a y x
  pub users : (v b z w : ℕ) → v < u → solves_for t r n had covered v b z w ≡ false

unfoldable pub NeedsFirst :
    (ℕ → ℕ → ℕ → ℕ → ℕ → ℕ → Bool) → List RuleTable → ℕ → ℕ → List ℕ → List ℕ → Option Witness → Type 0
NeedsFirst before t r n had covered None = (u a y x : ℕ) → u < 32 → solves_for t r n had covered u a y x ≡ false
NeedsFirst before t r n had covered (Some w) =
    NeedsUser before t r n had covered w.user w.places.first w.places.second w.places.third
