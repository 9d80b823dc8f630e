-- Laws of a rule's scope: its users and associations are listed in rising order, and the first closed one among them.
-- Assumes nothing.
use Prim.Native.Nat.{ℕ, zero, suc, ◌<◌}
use mathlib.Core.Path.{◌≡◌, refl}
use mathlib.Core.Logic.{◌⊎◌}
use mathlib.Core.Bool.{Bool, true, false, ◌&&◌, false≢true}
use mathlib.Core.List.Memᴰ
use mathlib.Core.List.{List, [], ◌∷◌, map, Memᴰ}
use lib.Dec.{ltb}
use borrow.Author.Tests.{eq-eqb}
use Rattle.book.specs.Lists.{all, up_to, keep}
use Rattle.book.specs.Blocks.{head_of, rule_at}
use Rattle.book.specs.Hierarchies.{covers}
use Rattle.book.specs.Head.{data_count, is_user, user_count, user_parent}
use Rattle.book.specs.Rule.{covers_user, excluded_users, reference_count, user_category}
use Rattle.book.proofs.Lists.{and_true, and_left, and_right, and_both, map_all, or_true}
use Rattle.verdicts.specs.Accesses.{fits}
use Rattle.verdicts.specs.Breaking.{choices_from}
use Rattle.verdicts.proofs.Accesses.{fits_bounds}
use Rattle.verdicts.proofs.Quantifiers.{flat_all}
use Rattle.verdicts.proofs.Users.{user_below}
use Rattle.search.specs.Obtainable.{labelled}
use Rattle.search.specs.Alone.{none, shown}
use Rattle.search.proofs.Rising.{all_member, first_nothing, first_something, flat_member, keep_member, keep_passes}
use Rattle.search.proofs.Rising.{map_every, none_first, rising, rising_flat, rising_keep, rising_map, shown_first}
use Rattle.search.proofs.Rising.{up_to_member, up_to_rising}
use Rattle.search.proofs.Orders.{choices_rising}
use Rattle.blocked.specs.Associations.{Datum, Pair, access_to, association_before, associations, datum_before}
use Rattle.blocked.specs.Associations.{every_datum, in_scope_at, is_association, is_association_from, pair_before}
use Rattle.blocked.specs.Associations.{same_datum, scope}
use Rattle.blocked.specs.Open.{first_closed, is_closed}
use Rattle.blocked.specs.Demand.{InScope}

-- Data by their parts

abbrev pub datum : ℕ → ℕ → Datum
datum s d = record { channel = s; leaf = d }

pub datum_self : (x : Datum) → same_datum x x ≡ true
unfolding same_datum
datum_self x = rw (eq-eqb x.channel x.channel refl, eq-eqb x.leaf x.leaf refl)

-- a user and an association by their parts
abbrev pub pair : ℕ → List Datum → Pair
pair u a = record { user = u; association = a }

-- The orders

-- by the first part that differs
module _ (x y : Datum) where
  pub before_action : ltb x.channel y.channel ≡ true → datum_before x y ≡ true
  unfolding datum_before
  before_action h = rw h

  pub before_leaf : x.channel ≡ y.channel → ltb x.leaf y.leaf ≡ true → datum_before x y ≡ true
  unfolding datum_before
  before_leaf e h = rw (eq-eqb x.channel y.channel e, h) (or_true (ltb x.channel y.channel))

pub before_first :
    (x y : Datum) (a b : List Datum) → datum_before x y ≡ true → association_before (x ∷ a) (y ∷ b) ≡ true
unfolding association_before
before_first x y a b h = rw h

pub before_rest :
    (x : Datum) (a b : List Datum) → association_before a b ≡ true → association_before (x ∷ a) (x ∷ b) ≡ true
unfolding association_before
before_rest x a b h = rw (datum_self x, h) (or_true (datum_before x x))

module _ (a b : List Datum) where
  pub before_user : (u v : ℕ) → ltb u v ≡ true → pair_before (pair u a) (pair v b) ≡ true
  unfolding pair_before
  before_user u v h = rw h

  pub before_association : (u : ℕ) → association_before a b ≡ true → pair_before (pair u a) (pair u b) ≡ true
  unfolding pair_before
  before_association u h = rw (eq-eqb u u refl, h) (or_true (ltb u u))

-- The lists are in rising order

pub data_rising : (head : List ℕ) → rising datum_before (every_datum head) ≡ true
unfolding every_datum
data_rising head =
    rising_flat datum_before ltb (λ s. map (datum s) (up_to (data_count head)))
    (λ s t l.
    map_every (λ x. all (datum_before x) (map (datum t) (up_to (data_count head)))) (datum s)
    (λ d.
    map_every (datum_before (datum s d)) (datum t) (λ e. before_action (datum s d) (datum t e) l)
    (up_to (data_count head)))
    (up_to (data_count head)))
    (λ s.
    rising_map datum_before ltb (datum s) (λ d e. before_leaf (datum s d) (datum s e) refl) (up_to (data_count head))
    (up_to_rising (data_count head)))
    (up_to 2) (up_to_rising 2)

module _ (head rule : List ℕ) where
  -- the data of a reference's scope
  data_at : ℕ → List Datum
  data_at i = keep (in_scope_at head rule i) (every_datum head)

  pub scope_rising : rising pair_before (scope head rule) ≡ true
  unfolding scope associations
  scope_rising =
      rising_flat pair_before ltb (λ u. map (pair u) (associations head rule))
      (λ u v l.
      map_every (λ p. all (pair_before p) (map (pair v) (associations head rule))) (pair u)
      (λ a. map_every (pair_before (pair u a)) (pair v) (λ b. before_user a b u v l) (associations head rule))
      (associations head rule))
      (λ u.
      rising_map pair_before association_before (pair u) (λ a b. before_association a b u) (associations head rule)
      (choices_rising datum_before association_before before_first before_rest (reference_count rule) 0
      (λ i. keep (in_scope_at head rule i) (every_datum head))
      (λ i. rising_keep datum_before (in_scope_at head rule i) (every_datum head) (data_rising head))))
      (keep (covers_user head rule) (up_to (user_count head)))
      (rising_keep ltb (covers_user head rule) (up_to (user_count head)) (up_to_rising (user_count head)))

  -- What is listed

  pub datum_bounds :
      (i : ℕ) (x : Datum) → in_scope_at head rule i x ≡ true → (x.channel < 2) × (x.leaf < data_count head)
  unfolding in_scope_at access_to
  datum_bounds i x h =
      fits_bounds head rule i (access_to x 0)
      (and_right (labelled head x.leaf) (fits head rule i (access_to x 0)) h)

  datum_listed : (i : ℕ) (x : Datum) → in_scope_at head rule i x ≡ true → Memᴰ x (data_at i)
  unfolding every_datum data_at
  datum_listed i x h =
      let bounds = datum_bounds i x h in
      keep_member (in_scope_at head rule i) (every_datum head) x
      (flat_member (λ s. map (datum s) (up_to (data_count head))) (up_to 2) x.channel x
      (up_to_member 2 x.channel bounds.0)
      (Memᴰ.map (datum x.channel) (up_to_member (data_count head) x.leaf bounds.1)))
      h

  associations_pass : (n i : ℕ) → all (is_association_from head rule n i) (choices_from n i data_at) ≡ true
  unfolding choices_from is_association_from all data_at
  associations_pass zero i = refl
  associations_pass (suc n) i =
      flat_all (is_association_from head rule (suc n) i) (λ x. map (λ a. x ∷ a) (choices_from n (suc i) data_at))
      (in_scope_at head rule i)
      (λ x h.
      map_all (is_association_from head rule (suc n) i) (λ a. x ∷ a) (is_association_from head rule n (suc i))
      (λ a q. and_true (in_scope_at head rule i x) (is_association_from head rule n (suc i) a) h q)
      (choices_from n (suc i) data_at) (associations_pass n (suc i)))
      (data_at i) (keep_passes (in_scope_at head rule i) (every_datum head))

  association_listed :
      (n i : ℕ) (a : List Datum)
      → is_association_from head rule n i a ≡ true
      → Memᴰ a (choices_from n i data_at)
  unfolding choices_from is_association_from
  association_listed zero i [] h = Memᴰ.head refl
  association_listed zero i (x ∷ a) h = absurd (false≢true h)
  association_listed (suc n) i [] h = absurd (false≢true h)
  association_listed (suc n) i (x ∷ a) h =
      let b = and_both (in_scope_at head rule i x) (is_association_from head rule n (suc i) a) h in
      flat_member (λ y. map (λ c. y ∷ c) (choices_from n (suc i) data_at)) (data_at i) x (x ∷ a)
      (datum_listed i x b.0) (Memᴰ.map (λ c. x ∷ c) (association_listed n (suc i) a b.1))

  in_scope : Pair → Bool
  in_scope p = covers_user head rule p.user && is_association head rule p.association

  scope_passes : all in_scope (scope head rule) ≡ true
  unfolding scope associations is_association in_scope data_at
  scope_passes =
      flat_all in_scope (λ u. map (pair u) (associations head rule)) (covers_user head rule)
      (λ u h.
      map_all in_scope (pair u) (is_association head rule)
      (λ a q. and_true (covers_user head rule u) (is_association head rule a) h q) (associations head rule)
      (associations_pass (reference_count rule) 0))
      (keep (covers_user head rule) (up_to (user_count head))) (keep_passes (covers_user head rule) (up_to (user_count head)))

  pub scope_parts :
      (p : Pair)
      → Memᴰ p (scope head rule)
      → (covers_user head rule p.user ≡ true) × (is_association head rule p.association ≡ true)
  unfolding in_scope
  scope_parts p m =
      and_both (covers_user head rule p.user) (is_association head rule p.association)
      (all_member in_scope (scope head rule) scope_passes p m)

  pub covers_user_law : (u : ℕ) → covers_user head rule u ≡ true → is_user head u ≡ true
  unfolding covers_user
  covers_user_law u h =
      and_left (is_user head u) (covers (user_parent head) (user_category rule) (excluded_users rule) u) h

  -- and back: what fits a reference has its numbers within the book, accepted or not
  pub scope_in :
      (p : Pair)
      → covers_user head rule p.user ≡ true
      → is_association head rule p.association ≡ true
      → Memᴰ p (scope head rule)
  unfolding scope associations is_association data_at
  scope_in p u h =
      flat_member (λ v. map (pair v) (associations head rule)) (keep (covers_user head rule) (up_to (user_count head)))
      p.user p
      (keep_member (covers_user head rule) (up_to (user_count head)) p.user
      (up_to_member (user_count head) p.user (user_below head p.user (covers_user_law p.user u))) u)
      (Memᴰ.map (pair p.user) (association_listed (reference_count rule) 0 p.association h))

-- The first closed one

module _ (book : List ℕ) (r : ℕ) where
  pub closed_none :
      ((p : Pair) → InScope (head_of book) (rule_at book r) p → is_closed book p ≡ false) → first_closed book r ≡ none
  unfolding first_closed
  closed_none h =
      none_first (is_closed book) (scope (head_of book) (rule_at book r))
      (λ p m.
      let q = scope_parts (head_of book) (rule_at book r) p m in
      h p (record { covered = q.0; association = q.1 }))

  pub closed_first :
      (p : Pair)
      → InScope (head_of book) (rule_at book r) p
      → is_closed book p ≡ true
      → ((d : Pair)
      → InScope (head_of book) (rule_at book r) d
      → pair_before d p ≡ true
      → is_closed book d ≡ false)
      → first_closed book r ≡ shown p
  unfolding first_closed
  closed_first p within h lower =
      let head = head_of book in
      let rule = rule_at book r in
      shown_first (is_closed book) pair_before (scope head rule) p (scope_rising head rule)
      (scope_in head rule p within.covered within.association) h
      (λ d m.
      let q = scope_parts head rule d m in
      lower d (record { covered = q.0; association = q.1 }))

  -- and back
  pub none_closed :
      first_closed book r ≡ none → (p : Pair) → InScope (head_of book) (rule_at book r) p → is_closed book p ≡ false
  unfolding first_closed
  none_closed e p within =
      let head = head_of book in
      let rule = rule_at book r in
      first_nothing (is_closed book) (scope head rule) e p (scope_in head rule p within.covered within.association)

  pub first_closed_law :
      (p : Pair)
      → first_closed book r ≡ shown p
      → InScope (head_of book) (rule_at book r) p
      × (is_closed book p ≡ true)
      × ((d : Pair)
      → InScope (head_of book) (rule_at book r) d
      → is_closed book d ≡ true
      → (d ≡ p) ⊎ (pair_before p d ≡ true))
  unfolding first_closed
  first_closed_law p e =
      let head = head_of book in
      let rule = rule_at book r in
      let s = first_something (is_closed book) pair_before (scope head rule) p (scope_rising head rule) e in
      let q = scope_parts head rule p s.0 in (
        record { covered = q.0; association = q.1 },
        s.1,
        λ d within. s.2 d (scope_in head rule d within.covered within.association),
      )
