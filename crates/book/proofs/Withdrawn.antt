-- Document 02, N9: what the support of a category is, for blocks of both kinds together, and that for kind 2 it is what
-- document 01 says. Assumes nothing.
use Prim.Native.Nat.{ℕ, zero, suc, ◌+◌, ◌*◌, ◌≤◌, ◌<◌}
use native.Mathlib.Omega.{arith}
use mathlib.Core.Path.{◌≡◌, refl, sym, ◌∙◌}
use mathlib.Core.Bool.{Bool, true, false, ◌&&◌, ◌||◌, not, cond}
use mathlib.Core.List.{List, [], ◌∷◌}
use lib.ListN.{get_or}
use lib.Dec.{ltb}
use lib.Bits.{bit_or, or_comm, and_comm}
use borrow.Author.Tests.{ltb-true, le-ltb, lt-ltb}
use Rattle.book.specs.Lists.{all, up_to}
use Rattle.book.specs.Sets.{has, less}
use Rattle.book.specs.Hierarchies.{upward, support_along, support, parent_holds}
use Rattle.book.specs.Head.{has_withdrawn, data_count, category_start, data_parent, own_operations, withdrawn_operations}
use Rattle.book.specs.Head.{support_of, supports}
use Rattle.book.specs.Refusals.{between, zeros, data_counted, own_holds, data_ordered}
use Rattle.book.proofs.Lists.{and_end, and_false, or_true, all_same}
use Rattle.book.proofs.Members.{less_none, has_zero, has_or, has_and, has_cond, has_less, none_less, none_or}
use Rattle.book.proofs.Hierarchies.{support_up}
use Rattle.book.proofs.Accepted.{HeadHolds}

-- Both kinds together

module _ (head : List ℕ) where
  -- "A category supports what its parent supports, less the withdrawn ones, plus its own."
  pub by_parent :
      (d : ℕ)
      → data_parent head d < d
      → support_of head d
      ≡ bit_or (less (support_of head (data_parent head d)) (withdrawn_operations head d)) (own_operations head d)
  unfolding support_of
  by_parent d l =
      support_up (data_parent head) (own_operations head) (withdrawn_operations head) d
      ∙ rw (lt-ltb (data_parent head d) d l)

  -- "the root has only its own", whatever it withdraws
  pub root_own : support_of head 0 ≡ own_operations head 0
  unfolding support_of
  root_own =
      support_up (data_parent head) (own_operations head) (withdrawn_operations head) 0
      ∙ rw (
        le-ltb (data_parent head 0) 0 (omega arith),
        none_less (withdrawn_operations head 0),
        none_or (own_operations head 0),
      )

  -- the same, operation by operation
  pub supports_by :
      (d k : ℕ)
      → supports head d k
      ≡ (((ltb (data_parent head d) d && supports head (data_parent head d) k) && not (has (withdrawn_operations head d) k))
      || has (own_operations head d) k)
  unfolding supports support_of
  supports_by d k =
      rw (
        support_up (data_parent head) (own_operations head) (withdrawn_operations head) d,
        has_or _ (own_operations head d) k,
        has_less _ (withdrawn_operations head d) k,
        has_cond (ltb (data_parent head d) d) _ k,
      )

  -- an own operation is never lost
  pub own_supported : (d k : ℕ) → has (own_operations head d) k ≡ true → supports head d k ≡ true
  own_supported d k h =
      supports_by d k
      ∙ rw h
      (or_true
      ((ltb (data_parent head d) d && supports head (data_parent head d) k) && not (has (withdrawn_operations head d) k)))

  -- what the parent does not support a category has as its own or not at all: what is withdrawn stays so below
  pub stays_withdrawn :
      (d k : ℕ)
      → supports head (data_parent head d) k ≡ false
      → has (own_operations head d) k ≡ false
      → supports head d k ≡ false
  stays_withdrawn d k above own = supports_by d k ∙ rw (above, own, and_false (ltb (data_parent head d) d))

  -- an accepted book has no operation in both masks, so what a category withdraws it does not support
  pub withdrawn_unsupported :
      HeadHolds head
      → (d k : ℕ)
      → d < data_count head
      → has (withdrawn_operations head d) k ≡ true
      → supports head d k ≡ false
  withdrawn_unsupported held d k l h =
      supports_by d k
      ∙ rw (h, own (has (own_operations head d) k) refl, and_false (ltb (data_parent head d) d && supports head (data_parent head d) k))
    where
      both : (has (own_operations head d) k && has (withdrawn_operations head d) k) ≡ false
      both =
          sym (has_and (own_operations head d) (withdrawn_operations head d) k)
          ∙ rw (held.masks_apart d l, has_zero k)

      own : (b : Bool) → has (own_operations head d) k ≡ b → has (own_operations head d) k ≡ false
      own true e = e ∙ (rw (e, h) at both)
      own false e = e

-- Readings that agree

-- two readings of a hierarchy with its masks agree on the categories up to c
pub record Agree (parent own withdrawn parent' own' withdrawn' : ℕ → ℕ) (c : ℕ) : Type 0 where
  pub parents : (i : ℕ) → i ≤ c → parent i ≡ parent' i
  pub owns : (i : ℕ) → i ≤ c → own i ≡ own' i
  pub withdraws : (i : ℕ) → i ≤ c → withdrawn i ≡ withdrawn' i

module _ (parent own withdrawn parent' own' withdrawn' : ℕ → ℕ) where
  agree_lower :
      (c e : ℕ)
      → e < c
      → Agree parent own withdrawn parent' own' withdrawn' c
      → Agree parent own withdrawn parent' own' withdrawn' e
  agree_lower c e l a =
      record {
        parents = λ i q. a.parents i (omega arith);
        owns = λ i q. a.owns i (omega arith);
        withdraws = λ i q. a.withdraws i (omega arith);
      }

  same_step :
      (c : ℕ)
      → Agree parent own withdrawn parent' own' withdrawn' c
      → (parent c < c → support parent own withdrawn (parent c) ≡ support parent' own' withdrawn' (parent c))
      → support parent own withdrawn c ≡ support parent' own' withdrawn' c
  same_step c a above =
      rw (
        support_up parent own withdrawn c,
        support_up parent' own' withdrawn' c,
        ← (a.parents c (omega arith)),
        ← (a.owns c (omega arith)),
        ← (a.withdraws c (omega arith)),
      )
      (go (ltb (parent c) c) refl)
    where
      go :
          (b : Bool)
          → ltb (parent c) c ≡ b
          → bit_or (less (cond (ltb (parent c) c) (support parent own withdrawn (parent c)) 0) (withdrawn c)) (own c)
          ≡ bit_or (less (cond (ltb (parent c) c) (support parent' own' withdrawn' (parent c)) 0) (withdrawn c)) (own c)
      go true e = rw (e, above (ltb-true (parent c) c e))
      go false e = rw e

  same_in :
      (m c : ℕ)
      → c ≤ m
      → Agree parent own withdrawn parent' own' withdrawn' c
      → support parent own withdrawn c ≡ support parent' own' withdrawn' c
  same_in zero c l a = same_step c a (λ q. absurd (omega arith))
  same_in (suc m) c l a =
      same_step c a (λ q. same_in m (parent c) (omega arith) (agree_lower c (parent c) q a))

  -- then they support the same there
  pub agree_support :
      (c : ℕ)
      → Agree parent own withdrawn parent' own' withdrawn' c
      → support parent own withdrawn c ≡ support parent' own' withdrawn' c
  agree_support c a = same_in c c (omega arith) a

-- Document 01's support, which stands here for comparison

-- the operations that some category of a list owns
unfoldable pub owned_by : (ℕ → ℕ) → List ℕ → ℕ
owned_by own [] = 0
owned_by own (c ∷ cs) = bit_or (own c) (owned_by own cs)

-- "The operations a category supports are its own and those its parent supports; the root has only its own."
unfoldable pub support_before : (parent own : ℕ → ℕ) → ℕ → ℕ
support_before parent own c = owned_by own (upward parent c)

nothing_along : (own : ℕ → ℕ) (l : List ℕ) → support_along own (λ c. 0) l ≡ owned_by own l
unfolding support_along owned_by
nothing_along own [] = refl
nothing_along own (c ∷ above) =
    rw (nothing_along own above, less_none (owned_by own above)) (or_comm (owned_by own above) (own c))

nothing_support : (parent own : ℕ → ℕ) (c : ℕ) → support parent own (λ i. 0) c ≡ support_before parent own c
unfolding support support_before
nothing_support parent own c = nothing_along own (upward parent c)

-- of either kind: where nothing is withdrawn up to a category, its support is document 01's
pub nothing_withdrawn :
    (head : List ℕ) (d : ℕ)
    → ((i : ℕ) → i ≤ d → withdrawn_operations head i ≡ 0)
    → support_of head d ≡ support_before (data_parent head) (own_operations head) d
unfolding support_of
nothing_withdrawn head d h =
    agree_support (data_parent head) (own_operations head) (withdrawn_operations head) (data_parent head) (own_operations head)
    (λ i. 0) d (record { parents = λ i l. refl; owns = λ i l. refl; withdraws = h })
    ∙ nothing_support (data_parent head) (own_operations head) d

-- two heads, of the same kind or not, with the same parents and masks up to a category
pub heads_agree :
    (head other : List ℕ) (d : ℕ)
    → Agree (data_parent head) (own_operations head) (withdrawn_operations head) (data_parent other) (own_operations other)
    (withdrawn_operations other) d
    → support_of head d ≡ support_of other d
unfolding support_of
heads_agree head other d a =
    agree_support (data_parent head) (own_operations head) (withdrawn_operations head) (data_parent other) (own_operations other)
    (withdrawn_operations other) d a

-- Kind by kind

module _ (head : List ℕ) (i : ℕ) where
  -- "three bytes each from byte 2: parent (same law), then the mask of own operations"; "Kind 2 reads as nothing
  -- withdrawn."
  pub kind_two_reads :
      has_withdrawn head ≡ false
      → (data_parent head i ≡ get_or head (514 + 3 * i) 0)
      × (own_operations head i ≡ 256 * get_or head (514 + 3 * i + 1) 0 + get_or head (514 + 3 * i + 2) 0)
      × (withdrawn_operations head i ≡ 0)
  unfolding category_start withdrawn_operations
  kind_two_reads h = (rw (category_start, h), rw (category_start, h), rw (withdrawn_operations, h))

  -- "five bytes a category: parent, own mask, withdrawn mask"
  pub kind_six_reads :
      has_withdrawn head ≡ true
      → (data_parent head i ≡ get_or head (514 + 5 * i) 0)
      × (own_operations head i ≡ 256 * get_or head (514 + 5 * i + 1) 0 + get_or head (514 + 5 * i + 2) 0)
      × (withdrawn_operations head i ≡ 256 * get_or head (514 + 5 * i + 3) 0 + get_or head (514 + 5 * i + 4) 0)
  unfolding category_start withdrawn_operations
  kind_six_reads h = (rw (category_start, h), rw (category_start, h), rw (withdrawn_operations, category_start, h))

-- document 01's reading of block 1
abbrev pub parent_before : List ℕ → ℕ → ℕ
parent_before head i = get_or head (514 + 3 * i) 0

abbrev pub own_before : List ℕ → ℕ → ℕ
own_before head i = 256 * get_or head (514 + 3 * i + 1) 0 + get_or head (514 + 3 * i + 2) 0

-- so for kind 2 support is what it was
pub kind_two_support :
    (head : List ℕ) (d : ℕ)
    → has_withdrawn head ≡ false
    → support_of head d ≡ support_before (parent_before head) (own_before head) d
unfolding support_of
kind_two_support head d h =
    agree_support (data_parent head) (own_operations head) (withdrawn_operations head) (parent_before head) (own_before head)
    (λ i. 0) d
    (record {
      parents = λ i l. (kind_two_reads head i h).0;
      owns = λ i l. (kind_two_reads head i h).1;
      withdraws = λ i l. (kind_two_reads head i h).2;
    })
    ∙ nothing_support (parent_before head) (own_before head) d

held_alike :
    (parent parent' : ℕ → ℕ) (i : ℕ)
    → ((j : ℕ) → parent j ≡ parent' j)
    → parent_holds parent i ≡ parent_holds parent' i
unfolding parent_holds
held_alike parent parent' zero e = rw (e 0)
held_alike parent parent' (suc i) e = rw (e (suc i))

-- where nothing is withdrawn, the law of the masks asks for bit 0 of the own one
nothing_holds :
    (head : List ℕ) (i : ℕ) → withdrawn_operations head i ≡ 0 → own_holds head i ≡ not (has (own_operations head i) 0)
unfolding own_holds
nothing_holds head i e =
    rw (e, has_zero 0, and_comm (own_operations head i) 0) (and_end (not (has (own_operations head i) 0)))

-- and so are the tests of the block
module _ (head : List ℕ) (h : has_withdrawn head ≡ false) where
  pub kind_two_counted :
      data_counted head ≡ (between 1 64 (data_count head) && zeros head (514 + 3 * data_count head) 1022)
  unfolding data_counted category_start
  kind_two_counted = rw (category_start, h)

  pub kind_two_ordered :
      data_ordered head
      ≡ (all (parent_holds (parent_before head)) (up_to (data_count head))
      && all (λ i. not (has (own_before head i) 0)) (up_to (data_count head)))
  unfolding data_ordered
  kind_two_ordered =
      rw (
        all_same (parent_holds (data_parent head)) (parent_holds (parent_before head)) same_parent (up_to (data_count head)),
        all_same (own_holds head) (λ i. not (has (own_before head i) 0)) same_own (up_to (data_count head)),
      )
    where
      same_parent : (i : ℕ) → parent_holds (data_parent head) i ≡ parent_holds (parent_before head) i
      same_parent i = held_alike (data_parent head) (parent_before head) i (λ j. (kind_two_reads head j h).0)

      same_own : (i : ℕ) → own_holds head i ≡ not (has (own_before head i) 0)
      same_own i = nothing_holds head i (kind_two_reads head i h).2 ∙ rw (kind_two_reads head i h).1
