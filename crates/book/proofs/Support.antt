-- Laws of support: the recursion to the parent, and the words of leaves by operation. Assumes nothing.
use Prim.Native.Nat.{ℕ, ◌+◌, ◌-◌, ◌^◌, ◌≤◌, ◌<◌, min}
use native.Mathlib.Omega.{arith}
use mathlib.Core.Path.{◌≡◌, refl, ◌∙◌}
use mathlib.Core.Bool.{Bool, true, false, ◌&&◌, ◌||◌, cond}
use mathlib.Core.List.{List}
use lib.ListN.{get_or, replicate, get_or-replicate}
use lib.Dec.{eqb, ltb}
use lib.Bits.{bit_and, bit_or}
use borrow.Author.Tests.{ltb-true, le-ltb, lt-ltb, eqb-true, eqb-false}
use Rattle.book.specs.Sets.{has}
use Rattle.book.specs.Head.{data_count, data_parent, own_operations, withdrawn_operations, is_data_leaf, support_of, supports}
use Rattle.book.specs.Inner.Reading.{SetAdded, Supporting}
use Rattle.book.proofs.Lists.{and_false, or_end, and_where, ltb_more}
use Rattle.book.proofs.Members.{has_zero, has_or, has_cond, minus_less, none_less, none_or}
use Rattle.book.proofs.Hierarchies.{support_up}
use Rattle.book.proofs.HeadWords.{below_capped, leaf_known}

-- The recursion to the parent

module _ (head : List ℕ) (d own p : ℕ) (own_at : own ≡ own_operations head d) (p_at : p ≡ data_parent head d) where
  pub support_lower :
      (withdrawn above : ℕ)
      → p < d
      → withdrawn ≡ withdrawn_operations head d
      → withdrawn < 2 ^ 64
      → above ≡ support_of head p
      → above < 2 ^ 64
      → bit_or (bit_and above ((2 ^ 64 - 1) - withdrawn)) own ≡ support_of head d
  unfolding support_of
  support_lower withdrawn above l w_at w_fits e fits =
      rw (
        minus_less 64 above withdrawn fits w_fits,
        support_up (data_parent head) (own_operations head) (withdrawn_operations head) d,
        ← p_at,
        lt-ltb p d l,
        ← own_at,
        ← w_at,
        ← e,
      )

  pub support_top : d ≤ p → own ≡ support_of head d
  unfolding support_of
  support_top l =
      rw (
        support_up (data_parent head) (own_operations head) (withdrawn_operations head) d,
        ← p_at,
        le-ltb p d l,
        ← own_at,
        none_less (withdrawn_operations head d),
        none_or own,
      )

-- Leaves by operation

-- the words hold, of the leaves below i, those that support each operation
pub record Supported (head : List ℕ) (i : ℕ) (words : List ℕ) : Type 0 where
  pub at :
      (k d : ℕ) → k < 16 → has (get_or words k 0) d ≡ (ltb d 64 && (is_data_leaf head d && (ltb d i && supports head d k)))

pub supported_none : (head : List ℕ) → Supported head 0 (replicate 16 0)
supported_none head =
    record {
      at =
          λ k d l.
          rw (
            get_or-replicate {A = ℕ} 16 k 0 0 l,
            has_zero d,
            le-ltb d 0 (omega arith),
            and_false (is_data_leaf head d),
            and_false (ltb d 64),
          );
    }

-- leaf i joins the words of the operations that it supports
joins_here : (t l s : Bool) → ((t && (l && (false && s))) || (((t && l) && s) && (t && true))) ≡ (t && (l && (true && s)))
joins_here true true true = refl
joins_here true true false = refl
joins_here true false s = refl
joins_here false l s = refl

joins_other : (t l b s m : Bool) → ((t && (l && (b && s))) || (m && (t && false))) ≡ (t && (l && (b && s)))
joins_other t l b s m = rw (and_false t, and_false m) (or_end (t && (l && (b && s))))

pub supported_more :
    (head : List ℕ) (i leaves one mask : ℕ) (words next : List ℕ)
    → Supported head i words
    → ((d : ℕ) → has leaves d ≡ (ltb d 64 && is_data_leaf head d))
    → ((d : ℕ) → has one d ≡ (ltb d 64 && eqb d i))
    → mask ≡ cond (has leaves i) (support_of head i) 0
    → SetAdded words one mask next
    → Supported head (i + 1) next
unfolding supports
supported_more head i leaves one mask words next old leaves_at one_at mask_at step =
    record {
      at =
          λ k d l.
          rw (
            step k l,
            has_or (get_or words k 0) (cond (has mask k) one 0) d,
            old.at k d l,
            has_cond (has mask k) one d,
            one_at d,
            mask_at,
            has_cond (has leaves i) (support_of head i) k,
            leaves_at i,
          )
          (joins k d (eqb d i) refl);
    }
  where
    joins :
        (k d : ℕ) (b : Bool)
        → eqb d i ≡ b
        → ((ltb d 64 && (is_data_leaf head d && (ltb d i && supports head d k)))
        || (((ltb i 64 && is_data_leaf head i) && has (support_of head i) k) && (ltb d 64 && eqb d i)))
        ≡ (ltb d 64 && (is_data_leaf head d && (ltb d (i + 1) && supports head d k)))
    joins k d true e =
        let same = eqb-true d i e in
        rw (e, ← same, le-ltb d d (omega arith), lt-ltb d (d + 1) (omega arith))
        (joins_here (ltb d 64) (is_data_leaf head d) (supports head d k))
    joins k d false e =
        rw (e, ltb_more d i (eqb-false d i e))
        (joins_other (ltb d 64) (is_data_leaf head d) (ltb d i) (supports head d k)
        ((ltb i 64 && is_data_leaf head i) && has (support_of head i) k))

pub supported_end :
    (head : List ℕ) (n m i : ℕ) (words : List ℕ)
    → Supported head i words
    → i ≡ m
    → n ≡ data_count head
    → m ≡ min n 64
    → Supporting head words
unfolding is_data_leaf
supported_end head n m i words old e count cap k l d =
    old.at k d l
    ∙ and_where (ltb d 64) (is_data_leaf head d && (ltb d i && supports head d k)) (is_data_leaf head d && supports head d k)
    (λ t.
    and_where (is_data_leaf head d) (ltb d i && supports head d k) (supports head d k)
    (λ h.
    let low : d < data_count head = leaf_known (data_count head) (data_parent head) d h in
    let small : d < 64 = ltb-true d 64 t in
    let under_m : d < m = below_capped n m cap d small (omega arith) in
    rw (lt-ltb d i (omega arith))))
