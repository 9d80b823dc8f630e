-- The bytes of an answer of Blocked name one user and association of the rule's scope. Assumes nothing.
use Prim.Native.Nat.{ℕ, zero, suc, ◌+◌, ◌*◌, ◌≤◌, ◌<◌}
use native.Mathlib.Omega.{arith}
use mathlib.Core.Path.{◌≡◌, refl, subst, ap}
use mathlib.Core.Bool.{true, false≢true}
use mathlib.Core.List.{List, [], ◌∷◌}
use Rattle.book.specs.Head.{data_count}
use Rattle.book.specs.Rule.{reference_count}
use Rattle.book.proofs.Lists.{and_both}
use Rattle.blocked.specs.Associations.{Datum, Pair, in_scope_at, is_association, is_association_from}
use Rattle.blocked.specs.Answers.{closed_answer, datum_byte}
use Rattle.blocked.specs.Demand.{InScope}
use Rattle.blocked.specs.declared.Closed.{Closed}
use Rattle.blocked.proofs.ScopeLaws.{datum, datum_bounds, pair}

module _ (head rule : List ℕ) (most : data_count head ≤ 64) where
  bytes_name :
      (n i : ℕ) (a b : List Datum)
      → is_association_from head rule n i a ≡ true
      → is_association_from head rule n i b ≡ true
      → ((j : ℕ) → j < n → datum_byte a j ≡ datum_byte b j)
      → a ≡ b
  unfolding is_association_from datum_byte
  bytes_name zero i [] [] p q same = refl
  bytes_name zero i [] (y ∷ b) p q same = absurd (false≢true q)
  bytes_name zero i (x ∷ a) b p q same = absurd (false≢true p)
  bytes_name (suc n) i [] b p q same = absurd (false≢true p)
  bytes_name (suc n) i (x ∷ a) [] p q same = absurd (false≢true q)
  bytes_name (suc n) i (x ∷ a) (y ∷ b) p q same =
      let xs = and_both (in_scope_at head rule i x) (is_association_from head rule n (suc i) a) p in
      let ys = and_both (in_scope_at head rule i y) (is_association_from head rule n (suc i) b) q in
      let xb = datum_bounds head rule i x xs.0 in
      let yb = datum_bounds head rule i y ys.0 in
      let e : 128 + 64 * x.channel + x.leaf ≡ 128 + 64 * y.channel + y.leaf = same 0 (omega arith) in
      let s : x.channel ≡ y.channel = omega arith in
      let d : x.leaf ≡ y.leaf = omega arith in
      let first : datum x.channel x.leaf ≡ datum y.channel y.leaf = rw (s, d) in
      let rest = bytes_name n (suc i) a b xs.1 ys.1 (λ j l. same (suc j) (omega arith)) in
      subst (λ (z : Datum). x ∷ a ≡ z ∷ b) first (rw rest)

  abbrev numbers : Pair → Closed
  numbers p =
      record {
        user = p.user;
        first = datum_byte p.association 0;
        second = datum_byte p.association 1;
        third = datum_byte p.association 2;
      }

  -- "128 + 64 × action + leaf; 0 for an absent reference": a pair of the scope by its bytes
  pub answer_names :
      reference_count rule ≤ 3
      → (p q : Pair)
      → InScope head rule p
      → InScope head rule q
      → closed_answer p ≡ closed_answer q
      → p ≡ q
  unfolding closed_answer is_association
  answer_names few p q within other e =
      let all : numbers p ≡ numbers q = cc in
      let u = ap (λ (c : Closed). c.user) all in
      let first = ap (λ (c : Closed). c.first) all in
      let second = ap (λ (c : Closed). c.second) all in
      let third = ap (λ (c : Closed). c.third) all in
      let a =
      bytes_name (reference_count rule) 0 p.association q.association within.association other.association
      (λ j l. bytes first second third j (omega arith)) in
      let same : pair p.user p.association ≡ pair q.user q.association = rw (u, a) in
      same
    where
      bytes :
          datum_byte p.association 0 ≡ datum_byte q.association 0
          → datum_byte p.association 1 ≡ datum_byte q.association 1
          → datum_byte p.association 2 ≡ datum_byte q.association 2
          → (j : ℕ) → j < 3 → datum_byte p.association j ≡ datum_byte q.association j
      bytes first second third zero l = first
      bytes first second third (suc zero) l = second
      bytes first second third (suc (suc zero)) l = third
      bytes first second third (suc (suc (suc j))) l = absurd (omega arith)
