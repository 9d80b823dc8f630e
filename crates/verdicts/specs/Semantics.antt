-- The semantics of source document 000, section III-B, with its vectors of operations; its operation null is 0. A query
-- is a user and a set of accesses. Two things are said with document 01's definitions and not anew: `covers_user` is the
-- user's being in r.U, `fits` the access's being in (r.D[i], r.A[i]), both for leaves. Assumes nothing.
use Rattle.std.specs.Prelude.{ℕ, ◌<◌, ◌≡◌, ◌⊎◌, true}
use Rattle.book.specs.Sets.{has}
use Rattle.book.specs.Blocks.{Book, Head, Rule, head_of, rule_at, rule_count}
use Rattle.book.specs.Rule.{covers_user, reference_count, restriction_count, restriction_mask}
use Rattle.verdicts.specs.Accesses.{Access, Accesses, fits}

-- "v satisfies res iff for any i [..], either res[i] = ∅ or v[i] ∈ res[i]": res is restriction j of the rule
abbrev pub SatisfiesRestriction : (rule : Rule) (vector : ℕ → ℕ) (j : ℕ) → Type 0
SatisfiesRestriction rule vector j =
    (i : ℕ)
    → i < reference_count rule
    → (restriction_mask rule j i ≡ 0) ⊎ (has (restriction_mask rule j i) (vector i) ≡ true)

-- "∃ (a, d, op) ∈ (r.D[i], r.A[i]) ∩ D_q", of this operation
pub record Met (head : Head) (rule : Rule) (query : Accesses) (i operation : ℕ) : Type 0 where
  pub access : Access
  pub asked : query access ≡ true
  pub meant : fits head rule i access ≡ true
  pub operates : access.operation ≡ operation

module _ (head : Head) (rule : Rule) (user : ℕ) (query : Accesses) where
  -- "a rule r is applicable to q": the user is in r.U, and the query meets every reference
  pub record Applicable : Type 0 where
    pub covered : covers_user head rule user ≡ true
    pub met : (i : ℕ) → i < reference_count rule → (operation : ℕ) × Met head rule query i operation

  -- "either r is not applicable to q, or [..] r is not forbidden, and for any desensitize operation vector v ∈ V, there
  -- exists a restriction res in r such that v satisfies res"
  abbrev pub SatisfiesRule : Type 0
  SatisfiesRule =
      (Applicable → ⊥)
      ⊎ ((restriction_count rule ≡ 0 → ⊥)
      × ((vector : ℕ → ℕ)
      → ((i : ℕ) → i < reference_count rule → Met head rule query i (vector i))
      → (j : ℕ) × (j < restriction_count rule) × SatisfiesRestriction rule vector j))

-- "q satisfies all rules in p"
abbrev pub SatisfiesPolicy : (book : Book) (user : ℕ) (query : Accesses) → Type 0
SatisfiesPolicy book user query =
    (r : ℕ) → r < rule_count book → SatisfiesRule (head_of book) (rule_at book r) user query
