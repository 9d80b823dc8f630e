-- Laws of a tree's nodes: the row, then the trees of its children (`nodes_step`); and in two parts, for the two walks.
-- Assumes nothing.
use Prim.Native.Nat.{ℕ, zero, suc, ◌+◌, ◌<◌}
use native.Mathlib.Omega.{arith}
use mathlib.Core.Path.{◌≡◌, refl, sym, ap, ◌∙◌}
use mathlib.Core.Bool.{Bool, true, false, ◌&&◌, cond}
use mathlib.Core.List.{List, [], ◌∷◌, ◌++◌, append-nil}
use lib.Dec.{ltb}
use Rattle.book.specs.Lists.{flat, keep}
use Rattle.lineage.specs.Rows.{Kind, Column, Apply, Choose, Output, Condition, Unknown}
use Rattle.lineage.specs.Rows.{kind_byte, kind_of, kind_at, is_value, names, row_a, row_b, row_c}
use Rattle.lineage.proofs.Accepted.{names_both}
use Rattle.trees.specs.Trees.{row_bytes, children, nodes_in, nodes_from}
use Rattle.trees.specs.declared.walking.Node.{Node}
use Rattle.trees.specs.Inner.Walks.{of_apply, of_choose, apply_nodes, choose_nodes}

-- What is kept of a list, and the lists that a function gives for it

module _ {A B : Type 0} (f : A → Bool) (g h : A → List B) where
  keep_same :
      ((x : A) → f x ≡ true → g x ≡ h x) → (xs : List A) → flat g (keep f xs) ≡ flat h (keep f xs)
  unfolding flat keep
  keep_same e [] = refl
  keep_same e (x ∷ xs) = by (f x) refl (keep_same e xs)
    where
      by :
          (b : Bool)
          → f x ≡ b
          → flat g (keep f xs) ≡ flat h (keep f xs)
          → flat g (elim b as (λ b. List A) [ true ↦ x ∷ keep f xs | false ↦ keep f xs ])
          ≡ flat h (elim b as (λ b. List A) [ true ↦ x ∷ keep f xs | false ↦ keep f xs ])
      by true t rest = rw (e x t, rest)
      by false t rest = rest

module _ {A B : Type 0} (f : A → Bool) (g : A → List B) where
  flat_keep : (xs : List A) → flat g (keep f xs) ≡ flat (λ x. cond (f x) (g x) []) xs
  unfolding flat keep
  flat_keep [] = refl
  flat_keep (x ∷ xs) = by (f x) (flat_keep xs)
    where
      by :
          (b : Bool)
          → flat g (keep f xs) ≡ flat (λ x. cond (f x) (g x) []) xs
          → flat g (elim b as (λ b. List A) [ true ↦ x ∷ keep f xs | false ↦ keep f xs ])
          ≡ cond b (g x) [] ++ flat (λ x. cond (f x) (g x) []) xs
      by true rest = rw rest
      by false rest = rest

-- The tree

module _ (plan : List ℕ) where
  abbrev named : ℕ → List ℕ
  named i = row_bytes (kind_at plan i) (row_a plan i) (row_b plan i) (row_c plan i)

  -- enough steps are as good as any
  nodes_in_enough : (m n level i : ℕ) → i < m → i < n → nodes_in m plan level i ≡ nodes_in n plan level i
  unfolding nodes_in children
  nodes_in_enough zero n level i p q = absurd (omega arith)
  nodes_in_enough (suc m) zero level i p q = absurd (omega arith)
  nodes_in_enough (suc m) (suc n) level i p q =
      ap (λ ns. record { level = level; row = i } ∷ ns)
      (keep_same (names plan i) (nodes_in m plan (level + 1)) (nodes_in n plan (level + 1))
      (λ r h.
      let l : r < i = (names_both plan i r h).0 in
      nodes_in_enough m n (level + 1) r (omega arith) (omega arith))
      (named i))

  pub nodes_step :
      (level i : ℕ)
      → nodes_from plan level i
      ≡ record { level = level; row = i } ∷ flat (nodes_from plan (level + 1)) (children plan i)
  unfolding nodes_from nodes_in children
  nodes_step level i =
      ap (λ ns. record { level = level; row = i } ∷ ns)
      (keep_same (names plan i) (nodes_in i plan (level + 1)) (nodes_from plan (level + 1))
      (λ r h.
      let l : r < i = (names_both plan i r h).0 in
      nodes_in_enough i (suc r) (level + 1) r l (omega arith))
      (named i))

  -- the nodes of what row i names by r
  abbrev pub below : (level i r : ℕ) → List Node
  below level i r = cond (names plan i r) (nodes_from plan level r) []

  -- the nodes of a row from what it names
  pub nodes_named :
      (level i : ℕ)
      → nodes_from plan level i ≡ record { level = level; row = i } ∷ flat (below (level + 1) i) (named i)
  unfolding children
  nodes_named level i =
      nodes_step level i
      ∙ ap (λ ns. record { level = level; row = i } ∷ ns)
      (flat_keep (names plan i) (nodes_from plan (level + 1)) (named i))

-- The two parts

parts_by :
    (kind : Kind) (ns : List Node) → cond (is_value kind) ns [] ≡ cond (of_apply kind) ns [] ++ cond (of_choose kind) ns []
unfolding is_value of_apply of_choose
parts_by Column ns = sym (append-nil ns)
parts_by Apply ns = sym (append-nil ns)
parts_by Choose ns = refl
parts_by Output ns = refl
parts_by Condition ns = refl
parts_by Unknown ns = refl

module _ (plan : List ℕ) (level : ℕ) where
  -- what both walks list for a row that row i names
  abbrev pub passed : (i r : ℕ) → List Node
  passed i r = cond (ltb r i) (apply_nodes plan level r ++ choose_nodes plan level r) []

  -- a value row is listed whole
  pub value_parts :
      (r : ℕ) → is_value (kind_at plan r) ≡ true → nodes_from plan level r ≡ apply_nodes plan level r ++ choose_nodes plan level r
  unfolding apply_nodes choose_nodes
  value_parts r v =
      sym (ap (λ b. cond b (nodes_from plan level r) []) v) ∙ parts_by (kind_at plan r) (nodes_from plan level r)

  below_parts : (i r : ℕ) → below plan level i r ≡ passed i r
  unfolding names apply_nodes choose_nodes
  below_parts i r = by (ltb r i)
    where
      by :
          (b : Bool)
          → cond (b && is_value (kind_at plan r)) (nodes_from plan level r) []
          ≡ cond b
          (cond (of_apply (kind_at plan r)) (nodes_from plan level r) []
          ++ cond (of_choose (kind_at plan r)) (nodes_from plan level r) [])
          []
      by true = parts_by (kind_at plan r) (nodes_from plan level r)
      by false = refl

  all_passed : (i : ℕ) (rs : List ℕ) → flat (below plan level i) rs ≡ flat (passed i) rs
  unfolding flat
  all_passed i [] = refl
  all_passed i (r ∷ rs) = rw (below_parts i r, all_passed i rs)

-- The parts by the row's kind

not_apply : (n : ℕ) → (n ≡ 1 → ⊥) → (n ≡ 2 → ⊥) → of_apply (kind_of n) ≡ false
unfolding of_apply kind_of
not_apply zero a b = refl
not_apply (suc zero) a b = absurd (a refl)
not_apply (suc (suc zero)) a b = absurd (b refl)
not_apply (suc (suc (suc zero))) a b = refl
not_apply (suc (suc (suc (suc zero)))) a b = refl
not_apply (suc (suc (suc (suc (suc zero))))) a b = refl
not_apply (suc (suc (suc (suc (suc (suc n)))))) a b = refl

not_choose : (n : ℕ) → (n ≡ 3 → ⊥) → of_choose (kind_of n) ≡ false
unfolding of_choose kind_of
not_choose zero a = refl
not_choose (suc zero) a = refl
not_choose (suc (suc zero)) a = refl
not_choose (suc (suc (suc zero))) a = absurd (a refl)
not_choose (suc (suc (suc (suc zero)))) a = refl
not_choose (suc (suc (suc (suc (suc zero))))) a = refl
not_choose (suc (suc (suc (suc (suc (suc n)))))) a = refl

module _ (plan : List ℕ) (level r : ℕ) where
  pub apply_other : (kind_byte plan r ≡ 1 → ⊥) → (kind_byte plan r ≡ 2 → ⊥) → apply_nodes plan level r ≡ []
  unfolding apply_nodes kind_at
  apply_other a b = rw (not_apply (kind_byte plan r) a b)

  pub choose_other : (kind_byte plan r ≡ 3 → ⊥) → choose_nodes plan level r ≡ []
  unfolding choose_nodes kind_at
  choose_other a = rw (not_choose (kind_byte plan r) a)

  abbrev pub top : Node
  top = record { level = level; row = r }

  pub column_nodes : kind_byte plan r ≡ 1 → apply_nodes plan level r ≡ top ∷ []
  unfolding apply_nodes row_bytes flat of_apply kind_of kind_at
  column_nodes k = rw (nodes_named plan level r, k)

  pub apply_nodes_law :
      (b c : ℕ)
      → kind_byte plan r ≡ 2
      → b ≡ row_b plan r
      → c ≡ row_c plan r
      → apply_nodes plan level r ≡ top ∷ flat (passed plan (level + 1) r) (b ∷ c ∷ [])
  unfolding apply_nodes row_bytes of_apply kind_of kind_at
  apply_nodes_law b c k eb ec = rw (nodes_named plan level r, all_passed plan (level + 1) r, k, eb, ec)

  pub choose_nodes_law :
      (a b c : ℕ)
      → kind_byte plan r ≡ 3
      → a ≡ row_a plan r
      → b ≡ row_b plan r
      → c ≡ row_c plan r
      → choose_nodes plan level r ≡ top ∷ flat (passed plan (level + 1) r) (a ∷ b ∷ c ∷ [])
  unfolding choose_nodes row_bytes of_choose kind_of kind_at
  choose_nodes_law a b c k ea eb ec = rw (nodes_named plan level r, all_passed plan (level + 1) r, k, ea, eb, ec)
