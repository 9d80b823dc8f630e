-- Laws of trees: at most 3 to the power (i + 1) nodes; how deep they lie. Assumes nothing.
use Prim.Native.Nat.{ℕ, zero, suc, ◌+◌, ◌*◌, ◌^◌, ◌≤◌, ◌<◌}
use native.Mathlib.Nat.{pow-suc, pow-le-pow_right, one-le-pow}
use native.Mathlib.Numerals.{add-one}
use native.Mathlib.Omega.{arith}
use mathlib.Core.Path.{◌≡◌, refl}
use mathlib.Core.Bool.{Bool, true, false, cond}
use mathlib.Core.List.{List, [], ◌∷◌, ◌++◌}
use lib.ListN.{length, length-append}
use lib.Dec.{leb}
use borrow.Author.Tests.{le-leb}
use Rattle.book.specs.Lists.{all, flat, keep}
use Rattle.book.proofs.Lists.{and_true, append_all}
use Rattle.lineage.specs.Rows.{Kind, Column, Apply, Choose, Output, Condition, Unknown}
use Rattle.lineage.specs.Rows.{kind_at, names, row_a, row_b, row_c}
use Rattle.lineage.proofs.Accepted.{names_both}
use Rattle.trees.specs.Trees.{row_bytes, children, nodes_in, nodes_from, tree_nodes, node_count}
use Rattle.trees.specs.declared.walking.Node.{Node}
use Rattle.trees.specs.Text.{tree_text, line_count}
use Rattle.trees.specs.Demand.{Trees}
use Rattle.trees.proofs.Nodes.{below, nodes_named, nodes_step}
use Rattle.trees.proofs.TextLaws.{feeds_text, text_short}

-- How many nodes

-- a node above at most three trees, of each of which twice the nodes and one are at most n
powers_by :
    (kind : Kind) (f : ℕ → List Node) (a b c n : ℕ)
    → ((r : ℕ) → 2 * length (f r) + 1 ≤ n)
    → 2 * suc (length (flat f (row_bytes kind a b c))) + 1 ≤ n * 3
unfolding flat row_bytes
powers_by Column f a b c n h = let p = h a in omega arith
powers_by Apply f a b c n h =
    let p = h b in
    let q = h c in
    let e = length-append (f b) (f c ++ []) in
    let g = length-append (f c) [] in
    omega arith
powers_by Choose f a b c n h =
    let o = h a in
    let p = h b in
    let q = h c in
    let d = length-append (f a) (f b ++ (f c ++ [])) in
    let e = length-append (f b) (f c ++ []) in
    let g = length-append (f c) [] in
    omega arith
powers_by Output f a b c n h = let p = h a in omega arith
powers_by Condition f a b c n h = let p = h a in omega arith
powers_by Unknown f a b c n h = let p = h a in omega arith

module _ (plan : List ℕ) where
  -- the bound itself is no induction
  few : (m level i : ℕ) → i < m → 2 * length (nodes_from plan level i) + 1 ≤ 3 ^ suc i
  few zero level i p = absurd (omega arith)
  few (suc m) level i p =
      rw (nodes_named plan level i, pow-suc 3 i)
      (powers_by (kind_at plan i) (below plan (level + 1) i) (row_a plan i) (row_b plan i) (row_c plan i) (3 ^ i)
      (λ r. lower r (few m (level + 1) r) (names plan i r) refl))
    where
      lower :
          (r : ℕ)
          → (r < m → 2 * length (nodes_from plan (level + 1) r) + 1 ≤ 3 ^ suc r)
          → (b : Bool)
          → names plan i r ≡ b
          → 2 * length (cond b (nodes_from plan (level + 1) r) []) + 1 ≤ 3 ^ i
      lower r h true t =
          let l : r < i = (names_both plan i r t).0 in
          let w : 3 ^ suc r ≤ 3 ^ i = pow-le-pow_right {n = 3} (omega arith) l in
          let q = h (omega arith) in
          omega arith
      lower r h false t =
          let w : 1 ≤ 3 ^ i = one-le-pow i 3 (omega arith) in
          omega arith

  -- "The tree of row i has at most 3 to the power (i + 1) nodes."
  pub tree_few : (i : ℕ) → node_count plan i ≤ 3 ^ (i + 1)
  unfolding node_count tree_nodes
  tree_few i =
      let p = few (suc i) 0 i (omega arith) in
      rw (add-one i) (omega arith)

  -- a row is a node of its own tree
  pub tree_some : (i : ℕ) → 1 ≤ node_count plan i
  unfolding node_count tree_nodes
  tree_some i = rw (nodes_step plan 0 i) (omega arith)

  -- the node count "equals the lines written"
  pub tree_lines : (i : ℕ) → line_count (tree_text plan i) ≡ node_count plan i
  unfolding tree_text node_count
  tree_lines i = feeds_text plan (tree_nodes plan i)

-- How deep

all_kept :
    {A B : Type 0} (f : A → Bool) (g : A → List B) (p : B → Bool)
    → ((x : A) → f x ≡ true → all p (g x) ≡ true)
    → (xs : List A)
    → all p (flat g (keep f xs)) ≡ true
unfolding all flat keep
all_kept f g p h [] = refl
all_kept {A} f g p h (x ∷ xs) = by (f x) refl (all_kept f g p h xs)
  where
    by :
        (b : Bool)
        → f x ≡ b
        → all p (flat g (keep f xs)) ≡ true
        → all p (flat g (elim b as (λ b. List A) [ true ↦ x ∷ keep f xs | false ↦ keep f xs ])) ≡ true
    by true t rest = append_all p (g x) (flat g (keep f xs)) (h x t) rest
    by false t rest = rest

module _ (plan : List ℕ) (most : ℕ) where
  abbrev within : Node → Bool
  within n = leb (n.level + n.row) most

  -- a level deeper the row is lower by one or more
  deep : (steps level i : ℕ) → level + i ≤ most → all within (nodes_in steps plan level i) ≡ true
  unfolding nodes_in children all
  deep zero level i h = refl
  deep (suc steps) level i h =
      and_true (leb (level + i) most)
      (all within (flat (nodes_in steps plan (level + 1)) (children plan i)))
      (le-leb (level + i) most h)
      (all_kept (names plan i) (nodes_in steps plan (level + 1)) within
      (λ r t.
      let l : r < i = (names_both plan i r t).0 in
      deep steps (level + 1) r (omega arith))
      (row_bytes (kind_at plan i) (row_a plan i) (row_b plan i) (row_c plan i)))

pub tree_deep : (plan : List ℕ) (i : ℕ) → i < 64 → all (λ n. leb (n.level + n.row) 63) (tree_nodes plan i) ≡ true
unfolding tree_nodes nodes_from
tree_deep plan i h = deep plan 63 (suc i) 0 i (omega arith)

module _ (plan : List ℕ) where
  -- a tree of a plan of 64 rows has at most 136 bytes a node
  pub tree_short : (i : ℕ) → i < 64 → length (tree_text plan i) ≤ 136 * node_count plan i
  unfolding tree_text node_count
  tree_short i low = text_short plan (tree_nodes plan i) (tree_deep plan i low)

  pub every_tree : Trees plan
  every_tree =
      record { tree = nodes_step plan; powers = tree_few plan; lines = tree_lines plan; short = tree_short }
