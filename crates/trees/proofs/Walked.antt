-- What a walk lists, from what it passes to the walks of the lower rows. Assumes nothing.
use Prim.Native.Nat.{ℕ, zero, suc, ◌+◌, ◌≤◌, ◌<◌, min}
use native.Mathlib.Numerals.{add-one}
use native.Mathlib.Omega.{arith}
use mathlib.Core.Path.{◌≡◌, refl, sym, ap, subst, ◌∙◌}
use mathlib.Core.Bool.{true}
use mathlib.Core.List.{List, [], ◌∷◌, ◌++◌, append_assoc, append-nil}
use lib.ListN.{length, length-append, get_or, take, drop}
use lib.Seq.{take_all}
use borrow.Author.Tests.{lt-ltb, le-ltb, ne_eqb}
use Rattle.std.proofs.lemmas.List.{take-append-le}
use Rattle.std.specs.Prelude.{Result, Ok, Err}
use Rattle.book.specs.Lists.{flat}
use Rattle.lineage.specs.Rows.{kind_at, is_value}
use Rattle.trees.specs.declared.walking.Node.{Node}
use Rattle.trees.specs.declared.walking.TooMany.{TooMany}
use Rattle.trees.specs.Trees.{tree_nodes}
use Rattle.trees.specs.Inner.Walks.{is_row, rank, apply_nodes, choose_nodes, Full, Listed}
use Rattle.trees.proofs.Nodes.{passed, top, value_parts}

-- The row number falls

pub rank_row : (r : ℕ) → (r ≡ 255 → ⊥) → rank r ≡ suc r
unfolding rank is_row
rank_row r h = rw (ne_eqb r 255 h)

-- at each call the row is lower: its number falls, and so does the number counted from 1, with 0 for none
pub row_falls :
    (t r lower : ℕ)
    → (r ≡ t → lower < r → lower < t)
    × ((r ≡ 255 → ⊥) → rank r ≡ t → rank lower ≤ r → rank lower < t)
row_falls t r lower = (
  λ e l. omega arith,
  λ n e l.
      let k = rank_row r n in
      omega arith,
)

-- of a row that a walk passes on
pub passed_falls : (r x : ℕ) → r < 255 → x < r → rank x < rank r
passed_falls r x low l =
    let k = rank_row x (λ e. omega arith) in
    (row_falls (rank r) r x).1 (λ e. omega arith) refl (omega arith)

-- The lists that a function gives for the members of a list

module _ {A : Type 0} (f : ℕ → List A) where
  -- one member more
  flat_more : (xs : List ℕ) (k : ℕ) → k < length xs → flat f (take (suc k) xs) ≡ flat f (take k xs) ++ f (get_or xs k 0)
  unfolding flat
  flat_more [] k h = absurd (omega arith)
  flat_more (x ∷ xs) zero h = append-nil (f x)
  flat_more (x ∷ xs) (suc k) h =
      rw (flat_more xs k (omega arith)) (sym (append_assoc (f x) (flat f (take k xs)) (f (get_or xs k 0))))

  flat_parts : (xs : List ℕ) (k : ℕ) → flat f (take k xs) ++ flat f (drop k xs) ≡ flat f xs
  unfolding flat
  flat_parts [] zero = refl
  flat_parts [] (suc k) = refl
  flat_parts (x ∷ xs) zero = refl
  flat_parts (x ∷ xs) (suc k) =
      append_assoc (f x) (flat f (take k xs)) (flat f (drop k xs)) ∙ ap (λ ys. f x ++ ys) (flat_parts xs k)

-- What is listed, and a full list

-- what is behind the first 4,096 is of no matter
full_more : (ns ms after : List Node) → Full ns after → Full (ns ++ ms) after
full_more ns ms after h =
    let l : 4096 < length ns = h.0 in
    let e = length-append ns ms in
    (omega arith, h.1 ∙ sym (take-append-le 4096 ns ms (omega arith)))

pub full_top : (before : List Node) (n : Node) → length before ≡ 4096 → Full (before ++ n ∷ []) before
full_top before n h =
    let e = length-append before (n ∷ []) in
    let t = take-append-le 4096 before (n ∷ []) (omega arith) in
    (omega arith, sym (t ∙ take_all 4096 before (omega arith)))

pub listed_none : (ns before : List Node) → ns ≡ [] → Listed ns before before (Ok tt)
listed_none ns before e = rw e (sym (append-nil before))

pub listed_over :
    (ns before after : List Node) (r : Result (Unit {0}) TooMany) (x : TooMany)
    → r ≡ Err x
    → Full (before ++ ns) after
    → Listed ns before after r
listed_over ns before after r x e h = rw e h

-- both walks of a row one after the other
pub listed_then :
    (ns ms before between after : List Node) (r : Result (Unit {0}) TooMany)
    → between ≡ before ++ ns
    → Listed ms between after r
    → Listed (ns ++ ms) before after r
listed_then ns ms before between after (Ok u) e h = h ∙ ap (λ xs. xs ++ ms) e ∙ append_assoc before ns ms
listed_then ns ms before between after (Err x) e h =
    subst (λ xs. Full xs after) (ap (λ xs. xs ++ ms) e ∙ append_assoc before ns ms) h

over_front : (ns ms before after : List Node) → Full (before ++ ns) after → Full (before ++ (ns ++ ms)) after
over_front ns ms before after h =
    subst (λ xs. Full xs after) (append_assoc before ns ms) (full_more (before ++ ns) ms after h)

-- A tree is a value row's

pub tree_listed :
    (plan : List ℕ) (r : ℕ) (before between after : List Node) (told : Result (Unit {0}) TooMany)
    → is_value (kind_at plan r) ≡ true
    → between ≡ before ++ apply_nodes plan 0 r
    → Listed (choose_nodes plan 0 r) between after told
    → Listed (tree_nodes plan r) before after told
unfolding tree_nodes
tree_listed plan r before between after told v e h =
    rw (value_parts plan 0 r v) (listed_then (apply_nodes plan 0 r) (choose_nodes plan 0 r) before between after told e h)

pub tree_over :
    (plan : List ℕ) (r : ℕ) (before after : List Node) (told : Result (Unit {0}) TooMany) (x : TooMany)
    → is_value (kind_at plan r) ≡ true
    → told ≡ Err x
    → Full (before ++ apply_nodes plan 0 r) after
    → Listed (tree_nodes plan r) before after told
unfolding tree_nodes
tree_over plan r before after told x v e h =
    rw (value_parts plan 0 r v)
    (listed_over (apply_nodes plan 0 r ++ choose_nodes plan 0 r) before after told x e
    (over_front (apply_nodes plan 0 r) (choose_nodes plan 0 r) before after h))

-- what is listed in an empty list
pub listed_whole :
    (ns before after : List Node) (r : Result (Unit {0}) TooMany) → Listed ns before after r → before ≡ [] → r ≡ Ok tt → after ≡ ns
listed_whole ns before after r h e ok = rw (ok, e) at h

pub listed_many :
    (ns before after : List Node) (r : Result (Unit {0}) TooMany) (x : TooMany)
    → Listed ns before after r
    → before ≡ []
    → r ≡ Err x
    → 4096 < length ns
listed_many ns before after r x h e err = (rw (err, e) at h).0

-- The loop of a walk

-- a level deeper the row is lower
pub deeper : (level r x s : ℕ) → level + r ≤ 255 → x < r → s ≡ min (level + 1) 255 → (s ≡ level + 1) × (s + x ≤ 255)
deeper level r x s h l e = (omega arith, omega arith)

-- the row's own node, then each row that it names by both walks in turn
module _
    (plan : List ℕ) (level r : ℕ) (before ns : List Node) (rs : List ℕ)
    (parts : ns ≡ top plan level r ∷ flat (passed plan (level + 1) r) rs)
  where
    abbrev pub walked : ℕ → List Node
    walked k = before ++ top plan level r ∷ flat (passed plan (level + 1) r) (take k rs)

    pub walked_all : (now : List Node) (k : ℕ) → length rs ≤ k → now ≡ walked k → now ≡ before ++ ns
    walked_all now k h e = rw (take_all k rs h, ← parts) at e

    -- what is listed is the front of the whole
    within : (k : ℕ) → walked k ++ flat (passed plan (level + 1) r) (drop k rs) ≡ before ++ ns
    within k =
        let P = passed plan (level + 1) r in
        append_assoc before (top plan level r ∷ flat P (take k rs)) (flat P (drop k rs))
        ∙ ap (λ ms. before ++ top plan level r ∷ ms) (flat_parts P rs k)
        ∙ ap (λ ms. before ++ ms) (sym parts)

    module _ (after : List Node) (told : Result (Unit {0}) TooMany) (x : TooMany) (err : told ≡ Err x) where
      pub over_top : Full (before ++ top plan level r ∷ []) after → Listed ns before after told
      over_top h =
          listed_over ns before after told x err
          (rw parts (over_front (top plan level r ∷ []) (flat (passed plan (level + 1) r) rs) before after h))

    module _ (k : ℕ) (h : k < length rs) (now : List Node) (e : now ≡ walked k) where
      abbrev x : ℕ
      x = get_or rs k 0

      more : (ms : List Node) → passed plan (level + 1) r x ≡ ms → now ++ ms ≡ walked (k + 1)
      more ms p =
          let P = passed plan (level + 1) r in
          rw (add-one k, flat_more P rs k h, p, e)
          (append_assoc before (top plan level r ∷ flat P (take k rs)) ms)

      -- a row that is not lower is none
      pub walked_past : r ≤ x → now ≡ walked (k + 1)
      walked_past l = sym (append-nil now) ∙ more [] (rw (le-ltb x r l))

      module _ (s : ℕ) (deep : s ≡ level + 1) (l : x < r) where
        both : now ++ (apply_nodes plan s x ++ choose_nodes plan s x) ≡ walked (k + 1)
        both = more (apply_nodes plan s x ++ choose_nodes plan s x) (rw (lt-ltb x r l, deep))

        pub walked_more :
            (between after : List Node)
            → between ≡ now ++ apply_nodes plan s x
            → after ≡ between ++ choose_nodes plan s x
            → after ≡ walked (k + 1)
        walked_more between after f g =
            g
            ∙ ap (λ ms. ms ++ choose_nodes plan s x) f
            ∙ append_assoc now (apply_nodes plan s x) (choose_nodes plan s x)
            ∙ both

        module _ (after : List Node) (told : Result (Unit {0}) TooMany) (y : TooMany) (err : told ≡ Err y) where
          over_both : Full (now ++ (apply_nodes plan s x ++ choose_nodes plan s x)) after → Listed ns before after told
          over_both m =
              listed_over ns before after told y err
              (subst (λ ms. Full ms after) (within (k + 1))
              (full_more (walked (k + 1)) (flat (passed plan (level + 1) r) (drop (k + 1) rs)) after
              (subst (λ ms. Full ms after) both m)))

          pub over_apply : Full (now ++ apply_nodes plan s x) after → Listed ns before after told
          over_apply m = over_both (over_front (apply_nodes plan s x) (choose_nodes plan s x) now after m)

          pub over_choose :
              (between : List Node)
              → between ≡ now ++ apply_nodes plan s x
              → Full (between ++ choose_nodes plan s x) after
              → Listed ns before after told
          over_choose between f m =
              over_both
              (subst (λ ms. Full ms after)
              (ap (λ ms. ms ++ choose_nodes plan s x) f ∙ append_assoc now (apply_nodes plan s x) (choose_nodes plan s x))
              m)
