-- The children of a row of an accepted plan: of Apply b, and c unless it is 255; of Choose a, b and c. Assumes nothing.
use Prim.Native.Nat.{ℕ, ◌<◌, ◌/◌}
use native.Mathlib.Omega.{arith}
use mathlib.Core.Path.{◌≡◌, refl, ap, ◌∙◌}
use mathlib.Core.Bool.{Bool, true, false, ◌&&◌, ◌||◌}
use mathlib.Core.List.{List, [], ◌∷◌}
use lib.ListN.{length}
use lib.Dec.{eqb}
use borrow.Author.Tests.{le-ltb, ne_eqb}
use Rattle.book.specs.Lists.{keep}
use Rattle.book.specs.Blocks.{head_of}
use Rattle.book.proofs.Lists.{and_both, keep_in, keep_out}
use Rattle.lineage.specs.Rows.{Choose, kind_at, names, sound_as, row_a, row_b, row_c, row_holds}
use Rattle.lineage.proofs.Accepted.{accepted_plan, apply_holds}
use Rattle.trees.specs.Trees.{row_bytes, children}
use Rattle.trees.specs.Demand.{Children, EveryChild}

module _ (head plan : List ℕ) (i : ℕ) (low : i < 64) (holds : row_holds head plan i ≡ true) where
  -- 255 is no row of a plan of 64
  no_second : row_c plan i ≡ 255 → names plan i (row_c plan i) ≡ false
  unfolding names
  no_second e = rw (e, le-ltb 255 i (omega arith))

  second :
      (row_c plan i ≡ 255 → ⊥)
      → (eqb (row_c plan i) 255 || names plan i (row_c plan i)) ≡ true
      → names plan i (row_c plan i) ≡ true
  second n h = rw (ne_eqb (row_c plan i) 255 n) at h

  choose_named :
      kind_at plan i ≡ Choose
      → (names plan i (row_a plan i) ≡ true) × (names plan i (row_b plan i) ≡ true) × (names plan i (row_c plan i) ≡ true)
  unfolding row_holds sound_as
  choose_named k =
      let a =
      and_both (names plan i (row_a plan i)) (names plan i (row_b plan i) && names plan i (row_c plan i)) (rw k at holds) in
      let b = and_both (names plan i (row_b plan i)) (names plan i (row_c plan i)) a.1 in
      (a.0, b.0, b.1)

  abbrev named : ℕ → Bool
  named = names plan i

  none_kept : keep named [] ≡ []
  unfolding keep
  none_kept = refl

  row_children : Children plan i
  unfolding children row_bytes
  row_children =
      let a = row_a plan i in
      let b = row_b plan i in
      let c = row_c plan i in
      record {
        column = λ k. rw k none_kept;
        apply_one = λ k e.
            let h = apply_holds head plan i holds k in
            rw k (keep_in named b (c ∷ []) h.1 ∙ ap (λ xs. b ∷ xs) (keep_out named c [] (no_second e) ∙ none_kept));
        apply_two = λ k n.
            let h = apply_holds head plan i holds k in
            rw k (two b c h.1 (second n h.2));
        choose = λ k.
            let h = choose_named k in
            rw k (keep_in named a (b ∷ c ∷ []) h.0 ∙ ap (λ xs. a ∷ xs) (two b c h.1 h.2));
      }
    where
      two : (x y : ℕ) → named x ≡ true → named y ≡ true → keep named (x ∷ y ∷ []) ≡ x ∷ y ∷ []
      two x y p q =
          keep_in named x (y ∷ []) p ∙ ap (λ xs. x ∷ xs) (keep_in named y [] q ∙ ap (λ xs. y ∷ xs) none_kept)

pub every_child : (book plan : List ℕ) → EveryChild book plan
every_child book plan both i there =
    let p = accepted_plan (head_of book) plan both.1 in
    let s = p.short in
    let l : i < length plan / 4 = there in
    row_children (head_of book) plan i (omega arith) (p.rows i there)
