-- Laws of a text of several lines: one line more, as many line feeds as nodes, at most 136 bytes a node. Assumes
-- nothing.
use Prim.Native.Nat.{ℕ, ◌+◌, ◌-◌, ◌*◌, ◌≤◌, ◌<◌}
use native.Mathlib.Numerals.{add-one}
use native.Mathlib.Omega.{arith}
use mathlib.Core.Path.{◌≡◌, refl, sym, ap, ◌∙◌}
use mathlib.Core.Bool.{true}
use mathlib.Core.List.{List, [], ◌∷◌, ◌++◌, append_assoc, append-nil}
use lib.ListN.{length, length-append, length-drop, get_or, take, drop}
use Rattle.std.proofs.lemmas.List.{take-append-drop}
use lib.Seq.{take_all, take-suc}
use lib.Dec.{leb}
use borrow.Author.Tests.{leb-true}
use Rattle.book.specs.Lists.{all, flat}
use Rattle.book.proofs.Lists.{and_both}
use Rattle.trees.specs.declared.walking.Node.{Node}
use Rattle.trees.specs.Text.{line_text, text_of, line_count}
use Rattle.trees.specs.Answers.{written}
use Rattle.trees.proofs.LineLaws.{line_short, feeds_append, feeds_line}
use Rattle.trees.proofs.Writing.{with_part, written_rest}

module _ (plan : List ℕ) where
  pub text_none : text_of plan [] ≡ []
  unfolding text_of flat
  text_none = refl

  pub text_cons : (n : Node) (ns : List Node) → text_of plan (n ∷ ns) ≡ line_text plan n ++ text_of plan ns
  unfolding text_of flat
  text_cons n ns = refl

  lines_append : (xs ys : List Node) → text_of plan (xs ++ ys) ≡ text_of plan xs ++ text_of plan ys
  unfolding text_of flat
  lines_append [] ys = refl
  lines_append (x ∷ xs) ys =
      ap (λ t. line_text plan x ++ t) (lines_append xs ys)
      ∙ sym (append_assoc (line_text plan x) (text_of plan xs) (text_of plan ys))

  -- one line more
  module _ (xs : List Node) (k : ℕ) (d : Node) (h : k < length xs) where
    lines_more : text_of plan (take (k + 1) xs) ≡ text_of plan (take k xs) ++ line_text plan (get_or xs k d)
    lines_more =
        rw (
          add-one k,
          take-suc xs k d h,
          lines_append (take k xs) (get_or xs k d ∷ []),
          text_cons (get_or xs k d) [],
          text_none,
        )
        (ap (λ t. text_of plan (take k xs) ++ t) (append-nil (line_text plan (get_or xs k d))))

    lines_within : length (text_of plan (take k xs)) + length (line_text plan (get_or xs k d)) ≤ length (text_of plan xs)
    lines_within =
        let front = take (k + 1) xs in
        let e = length-append (text_of plan front) (text_of plan (drop (k + 1) xs)) in
        let f = ap length (sym (lines_append front (drop (k + 1) xs)) ∙ ap (text_of plan) (take-append-drop (k + 1) xs)) in
        let g = length-append (text_of plan (take k xs)) (line_text plan (get_or xs k d)) in
        let h = ap length lines_more in
        omega arith

    -- one line more, at the front of all that is left
    pub lines_written :
        (buffer now line : List ℕ) (at more j : ℕ)
        → length now ≡ length buffer
        → at ≤ length now
        → j ≡ length now - at
        → length (text_of plan xs) ≤ length buffer
        → (now ≡ written (text_of plan (take k xs)) buffer) × (at ≡ length (text_of plan (take k xs)))
        → (length (line_text plan (get_or xs k d)) ≤ length (take j (drop at now))
        → (line ≡ written (line_text plan (get_or xs k d)) (take j (drop at now)))
        × (more ≡ length (line_text plan (get_or xs k d))))
        → (with_part at j now line ≡ written (text_of plan (take (k + 1) xs)) buffer)
        × (at + more ≡ length (text_of plan (take (k + 1) xs)))
    lines_written buffer now line at more j same low ej room before step =
        let l = length-drop at now in
        let w = lines_within in
        let rest = ap length (take_all j (drop at now) (omega arith)) in
        let s = step (omega (arith, rest, before.1)) in
        let g = length-append (text_of plan (take k xs)) (line_text plan (get_or xs k d)) in
        let m = ap length lines_more in (
          rw (s.0, before.0, lines_more)
              (written_rest (text_of plan (take k xs)) (line_text plan (get_or xs k d)) buffer at j before.1 (omega arith)),
          omega (arith, s.1, before.1),
        )

    pub lines_length :
        (sum more : ℕ)
        → sum ≡ length (text_of plan (take k xs))
        → more ≡ length (line_text plan (get_or xs k d))
        → sum + more ≡ length (text_of plan (take (k + 1) xs))
    lines_length sum more e f =
        let g = length-append (text_of plan (take k xs)) (line_text plan (get_or xs k d)) in
        rw lines_more (omega arith)

  -- as many lines as nodes
  pub feeds_text : (ns : List Node) → line_count (text_of plan ns) ≡ length ns
  unfolding line_count text_of flat
  feeds_text [] = refl
  feeds_text (n ∷ ns) =
      let e = feeds_append (line_text plan n) (text_of plan ns) in
      let f = feeds_line plan n in
      let g = feeds_text ns in
      omega arith

  -- 63 levels below the top: 126 spaces, 2 digits, a space, 6 letters and the line feed are 136 bytes
  pub text_short :
      (ns : List Node)
      → all (λ n. leb (n.level + n.row) 63) ns ≡ true
      → length (text_of plan ns) ≤ 136 * length ns
  unfolding all
  text_short [] h = rw text_none (omega arith)
  text_short (n ∷ ns) h =
      let b = and_both (leb (n.level + n.row) 63) (all (λ n. leb (n.level + n.row) 63) ns) h in
      let l = leb-true (n.level + n.row) 63 b.0 in
      let e = line_short plan n in
      let f = text_short ns b.1 in
      let g = length-append (line_text plan n) (text_of plan ns) in
      rw (text_cons n ns) (omega arith)
