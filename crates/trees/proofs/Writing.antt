-- Laws of a text that is written part by part to the front of a lent slice. Assumes nothing.
use Prim.Native.Nat.{ℕ, ◌+◌, ◌≤◌}
use native.Mathlib.Omega.{arith}
use mathlib.Core.Path.{◌≡◌, sym}
use mathlib.Core.List.{List, ◌++◌, append_assoc, append-nil}
use lib.ListN.{length, take, drop, length-append, length-drop}
use lib.Seq.{take_all, take-append_seam, drop-append_seam}
use Rattle.std.proofs.lemmas.List.{drop-drop, drop_all}
use Rattle.trees.specs.Answers.{written}

-- a slice with these bytes in the place of the k from m on
abbrev pub with_part : (m k : ℕ) (slice bytes : List ℕ) → List ℕ
with_part m k s b = take m s ++ (b ++ drop k (drop m s))

-- a part more, of as many bytes as it has
pub written_part :
    (a b s : List ℕ) (m k : ℕ) → m ≡ length a → k ≡ length b → with_part m k (written a s) b ≡ written (a ++ b) s
unfolding written
written_part a b s m k e f =
    rw (
      e,
      f,
      take-append_seam a (drop (length a) s),
      drop-append_seam a (drop (length a) s),
      drop-drop (length b) (length a) s,
      length-append a b,
    )
    (sym (append_assoc a b (drop (length a + length b) s)))

-- a part more, at the front of all that is left
pub written_rest :
    (a b s : List ℕ) (m k : ℕ)
    → m ≡ length a
    → length s ≤ m + k
    → with_part m k (written a s) (written b (take k (drop m (written a s)))) ≡ written (a ++ b) s
unfolding written
written_rest a b s m k e h =
    let rest = drop (length a) s in
    let l = length-drop (length a) s in
    let whole = take_all k rest (omega arith) in
    let past = drop_all k rest (omega arith) in
    rw (
      e,
      take-append_seam a rest,
      drop-append_seam a rest,
      whole,
      past,
      append-nil (b ++ drop (length b) rest),
      drop-drop (length b) (length a) s,
      length-append a b,
    )
    (sym (append_assoc a b (drop (length a + length b) s)))
