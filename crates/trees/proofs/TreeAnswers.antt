-- Tree's answer and the buffer on leaving, from the list of nodes, their text and the outcome of the tests. Assumes
-- nothing.
use Prim.Native.Nat.{ℕ, ◌≤◌, ◌<◌, ◌/◌}
use native.Mathlib.Omega.{arith}
use mathlib.Core.Path.{◌≡◌, sym, ap, ◌∙◌}
use mathlib.Core.Bool.{Bool, true, false, ◌&&◌}
use mathlib.Core.List.{List, [], ◌∷◌, ◌++◌}
use lib.ListN.{length}
use lib.Dec.{ltb, leb}
use borrow.Author.Tests.{ltb-true, le-leb, lt-leb}
use Rattle.book.specs.Blocks.{head_of}
use Rattle.book.specs.Tests.{Outcome, Passes, answered, first_failing}
use Rattle.book.specs.Refusals.{book_tests}
use Rattle.std.specs.Prelude.{Result, Ok, Err}
use Rattle.book.specs.declared.refusal.Refusal.{Refusal}
use Rattle.book.specs.declared.refusal.Refusal.TheVariants.{NoValueRow, TreeSize}
use Rattle.book.proofs.Lists.{and_both, and_false}
use Rattle.book.proofs.Answers.{answered_after, answered_passed, answered_refused, append_passed, append_refused}
use Rattle.book.proofs.Answers.{last_passed}
use Rattle.lineage.specs.Rows.{row_count, kind_byte, kind_of, kind_at, is_value}
use Rattle.lineage.specs.Answers.{BothAccepted, plan_tests}
use Rattle.lineage.proofs.Accepted.{accepted_plan}
use Rattle.trees.specs.Trees.{tree_nodes, node_count}
use Rattle.trees.specs.declared.walking.Node.{Node}
use Rattle.trees.specs.Text.{text_of, tree_text}
use Rattle.trees.specs.Answers.{is_value_row, value_tests, tree_fits, room_tests, tree_row_tests, tree_tests, drawn, tree_answer}
use Rattle.trees.specs.Answers.{written, tree_buffer}
use Rattle.trees.specs.declared.Written.{Written}

-- 29

pub value_joined :
    (plan : List ℕ) (i n : ℕ) (there value : Bool) (r : Outcome)
    → n ≡ kind_byte plan i
    → there ≡ ltb i (row_count plan)
    → value ≡ is_value (kind_of n)
    → r ≡ first_failing ((NoValueRow, there && value) ∷ [])
    → r ≡ first_failing (value_tests plan i)
unfolding value_tests is_value_row kind_at
value_joined plan i n there value r en et ev er =
    er
    ∙ ap (λ b. first_failing ((NoValueRow, b && value) ∷ [])) et
    ∙ ap (λ b. first_failing ((NoValueRow, ltb i (row_count plan) && b) ∷ [])) (ev ∙ ap (λ k. is_value (kind_of k)) en)

-- 30

module _ (plan : List ℕ) (i : ℕ) (buffer : List ℕ) where
  abbrev Answered : Result Written Refusal → List ℕ → Type 0
  Answered answer after =
      (answer ≡ answered (room_tests plan i buffer) Err (Ok (drawn plan i)))
      × (after ≡ answered (room_tests plan i buffer) (λ refusal. buffer) (written (tree_text plan i) buffer))

  unfit :
      tree_fits plan i (length buffer) ≡ false
      → Answered (Err TreeSize) buffer
  unfolding room_tests first_failing
  unfit h =
      let tests = room_tests plan i buffer in
      let fails : first_failing tests ≡ Err TreeSize = rw h in (
        sym (answered_refused tests Err (Ok (drawn plan i)) TreeSize fails),
        sym (answered_refused tests (λ refusal. buffer) (written (tree_text plan i) buffer) TreeSize fails),
      )

  fit : tree_fits plan i (length buffer) ≡ true → Answered (Ok (drawn plan i)) (written (tree_text plan i) buffer)
  unfolding room_tests first_failing
  fit h = (
    sym (answered_passed (room_tests plan i buffer) Err (Ok (drawn plan i)) (rw h)),
    sym (answered_passed (room_tests plan i buffer) (λ refusal. buffer) (written (tree_text plan i) buffer) (rw h)),
  )

  pub tree_many :
      4096 < node_count plan i → Answered (Err TreeSize) buffer
  unfolding tree_fits
  tree_many h = unfit (rw (lt-leb (node_count plan i) 4096 h))

  tree_long :
      length buffer < length (tree_text plan i) → Answered (Err TreeSize) buffer
  unfolding tree_fits
  tree_long h =
      unfit (rw (lt-leb (length (tree_text plan i)) (length buffer) h) (and_false (leb (node_count plan i) 4096)))

  tree_written :
      node_count plan i ≤ 4096
      → length (tree_text plan i) ≤ length buffer
      → Answered (Ok (drawn plan i)) (written (tree_text plan i) buffer)
  unfolding tree_fits
  tree_written h l =
      fit (rw (le-leb (node_count plan i) 4096 h, le-leb (length (tree_text plan i)) (length buffer) l))

  -- of nodes that are all listed, and their text
  module _ (nodes : List Node) (bytes : ℕ) (listed : nodes ≡ tree_nodes plan i)
      (measured : bytes ≡ length (text_of plan nodes))
    where
      text_is : text_of plan nodes ≡ tree_text plan i
      unfolding tree_text
      text_is = ap (text_of plan) listed

      pub told_long : length buffer < bytes → Answered (Err TreeSize) buffer
      told_long h =
          let l = measured ∙ ap length text_is in
          tree_long (omega arith)

      pub told_written :
          (after : List ℕ)
          → length nodes ≤ 4096
          → bytes ≤ length buffer
          → (length (text_of plan nodes) ≤ length buffer → after ≡ written (text_of plan nodes) buffer)
          → Answered (Ok (record { nodes = length nodes; length = bytes })) after
      unfolding drawn node_count
      told_written after few h w =
          let n = ap length listed in
          let l = measured ∙ ap length text_is in
          let e = tree_written (omega arith) (omega arith) in (
            ap (λ k. Ok (record { nodes = k; length = bytes })) n ∙ ap (λ k. Ok (record { nodes = length (tree_nodes plan i); length = k })) l ∙ e.0,
            w (omega arith) ∙ ap (λ t. written t buffer) text_is ∙ e.1,
          )

-- The whole answer

module _ (book plan : List ℕ) (i : ℕ) where
  pub row_accepted :
      Passes (tree_row_tests book plan i) → BothAccepted book plan × (i < row_count plan) × (is_value (kind_at plan i) ≡ true)
  unfolding tree_row_tests value_tests is_value_row
  row_accepted h =
      let last = append_passed (book_tests book ++ plan_tests (head_of book) plan) (value_tests plan i) h in
      let both =
      and_both (ltb i (row_count plan)) (is_value (kind_at plan i)) (last_passed NoValueRow (is_value_row plan i) last.1) in (
        append_passed (book_tests book) (plan_tests (head_of book) plan) last.0,
        ltb-true i (row_count plan) both.0,
        both.1,
      )

  -- an accepted plan has at most 64 rows
  pub row_low : Passes (tree_row_tests book plan i) → i < 64
  row_low h =
      let a = row_accepted h in
      let l : i < length plan / 4 = a.1 in
      let s = (accepted_plan (head_of book) plan a.0.1).short in
      omega arith

module _ (book plan : List ℕ) (i : ℕ) (buffer : List ℕ) where
  pub tree_refused :
      (r : Refusal)
      → first_failing (tree_row_tests book plan i) ≡ Err r
      → (Err r ≡ tree_answer book plan i buffer) × (buffer ≡ tree_buffer book plan i buffer)
  unfolding tree_answer tree_buffer tree_tests
  tree_refused r h =
      let e = append_refused (tree_row_tests book plan i) (room_tests plan i buffer) r h in (
        sym (answered_refused (tree_tests book plan i buffer) Err (Ok (drawn plan i)) r e),
        sym (answered_refused (tree_tests book plan i buffer) (λ refusal. buffer) (written (tree_text plan i) buffer) r e),
      )

  pub tree_answered :
      Passes (tree_row_tests book plan i)
      → (answer : Result Written Refusal) (after : List ℕ)
      → Answered plan i buffer answer after
      → (answer ≡ tree_answer book plan i buffer) × (after ≡ tree_buffer book plan i buffer)
  unfolding tree_answer tree_buffer tree_tests
  tree_answered h answer after a = (
    a.0 ∙ sym (answered_after (tree_row_tests book plan i) (room_tests plan i buffer) Err (Ok (drawn plan i)) h),
    a.1
        ∙ sym
        (answered_after (tree_row_tests book plan i) (room_tests plan i buffer) (λ refusal. buffer)
        (written (tree_text plan i) buffer) h),
  )
