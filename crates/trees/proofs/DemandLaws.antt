-- What Tree's numbers say of the buffer, and when nothing is refused. Assumes nothing.
use Prim.Native.Nat.{ℕ, ◌/◌, ◌<◌}
use native.Mathlib.Omega.{arith}
use mathlib.Core.Path.{◌≡◌, refl, sym, ap, ◌∙◌}
use mathlib.Core.List.{List, ◌++◌}
use lib.ListN.{length, drop, length-append, length-drop}
use lib.Seq.{take-append_seam, drop-append_seam}
use lib.Dec.{leb}
use borrow.Author.Tests.{leb-true, le-leb, lt-ltb}
use Rattle.book.specs.Blocks.{head_of}
use Rattle.std.specs.Prelude.{Result, Ok, Err, IfOk}
use Rattle.book.specs.Tests.{Outcome, Passes, answered, first_failing, refused_or}
use Rattle.book.specs.Refusals.{book_tests}
use Rattle.book.specs.declared.refusal.Refusal.{Refusal}
use Rattle.book.specs.declared.refusal.Refusal.TheVariants.{TreeSize}
use Rattle.book.proofs.Lists.{and_both}
use Rattle.book.proofs.Answers.{answered_passed, append_passed, first_append, last_passed}
use Rattle.lineage.specs.Rows.{row_count}
use Rattle.lineage.specs.Answers.{plan_tests}
use Rattle.lineage.proofs.Accepted.{accepted_plan}
use Rattle.trees.specs.Trees.{node_count}
use Rattle.trees.specs.Text.{tree_text, line_count}
use Rattle.trees.specs.Answers.{is_value_row, value_tests, tree_fits, room_tests, tree_row_tests, tree_tests, drawn, tree_answer}
use Rattle.trees.specs.Answers.{written, tree_buffer}
use Rattle.trees.specs.Demand.{TreeAccepted, Draws}
use Rattle.trees.specs.declared.Written.{Written}
use Rattle.trees.proofs.TreeLaws.{tree_few, tree_lines, tree_short, tree_some}
use Rattle.trees.proofs.TreeAnswers.{row_accepted}

module _ (book plan : List ℕ) (i : ℕ) (buffer : List ℕ) where
  -- what is tested where nothing is refused
  pub tree_accepted : Passes (tree_tests book plan i buffer) → TreeAccepted book plan i buffer
  unfolding tree_tests room_tests tree_fits
  tree_accepted h =
      let parts = append_passed (tree_row_tests book plan i) (room_tests plan i buffer) h in
      let row = row_accepted book plan i parts.0 in
      let room =
      and_both (leb (node_count plan i) 4096) (leb (length (tree_text plan i)) (length buffer))
      (last_passed TreeSize (tree_fits plan i (length buffer)) parts.1) in
      record {
        both = row.0;
        there = row.1;
        value = row.2;
        few = leb-true (node_count plan i) 4096 room.0;
        fits = leb-true (length (tree_text plan i)) (length buffer) room.1;
      }

  pub accepted_tree : TreeAccepted book plan i buffer → Passes (tree_tests book plan i buffer)
  unfolding tree_tests tree_row_tests value_tests is_value_row room_tests tree_fits first_failing
  accepted_tree a =
      rw (
        first_append (book_tests book ++ plan_tests (head_of book) plan ++ value_tests plan i) (room_tests plan i buffer),
        first_append (book_tests book ++ plan_tests (head_of book) plan) (value_tests plan i),
        first_append (book_tests book) (plan_tests (head_of book) plan),
        a.both.0,
        a.both.1,
        lt-ltb i (row_count plan) a.there,
        a.value,
        le-leb (node_count plan i) 4096 a.few,
        le-leb (length (tree_text plan i)) (length buffer) a.fits,
      )

  -- an accepted plan has at most 64 rows
  value_low : TreeAccepted book plan i buffer → i < 64
  value_low a =
      let l : i < length plan / 4 = a.there in
      let s = (accepted_plan (head_of book) plan a.both.1).short in
      omega arith

  -- the buffer with the text at its front
  pub accepted_draws :
      TreeAccepted book plan i buffer
      → Draws plan i buffer (written (tree_text plan i) buffer) (node_count plan i) (length (tree_text plan i))
  unfolding written
  accepted_draws a =
      let text = tree_text plan i in
      let front = take-append_seam text (drop (length text) buffer) in
      let l = length-append text (drop (length text) buffer) in
      let d = length-drop (length text) buffer in
      let f = a.fits in
      record {
        front = front;
        rest = drop-append_seam text (drop (length text) buffer);
        fits = f;
        whole = omega arith;
        count = refl;
        lines = ap line_count front ∙ tree_lines plan i;
        some = tree_some plan i;
        most = a.few;
        powers = tree_few plan i;
        short = tree_short plan i (value_low a);
      }

  -- The answer and the buffer, by the outcome of the tests

  by_tests :
      (P : Result Written Refusal → List ℕ → Type 0)
      → ((x : Refusal) → P (Err x) buffer)
      → (Passes (tree_tests book plan i buffer) → P (Ok (drawn plan i)) (written (tree_text plan i) buffer))
      → P (tree_answer book plan i buffer) (tree_buffer book plan i buffer)
  unfolding tree_answer tree_buffer answered refused_or
  by_tests P refused passed = go (first_failing (tree_tests book plan i buffer)) refl
    where
      go :
          (t : Outcome)
          → first_failing (tree_tests book plan i buffer) ≡ t
          → P (refused_or t Err (Ok (drawn plan i)))
          (refused_or t (λ refusal. buffer) (written (tree_text plan i) buffer))
      go (Ok done) e = passed e
      go (Err x) e = refused x

  written_told :
      (nodes bytes : ℕ)
      → tree_answer book plan i buffer ≡ Ok (record { nodes = nodes; length = bytes })
      → TreeAccepted book plan i buffer × Draws plan i buffer (tree_buffer book plan i buffer) nodes bytes
  unfolding drawn
  written_told nodes bytes =
      by_tests
      (λ a b. a ≡ Ok (record { nodes = nodes; length = bytes }) → TreeAccepted book plan i buffer × Draws plan i buffer b nodes bytes)
      (λ x e. let z : ◌≡◌ {A = ℕ} 0 1 = cc in absurd (omega arith))
      (λ t e.
      let w : drawn plan i ≡ record { nodes = nodes; length = bytes } = cc in
      let n : node_count plan i ≡ nodes = ap (λ w. w.nodes) w in
      let b : length (tree_text plan i) ≡ bytes = ap (λ w. w.length) w in
      (tree_accepted t, rw (sym n, sym b) (accepted_draws (tree_accepted t))))

  pub answer_accepted :
      (nodes bytes : ℕ) → tree_answer book plan i buffer ≡ Ok (record { nodes = nodes; length = bytes }) → TreeAccepted book plan i buffer
  answer_accepted nodes bytes e = (written_told nodes bytes e).0

  pub answer_draws :
      (nodes bytes : ℕ)
      → tree_answer book plan i buffer ≡ Ok (record { nodes = nodes; length = bytes })
      → Draws plan i buffer (tree_buffer book plan i buffer) nodes bytes
  answer_draws nodes bytes e = (written_told nodes bytes e).1

  pub answer_refused :
      (x : Refusal) → tree_answer book plan i buffer ≡ Err x → tree_buffer book plan i buffer ≡ buffer
  unfolding drawn
  answer_refused x =
      by_tests (λ a b. a ≡ Err x → b ≡ buffer) (λ y e. refl)
      (λ t e. let z : ◌≡◌ {A = ℕ} 0 1 = cc in absurd (omega arith))

  pub tree_unrefused :
      TreeAccepted book plan i buffer → (x : Refusal) → tree_answer book plan i buffer ≡ Err x → ⊥
  unfolding tree_answer drawn
  tree_unrefused given x h =
      let e =
      sym (answered_passed (tree_tests book plan i buffer) Err (Ok (drawn plan i)) (accepted_tree given)) ∙ h in
      let z : ◌≡◌ {A = ℕ} 0 1 = cc in
      omega arith

  -- of the answer itself
  pub tree_draws :
      (r : Result Written Refusal) (after : List ℕ)
      → r ≡ tree_answer book plan i buffer
      → after ≡ tree_buffer book plan i buffer
      → IfOk r (λ w. Draws plan i buffer after w.nodes w.length)
  tree_draws (Ok w) after er ea = rw ea (answer_draws w.nodes w.length (sym er))
  tree_draws (Err x) after er ea = tt
