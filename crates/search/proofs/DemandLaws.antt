-- Demand 3: what Idle's answer says, for every accepted book, rule and buffer that is long enough. Assumes nothing.
use Prim.Native.Nat.{ℕ, ◌*◌, ◌^◌, ◌≤◌, ◌<◌}
use native.Mathlib.Omega.{arith}
use mathlib.Core.Path.{◌≡◌, refl, sym, ap, subst, ◌∙◌}
use mathlib.Core.Logic.{inl, inr, ⊎_elim}
use mathlib.Core.Bool.{Bool, true, false, false≢true}
use mathlib.Core.List.{List, ◌++◌}
use lib.ListN.{length, take, drop}
use lib.Seq.{take-append_seam, drop-append_seam}
use lib.Dec.{eqb}
use lib.Pow.{pow-lt}
use borrow.Author.Tests.{eqb-true, eqb-false, le-leb, lt-ltb}
use Rattle.book.specs.Blocks.{head_of, rule_at, rule_count}
use Rattle.book.specs.Head.{is_user}
use Rattle.book.specs.Tests.{Passes, first_failing}
use Rattle.book.specs.Refusals.{BookAccepted, book_tests}
use Rattle.book.proofs.Accepted.{accepted_head, accepted_rule}
use Rattle.book.proofs.Answers.{answered_passed}
use Rattle.book.proofs.Calls.{passed_both}
use Rattle.book.proofs.Members.{has_single, same_members}
use Rattle.lineage.specs.Rows.{row_count}
use Rattle.lineage.specs.Answers.{PlanAccepted}
use Rattle.lineage.proofs.Words.{word_of_law}
use Rattle.verdicts.specs.Accesses.{Accesses, accesses_of}
use Rattle.verdicts.specs.Breaking.{breaks, broken_mask}
use Rattle.verdicts.specs.Answers.{broken, judge_answer}
use Rattle.verdicts.proofs.JudgeLaws.{judge_answer_law, judge_passes}
use Rattle.verdicts.proofs.Verdict.{mask_bit}
use Rattle.search.specs.Choices.{Candidate, candidate_before}
use Rattle.search.specs.Shown.{shown_plan}
use Rattle.search.specs.Alone.{First, none, shown, breaks_alone, candidate_alone, first_alone, plan_breaks_alone}
use Rattle.search.specs.Answers.{rule_tests, buffer_tests, idle_tests, idle, needed, idleness_of, idle_answer, written}
use Rattle.search.specs.Answers.{idle_buffer}
use Rattle.search.specs.Demand.{IdleAccepted, Demand3, NobodyAlone, ShownFirst, ShownIn}
use Rattle.std.specs.Prelude.{Err}
use Rattle.search.proofs.ShownPlans.{shown_accepted, shown_few, shown_whole}
use Rattle.search.proofs.Orders.{candidate, none_alone, shown_alone}
use Rattle.search.proofs.AloneLaws.{alone_breaks, alone_spares, plan_candidate}

-- Judge's mask

-- one rule broken alone is a mask of one bit
pub alone_mask :
    (book : List ℕ) (r user : ℕ) (D : Accesses)
    → r < rule_count book
    → breaks_alone book r user D ≡ true
    → broken_mask book user D ≡ 2 ^ r
unfolding broken_mask
alone_mask book r user D l h =
    let n = rule_count book in
    let broken : ℕ → Bool = λ q. breaks (head_of book) (rule_at book q) user D in
    same_members n (broken_mask book user D) (2 ^ r) (word_of_law broken n).0 (pow-lt l)
    (λ q k. mask_bit book user D q ∙ rw (lt-ltb q n k, has_single q r) (bit q k (eqb q r) refl))
  where
    bit : (q : ℕ) → q < rule_count book → (b : Bool) → eqb q r ≡ b → breaks (head_of book) (rule_at book q) user D ≡ b
    bit q k true e = rw (eqb-true q r e) (alone_breaks book r user D h)
    bit q k false e = alone_spares book r user D h q k (eqb-false q r e)

pub judged_alone :
    (book : List ℕ)
    → BookAccepted book
    → (r user : ℕ) (plan : List ℕ)
    → r < rule_count book
    → is_user (head_of book) user ≡ true
    → PlanAccepted (head_of book) plan
    → plan_breaks_alone book r user plan ≡ true
    → judge_answer book user plan ≡ broken (2 ^ r)
unfolding plan_breaks_alone
judged_alone book accepted r user plan l u plans h =
    judge_answer_law book user plan
    (judge_passes book user plan (record { book_accepted = accepted; a_user = u; plan_accepted = plans }))
    ∙ ap broken (alone_mask book r user (accesses_of (head_of book) plan) l h)

-- The answer and the buffer of an accepted call

module _ (book : List ℕ) (r : ℕ) (buffer : List ℕ) (accepted : IdleAccepted book r buffer) where
  rule_passes : Passes (rule_tests book r)
  unfolding rule_tests first_failing
  rule_passes = rw (lt-ltb r (rule_count book) accepted.rule_there)

  buffer_passes : Passes (buffer_tests buffer)
  unfolding buffer_tests first_failing
  buffer_passes = rw (le-leb 36 (length buffer) accepted.long)

  pub idle_passes : Passes (idle_tests book r buffer)
  unfolding idle_tests
  idle_passes =
      passed_both (book_tests book ++ rule_tests book r) (buffer_tests buffer)
      (passed_both (book_tests book) (rule_tests book r) accepted.book_accepted rule_passes) buffer_passes

  pub idle_answer_law : idle_answer book r buffer ≡ idleness_of (head_of book) (first_alone book r)
  unfolding idle_answer
  idle_answer_law = answered_passed (idle_tests book r buffer) Err (idleness_of (head_of book) (first_alone book r)) idle_passes

  pub idle_buffer_law : idle_buffer book r buffer ≡ written (head_of book) (first_alone book r) buffer
  unfolding idle_buffer
  idle_buffer_law =
      answered_passed (idle_tests book r buffer) (λ refusal. buffer) (written (head_of book) (first_alone book r) buffer)
      idle_passes

-- What is shown

module _ (book : List ℕ) (accepted : BookAccepted book) (r : ℕ) (l : r < rule_count book) where
  -- no choice breaks r alone, so no accepted plan does
  pub none_nobody : first_alone book r ≡ none → NobodyAlone book r
  none_nobody e user plan u plans = go (plan_breaks_alone book r user plan) refl
    where
      go : (b : Bool) → plan_breaks_alone book r user plan ≡ b → b ≡ false
      go false h = refl
      go true h =
          let c = plan_candidate book accepted r l user plan plans h in
          absurd (false≢true (sym (none_alone book accepted r l e (candidate user c.0) u c.1) ∙ c.2))

  module _ (c : Candidate) (e : first_alone book r ≡ shown c) where
    pub shown_plan_law : ShownFirst book r c.user (shown_plan (head_of book) c.choice)
    unfolding candidate_alone
    shown_plan_law =
        let s = shown_alone book accepted r l c e in
        let most = (accepted_rule book accepted r l).references_most in
        let plan = shown_plan (head_of book) c.choice in
        let plans =
        shown_accepted (head_of book) (rule_at book r) (accepted_head book accepted) most c.choice s.1 in
        record {
          a_user = s.0;
          accepted = plans;
          form = record { choice = c.choice; chosen = s.1; rows = refl };
          alone = s.2;
          first =
              λ other later form u h.
              ⊎_elim
              (λ (q : candidate other form.choice ≡ c).
              inl (
                ap (λ (d : Candidate). d.user) q,
                form.rows ∙ ap (λ (d : Candidate). shown_plan (head_of book) d.choice) q,
              ))
              (λ (b : candidate_before c (candidate other form.choice) ≡ true). inr b)
              (s.3 (candidate other form.choice) u form.chosen
              (subst (λ (p : List ℕ). plan_breaks_alone book r other p ≡ true) form.rows h));
          judged = judged_alone book accepted r c.user plan l s.0 plans s.2;
        }

    pub shown_in :
        (buffer : List ℕ)
        → ShownIn book r buffer (written (head_of book) (shown c) buffer) c.user
        (row_count (shown_plan (head_of book) c.choice))
    unfolding written
    shown_in buffer =
        let s = shown_alone book accepted r l c e in
        let most = (accepted_rule book accepted r l).references_most in
        let holds = accepted_head book accepted in
        in_front (shown_plan (head_of book) c.choice) buffer
        (shown_whole (head_of book) (rule_at book r) holds most c.choice s.1)
        (shown_few (head_of book) (rule_at book r) holds most c.choice s.1) shown_plan_law
      where
        in_front :
            (plan buffer : List ℕ)
            → length plan ≡ 4 * row_count plan
            → row_count plan ≤ 9
            → ShownFirst book r c.user plan
            → ShownIn book r buffer (plan ++ drop (length plan) buffer) c.user (row_count plan)
        in_front plan buffer whole few shows =
            let front : take (4 * row_count plan) (plan ++ drop (length plan) buffer) ≡ plan =
            rw (← whole) (take-append_seam plan (drop (length plan) buffer)) in
            record {
              few = few;
              long = rw front whole;
              rest = rw (← whole) (drop-append_seam plan (drop (length plan) buffer));
              shows = rw front shows;
            }

-- Demand 3

unlike : (user rows : ℕ) → needed user rows ≡ idle → ⊥
unlike user rows e =
    let z : ◌≡◌ {A = ℕ} 0 1 = cc in
    omega arith

pub demand :
    (book : List ℕ) (r : ℕ) (buffer : List ℕ)
    → IdleAccepted book r buffer
    → Demand3 book r buffer (idle_buffer book r buffer) (idle_answer book r buffer)
unfolding written idleness_of
demand book r buffer given =
    rw (idle_buffer_law book r buffer given, idle_answer_law book r buffer given)
    (go (first_alone book r) refl given.book_accepted given.rule_there)
  where
    go :
        (f : First Candidate)
        → first_alone book r ≡ f
        → BookAccepted book
        → r < rule_count book
        → Demand3 book r buffer (written (head_of book) f buffer) (idleness_of (head_of book) f)
    go none e accepted l =
        record {
          idle_nobody = λ i. none_nobody book accepted r l e;
          nobody_idle = λ h. refl;
          idle_keeps = λ i. refl;
          otherwise = λ h. absurd (h refl);
        }
    go (shown c) e accepted l =
        let plan = shown_plan (head_of book) c.choice in
        let first = shown_plan_law book accepted r l c e in
        record {
          idle_nobody = λ i. absurd (unlike c.user (row_count plan) i);
          nobody_idle =
              λ h. absurd (false≢true (sym (h c.user plan first.a_user first.accepted) ∙ first.alone));
          idle_keeps = λ i. absurd (unlike c.user (row_count plan) i);
          otherwise = λ h. (c.user, row_count plan, refl, shown_in book accepted r l c e buffer);
        }
