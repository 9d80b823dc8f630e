-- What the numbers of pspec_judge, pspec_idle, pspec_blocked, pspec_culprits, pspec_ask, pspec_commit, pspec_drop and
-- pspec_tree say: the demands, over the packed answer. Assumes nothing.
use Prim.Native.Nat.{ℕ, ◌+◌, ◌-◌, ◌*◌, ◌/◌, ◌%◌, ◌^◌, ◌<◌}
use native.Mathlib.Omega.{arith}
use mathlib.Core.Path.{◌≡◌, refl, sym, ap, subst, ◌∙◌}
use mathlib.Core.Bool.{Bool, true, false, cond}
use mathlib.Core.List.{List}
use lib.Pow.{pow_pos}
use Rattle.book.specs.Blocks.{head_of}
use Rattle.std.specs.Prelude.{Some, None, Result, Ok, Err}
use Rattle.book.specs.Tests.{Outcome, first_failing, refused_or, answered}
use Rattle.book.specs.declared.refusal.Refusal.{Refusal}
use Rattle.ledger.specs.declared.Asked.TheVariants.{Held, Declined}
use Rattle.trees.specs.declared.Written.{Written}
use Rattle.book.proofs.Answers.{refused_passed}
use Rattle.lineage.specs.Accesses.{access_words}
use Rattle.verdicts.specs.Accesses.{accesses_of}
use Rattle.verdicts.specs.Answers.{Judged, judge_answer}
use Rattle.verdicts.specs.Demand.{JudgeAccepted, Demand2}
use Rattle.verdicts.proofs.Gate.{judged_accepted, judged_demand}
use Rattle.verdicts.proofs.JudgeLaws.{judge_answer_law, judge_passes}
use Rattle.verdicts.proofs.Sound.{mask_fits}
use Rattle.ledger.specs.Ledger.{words_of, joined_for}
use Rattle.ledger.specs.Counts.{raised_for}
use Rattle.ledger.specs.Places.{empty_place, place_of, placed, freed}
use Rattle.ledger.specs.Answers.{given_to, ask_tests, ask_accesses, ask_mask, ask_answer, ask_tally, ask_holds}
use Rattle.ledger.specs.Answers.{settle_tests, settle_answer, settle_holds, commit_ledger, commit_tally, drop_tally}
use Rattle.ledger.specs.Histories.{Ask, Commit, Drop}
use Rattle.ledger.specs.Demand.{AskAccepted, Continues, SettleAccepted}
use Rattle.ledger.specs.declared.Tally.{Tally}
use Rattle.ledger.specs.declared.Holds.{Holds}
use Rattle.ledger.proofs.WordLaws.{held_own, other_word}
use Rattle.ledger.proofs.CallLaws.{ask_cases, ask_demand, ask_passes, given_few}
use Rattle.ledger.proofs.CallLaws.{settle_cases, settle_passes, settler_low}
use Rattle.search.specs.Answers.{Idleness, idle, idle_tests, idle_answer, idle_buffer}
use Rattle.search.specs.Alone.{first_alone}
use Rattle.search.specs.Demand.{IdleAccepted}
use Rattle.search.proofs.DemandLaws.{demand, idle_answer_law}
use Rattle.search.proofs.IdleLaws.{idle_accepted, idle_refused, idle_told}
use Rattle.blocked.specs.Associations.{Pair}
use Rattle.blocked.specs.Open.{first_closed}
use Rattle.blocked.specs.Answers.{Blocking, Causes, closed_answer, blocked_answer, culprits_answer, few_answer}
use Rattle.blocked.specs.Answers.{open_answer, unblocked}
use Rattle.blocked.specs.Demand.{BlockedAccepted}
use Rattle.blocked.specs.Minimal.{Behind}
use Rattle.blocked.proofs.DemandLaws as blocked
use Rattle.blocked.proofs.FewLaws as few
use Rattle.trees.specs.Answers.{tree_answer, tree_buffer}
use Rattle.trees.proofs.DemandLaws.{answer_accepted, answer_draws, answer_refused, tree_unrefused}
use Rattle.capi.specs.Packing.{packed, refusal_packed, judge_packed, judge_value, idle_packed, idle_value}
use Rattle.capi.specs.Packing.{blocked_packed, blocked_value, culprits_packed, culprits_value, reply_packed}
use Rattle.capi.specs.Packing.{asked_value, number_value, settle_packed, tree_packed, tree_value}
use Rattle.capi.specs.Demands.{JudgeSays, IdleSays, BlockedParts, BlockedSays, CulpritsSays, AskSays}
use Rattle.capi.specs.Demands.{CommitSays, DropSays, TreeSays}
use Rattle.capi.proofs.Bounds.{judge_small, idle_small, blocked_small, culprits_small, ask_bounded}
use Rattle.capi.proofs.Bounds.{settle_bounded, no_cause_refused, no_refusal, never_refused, tree_small, value_refused}
use Rattle.capi.proofs.Masks.{asking_bits, asking_fits, asking_some}
use Rattle.capi.proofs.Unpacking.{Bytes, closed, refusal_past, same_closed, same_shown, judge_mask, idle_parts, blocked_bytes, tree_parts}

-- Judge

module _ (book : List ℕ) (user : ℕ) (plan : List ℕ) where
  unrefused : JudgeAccepted book user plan → (x : Refusal) → judge_answer book user plan ≡ Err x → ⊥
  unrefused given x h =
      let e = sym (judge_answer_law book user plan (judge_passes book user plan given)) ∙ h in
      let z : ◌≡◌ {A = ℕ} 0 1 = cc in
      omega arith

  pub judge_says : (answer : ℕ) → answer ≡ judge_packed (judge_answer book user plan) → JudgeSays book user plan answer
  unfolding judge_packed judge_value packed
  judge_says answer same = go (judge_answer book user plan) refl
    where
      go : (j : Judged) → judge_answer book user plan ≡ j → JudgeSays book user plan answer
      go (Ok broken) h =
          let mask = broken.mask in
          let e : answer ≡ mask = same ∙ rw h (omega arith) in
          let given = judged_accepted book user plan mask h in
          let low = judge_mask book user plan mask h in
          let holds : Demand2 book user (accesses_of (head_of book) plan) answer =
          subst (Demand2 book user (accesses_of (head_of book) plan)) (sym e) (judged_demand book user plan mask h) in
          record {
            accepted = λ l. given;
            accepts = λ g. omega arith;
            zero_satisfies = holds.zero_satisfies;
            satisfies_zero = λ g s. holds.satisfies_zero s;
            demand = λ l. holds;
          }
      go (Err x) h =
          let e : answer ≡ refusal_packed x = same ∙ rw h in
          let past = refusal_past x (judge_small book user plan x h) in
          record {
            accepted = λ l. absurd (omega arith);
            accepts = λ g. absurd (unrefused g x h);
            zero_satisfies = λ z. absurd (omega arith);
            satisfies_zero = λ g s. absurd (unrefused g x h);
            demand = λ l. absurd (omega arith);
          }

-- Idle

module _ (book : List ℕ) (r : ℕ) (before : List ℕ) where
  answers : IdleAccepted book r before → (x : Refusal) → idle_answer book r before ≡ Err x → ⊥
  answers given x h =
      no_refusal (head_of book) (first_alone book r) x (sym (idle_answer_law book r before given) ∙ h)

  -- a refusal leaves the buffer as it was
  kept : (x : Refusal) → idle_answer book r before ≡ Err x → idle_buffer book r before ≡ before
  kept x h = go (first_failing (idle_tests book r before)) refl
    where
      go : (f : Outcome) → first_failing (idle_tests book r before) ≡ f → idle_buffer book r before ≡ before
      go (Ok done) e = absurd (answers (idle_accepted book r before e) x h)
      go (Err y) e = sym (idle_refused book r before y e).1

  pub idle_says :
      (answer : ℕ) → answer ≡ idle_packed (idle_answer book r before) → IdleSays book r before (idle_buffer book r before) answer
  unfolding idle_packed idle_value packed
  idle_says answer same = go (idle_answer book r before) refl
    where
      go : (a : Idleness) → idle_answer book r before ≡ a → IdleSays book r before (idle_buffer book r before) answer
      go (Ok None) h =
          let e : answer ≡ 0 = same ∙ rw h (omega arith) in
          let given = idle_told book r before (λ x f. value_refused _ x (sym h ∙ f)) in
          let holds = demand book r before given in
          record {
            accepted = λ l. given;
            accepts = λ g. omega arith;
            zero_nobody = λ z. holds.idle_nobody h;
            nobody_zero = λ g n. e;
            shows = λ some low. absurd (omega arith);
            zero_keeps = λ z. holds.idle_keeps h;
            refused_keeps = λ l. absurd (omega arith);
          }
      go (Ok (Some s)) h =
          let user = s.user in
          let rows = s.rows in
          let e : answer ≡ 256 * user + rows = same ∙ rw h (omega arith) in
          let given = idle_told book r before (λ x f. value_refused _ x (sym h ∙ f)) in
          let holds = demand book r before given in
          let parts = idle_parts book r before user rows h in
          let busy : idle_answer book r before ≡ idle → ⊥ =
          λ f. let k = sym h ∙ f in let z : ◌≡◌ {A = ℕ} 0 1 = cc in omega arith in
          let told = holds.otherwise busy in
          let k = same_shown user rows told.0 told.1 (sym h ∙ told.2) in
          let eu : told.0 ≡ answer / 256 = omega (arith, k.0, k.1, parts.1, parts.2, parts.3) in
          let er : told.1 ≡ answer % 256 = omega (arith, k.0, k.1, parts.1, parts.2, parts.3) in
          record {
            accepted = λ l. given;
            accepts = λ g. omega (arith, parts.1, parts.3);
            zero_nobody = λ z. absurd (omega (arith, parts.2));
            nobody_zero = λ g n. absurd (busy (holds.nobody_idle n));
            shows = λ some low. rw (← eu, ← er) told.3;
            zero_keeps = λ z. absurd (omega (arith, parts.2));
            refused_keeps = λ l. absurd (omega (arith, parts.1, parts.3));
          }
      go (Err x) h =
          let e : answer ≡ refusal_packed x = same ∙ rw h in
          let past = refusal_past x (idle_small book r before x h) in
          record {
            accepted = λ l. absurd (omega arith);
            accepts = λ g. absurd (answers g x h);
            zero_nobody = λ z. absurd (omega arith);
            nobody_zero = λ g n. absurd (answers g x h);
            shows = λ some low. absurd (omega arith);
            zero_keeps = λ z. absurd (omega arith);
            refused_keeps = λ l. kept x h;
          }

-- what the number says
pub idle_promised :
    (book : List ℕ) (r : ℕ) (before after : List ℕ) (answer : ℕ)
    → answer ≡ idle_packed (idle_answer book r before)
    → after ≡ idle_buffer book r before
    → IdleSays book r before after answer
idle_promised book r before after answer e b = rw b (idle_says book r before answer e)

-- Blocked

-- the number of a user and three bytes goes apart into these, and into no others
module _ (answer user first second third : ℕ) (e : answer ≡ 16777216 * user + first + 256 * second + 65536 * third)
    (b : Bytes user first second third) where
  apart :
      (answer / 16777216 ≡ user)
      × (answer % 256 ≡ first)
      × (answer / 256 % 256 ≡ second)
      × (answer / 65536 % 256 ≡ third)
  apart = (omega arith, omega arith, omega arith, omega arith)

  parts_of : (p : Pair) → closed user first second third ≡ closed_answer p → BlockedParts answer p
  parts_of p k =
      let same = same_closed user first second third p k in
      record {
        user = apart.0 ∙ same.0;
        first = apart.1 ∙ same.1;
        second = apart.2 ∙ same.2;
        third = apart.3 ∙ same.3;
      }

  of_parts : (p : Pair) → BlockedParts answer p → closed user first second third ≡ closed_answer p
  unfolding closed_answer
  of_parts p parts =
      rw (
        sym apart.0 ∙ parts.user,
        sym apart.1 ∙ parts.first,
        sym apart.2 ∙ parts.second,
        sym apart.3 ∙ parts.third,
      )

module _ (book : List ℕ) (r : ℕ) where
  tells : BlockedAccepted book r → (x : Refusal) → blocked_answer book r ≡ Err x → ⊥
  tells given x h =
      never_refused (first_closed book r) x
      (sym (blocked.blocked_answer_law book r (blocked.blocked_passes book r given)) ∙ h)

  pub blocked_says : (answer : ℕ) → answer ≡ blocked_packed (blocked_answer book r) → BlockedSays book r answer
  unfolding blocked_packed blocked_value packed
  blocked_says answer same = go (blocked_answer book r) refl
    where
      go : (a : Blocking) → blocked_answer book r ≡ a → BlockedSays book r answer
      go (Ok None) h =
          let e : answer ≡ 0 = same ∙ rw h (omega arith) in
          let given =
          blocked.blocked_told book r (λ x f. value_refused _ x (sym h ∙ f)) in
          record {
            accepted = λ l. given;
            accepts = λ g. omega arith;
            zero_none = λ z. (blocked.demand book r given).open_none h;
            none_zero = λ g n. e;
            shows = λ some low. absurd (omega arith);
            named = λ p within parts some low. absurd (omega arith);
          }
      go (Ok (Some x)) h =
          let user = x.user in
          let first = x.first in
          let second = x.second in
          let third = x.third in
          let e : answer ≡ 16777216 * user + first + 256 * second + 65536 * third = same ∙ rw h (omega arith) in
          let given =
          blocked.blocked_told book r (λ x f. value_refused _ x (sym h ∙ f)) in
          let holds = blocked.demand book r given in
          let b = blocked_bytes book r user first second third h in
          let closed : blocked_answer book r ≡ open_answer → ⊥ =
          λ f. let k = sym h ∙ f in let z : ◌≡◌ {A = ℕ} 0 1 = cc in omega arith in
          let told = holds.otherwise closed in
          record {
            accepted = λ l. given;
            accepts = λ g. omega arith;
            zero_none = λ z. absurd (omega arith);
            none_zero = λ g n. absurd (closed (holds.none_open n));
            shows = λ some low.
                (told.0, parts_of answer user first second third e b told.0 (sym h ∙ told.1), told.2);
            named = λ p within parts some low.
                holds.named p within (h ∙ of_parts answer user first second third e b p parts);
          }
      go (Err x) h =
          let e : answer ≡ refusal_packed x = same ∙ rw h in
          let past = refusal_past x (blocked_small book r x h) in
          record {
            accepted = λ l. absurd (omega arith);
            accepts = λ g. absurd (tells g x h);
            zero_none = λ z. absurd (omega arith);
            none_zero = λ g n. absurd (tells g x h);
            shows = λ some low. absurd (omega arith);
            named = λ p within parts some low. absurd (omega arith);
          }

-- Culprits

module _ (book : List ℕ) (r : ℕ) where
  -- a pair that the number of Blocked is read as is Blocked's answer
  reads :
      (p : Pair)
      → BlockedAccepted book r
      → (blocked_answer book r ≡ open_answer → ⊥)
      → BlockedParts (blocked_packed (blocked_answer book r)) p
      → blocked_answer book r ≡ closed_answer p
  unfolding blocked_packed blocked_value packed
  reads p given closed = go (blocked_answer book r) refl
    where
      go : (a : Blocking) → blocked_answer book r ≡ a → BlockedParts (blocked_packed a) p → a ≡ closed_answer p
      go (Ok None) h parts = absurd (closed h)
      go (Ok (Some x)) h parts =
          of_parts (blocked_packed (Ok (Some x))) x.user x.first x.second x.third (omega arith)
          (blocked_bytes book r x.user x.first x.second x.third h) p parts
      go (Err x) h parts = absurd (tells book r given x h)

  same_few : (a b : ℕ) → few_answer a ≡ few_answer b → a ≡ b
  same_few a b e = cc

  tells_causes : BlockedAccepted book r → (x : Refusal) → culprits_answer book r ≡ Err x → ⊥
  tells_causes given x h =
      no_cause_refused book r (first_closed book r) x
      (sym (few.culprits_answer_law book r (blocked.blocked_passes book r given)) ∙ h)

  pub culprits_says : (answer : ℕ) → answer ≡ culprits_packed r (culprits_answer book r) → CulpritsSays book r answer
  unfolding culprits_packed culprits_value packed
  culprits_says answer same = go (culprits_answer book r) refl
    where
      go : (a : Causes) → culprits_answer book r ≡ a → CulpritsSays book r answer
      go (Ok None) h =
          let e : answer ≡ 0 = same ∙ rw h (omega arith) in
          let given =
          few.culprits_given book r (λ x f. value_refused _ x (sym h ∙ f)) in
          record {
            accepted = λ l. given;
            accepts = λ g. omega arith;
            zero_none = λ z. (few.caused book r given).unblocked_none h;
            none_zero = λ g n. e;
            shows = λ some low. absurd (omega arith);
            named = λ p mask within parts f low. let some = pow_pos r in absurd (omega arith);
          }
      go (Ok (Some mask)) h =
          let e : answer ≡ mask + 2 ^ r = same ∙ rw h (omega arith) in
          let m = few.culprits_mask book r mask h in
          let given = m.0 in
          let holds = few.caused book r given in
          let closed : culprits_answer book r ≡ unblocked → ⊥ =
          λ f. let k = sym h ∙ f in let z : ◌≡◌ {A = ℕ} 0 1 = cc in omega arith in
          let fits : answer < 4294967296 = rw e (asking_fits mask r m.2 m.1 m.3) in
          let some : 0 < answer = rw e (asking_some mask r m.2 m.1 m.3) in
          let told = holds.otherwise closed in
          let same_mask : told.1 ≡ mask = same_few told.1 mask (sym told.2 ∙ h) in
          record {
            accepted = λ l. given;
            accepts = λ g. fits;
            zero_none = λ z. absurd (omega arith);
            none_zero = λ g n. absurd (closed (holds.none_unblocked n));
            shows = λ there low. (
              told.0,
              mask,
              record { value = e; bits = λ q. rw e (asking_bits mask r m.2 m.1 m.3 q) },
              subst (Behind book r told.0) same_mask told.3,
            );
            named = λ p other within parts f low.
                let same : mask ≡ other = omega arith in
                holds.named p other within
                (reads p given (λ f. closed (holds.none_unblocked ((blocked.demand book r given).open_none f))) parts)
                (h ∙ ap few_answer same);
          }
      go (Err x) h =
          let e : answer ≡ refusal_packed x = same ∙ rw h in
          let past = refusal_past x (culprits_small book r x h) in
          record {
            accepted = λ l. absurd (omega arith);
            accepts = λ g. absurd (tells_causes g x h);
            zero_none = λ z. absurd (omega arith);
            none_zero = λ g n. absurd (tells_causes g x h);
            shows = λ some low. absurd (omega arith);
            named = λ p mask within parts f low. absurd (omega arith);
          }

-- Ask

module _
    (book : List ℕ) (user : ℕ) (plan ledger : List ℕ) (tally : Tally) (holds : Holds) (answer : ℕ)
  where
    -- tally and hold record on leaving, by the outcome of the tests and by whether the plan is held
    abbrev counted_if : Outcome → Bool → Tally
    counted_if t held =
        refused_or t (λ x. tally)
        (cond held tally
        (record {
          admitted = tally.admitted;
          declined = raised_for tally.declined user;
          dropped = tally.dropped;
        }))

    abbrev kept_if : Outcome → Bool → Holds
    kept_if t held =
        refused_or t (λ x. holds)
        (cond held
        (placed holds (empty_place holds) user (given_to user tally holds + 1) (access_words (head_of book) plan)) holds)

    -- what is said then
    abbrev AskSaid : Outcome → Bool → Type 0
    AskSaid t held =
        answer
        ≡ reply_packed
        (refused_or t Err
        (Ok
        (cond held (Held (given_to user tally holds + 1))
        (Declined (ask_mask book user plan ledger tally holds)))))
        → Continues book (record { user = user; call = Ask plan })
        (record { ledger = ledger; tally = tally; holds = holds })
        (record { ledger = ledger; tally = counted_if t held; holds = kept_if t held })
        → AskSays book user plan ledger tally (counted_if t held) holds (kept_if t held) answer

    ask_refused :
        (x : Refusal) (held : Bool)
        → first_failing (ask_tests book user plan ledger tally holds) ≡ Err x
        → AskSaid (Err x) held
    unfolding reply_packed refused_or
    ask_refused x held f same continued =
        let past = refusal_past x (ask_bounded book user plan ledger tally holds x f) in
        let never : AskAccepted book user plan ledger tally holds → ⊥ =
        λ given. refused_passed x tt (sym f ∙ ask_passes book user plan ledger tally holds given) in
        record {
          accepted = λ l. absurd (omega arith);
          accepts = λ g. absurd (never g);
          held_satisfies = λ l m. absurd (omega arith);
          satisfies_held = λ g s. absurd (never g);
          held_number = λ l m. absurd (omega arith);
          held_place = λ l m. absurd (omega arith);
          held_counts = λ l m. absurd (omega arith);
          declined_some = λ l. absurd (omega arith);
          demand = λ l. absurd (omega arith);
          declined_counts = λ l. absurd (omega arith);
          declined_keeps = λ l. absurd (omega arith);
          refused_keeps = λ l. (refl, refl);
          continues = continued;
        }

    module _ (given : AskAccepted book user plan ledger tally holds) where
      ask_held : ask_mask book user plan ledger tally holds ≡ 0 → AskSaid (Ok tt) true
      unfolding reply_packed asked_value packed refused_or
      ask_held zero same continued =
          let few = given_few book user plan ledger tally holds given in
          let e : answer ≡ 4294967296 + (given_to user tally holds + 1) = same ∙ omega arith in
          record {
            accepted = λ l. given;
            accepts = λ g. omega arith;
            held_satisfies = λ l m. (ask_demand book user plan ledger tally holds given).zero_satisfies zero;
            satisfies_held = λ g s. omega arith;
            held_number = λ l m. e;
            held_place = λ l m. refl;
            held_counts = λ l m. refl;
            declined_some = λ l. absurd (omega arith);
            demand = λ l. absurd (omega arith);
            declined_counts = λ l. absurd (omega arith);
            declined_keeps = λ l. absurd (omega arith);
            refused_keeps = λ l. absurd (omega arith);
            continues = continued;
          }

      ask_declined : (ask_mask book user plan ledger tally holds ≡ 0 → ⊥) → AskSaid (Ok tt) false
      unfolding reply_packed asked_value packed refused_or ask_mask
      ask_declined some same continued =
          let mask = ask_mask book user plan ledger tally holds in
          let e : answer ≡ mask = same ∙ omega arith in
          let low : mask < 4294967296 =
          mask_fits book given.judge_accepted.book_accepted user (ask_accesses book user plan ledger tally holds) in
          let says : Demand2 book user (ask_accesses book user plan ledger tally holds) answer =
          subst (Demand2 book user (ask_accesses book user plan ledger tally holds)) (sym e)
          (ask_demand book user plan ledger tally holds given) in
          record {
            accepted = λ l. given;
            accepts = λ g. omega (arith, e, low);
            held_satisfies = λ l m. absurd (omega (arith, e, low));
            satisfies_held = λ g s. absurd (some (sym e ∙ says.satisfies_zero s));
            held_number = λ l m. absurd (omega (arith, e, low));
            held_place = λ l m. absurd (omega (arith, e, low));
            held_counts = λ l m. absurd (omega (arith, e, low));
            declined_some = λ l. omega (arith, e, some);
            demand = λ l. says;
            declined_counts = λ l. refl;
            declined_keeps = λ l. refl;
            refused_keeps = λ l. absurd (omega (arith, e, low));
            continues = continued;
          }

-- what the number says
pub ask_promised :
    (book : List ℕ) (user : ℕ) (plan ledger : List ℕ) (tally : Tally) (holds : Holds) (answer : ℕ) (counted : Tally)
    (kept : Holds)
    → answer ≡ reply_packed (ask_answer book user plan ledger tally holds)
    → counted ≡ ask_tally book user plan ledger tally holds
    → kept ≡ ask_holds book user plan ledger tally holds
    → Continues book (record { user = user; call = Ask plan })
    (record { ledger = ledger; tally = tally; holds = holds })
    (record { ledger = ledger; tally = counted; holds = kept })
    → AskSays book user plan ledger tally counted holds kept answer
unfolding ask_answer ask_tally ask_holds answered
ask_promised book user plan ledger tally holds answer counted kept e et eh continued =
    rw (et, eh)
    (ask_cases book user plan ledger tally holds (AskSaid book user plan ledger tally holds answer)
    (ask_refused book user plan ledger tally holds answer) (ask_held book user plan ledger tally holds answer)
    (ask_declined book user plan ledger tally holds answer) e
    (rw (et, eh) at continued))

-- Commit and Drop

module _
    (book : List ℕ)
    (user number : ℕ)
    (ledger : List ℕ)
    (tally : Tally)
    (holds : Holds)
    (answer : ℕ)
    (fits : number < 4294967296)
  where
    -- what is refused was not accepted
    never_accepted :
        (x : Refusal)
        → first_failing (settle_tests book user number ledger holds) ≡ Err x
        → SettleAccepted book user number ledger holds
        → ⊥
    never_accepted x f given = refused_passed x tt (sym f ∙ settle_passes book user number ledger holds given)

    -- the reply, and what is left, by the outcome of the tests
    abbrev settled_if : Outcome → Result ℕ Refusal
    settled_if t = refused_or t Err (Ok number)

    abbrev ledger_if : Outcome → List ℕ
    ledger_if t =
        refused_or t (λ x. ledger) (joined_for ledger user (words_of holds.words (place_of holds user number)))

    abbrev admitted_if : Outcome → Tally
    admitted_if t =
        refused_or t (λ x. tally)
        (record {
          admitted = raised_for tally.admitted user;
          declined = tally.declined;
          dropped = tally.dropped;
        })

    abbrev dropped_if : Outcome → Tally
    dropped_if t =
        refused_or t (λ x. tally)
        (record {
          admitted = tally.admitted;
          declined = tally.declined;
          dropped = raised_for tally.dropped user;
        })

    abbrev freed_if : Outcome → Holds
    freed_if t = refused_or t (λ x. holds) (freed holds (place_of holds user number))

    abbrev CommitSaid : Outcome → Type 0
    CommitSaid t =
        answer ≡ settle_packed (settled_if t)
        → Continues book (record { user = user; call = Commit number })
        (record { ledger = ledger; tally = tally; holds = holds })
        (record { ledger = ledger_if t; tally = admitted_if t; holds = freed_if t })
        → CommitSays book user number ledger (ledger_if t) tally (admitted_if t) holds (freed_if t) answer

    commit_refused :
        (x : Refusal)
        → first_failing (settle_tests book user number ledger holds) ≡ Err x
        → CommitSaid (Err x)
    unfolding settle_packed refused_or
    commit_refused x f same continued =
        let past = refusal_past x (settle_bounded book user number ledger holds x f) in
        record {
          accepted = λ l. absurd (omega arith);
          accepts = λ g. absurd (never_accepted x f g);
          joins = λ l. absurd (omega arith);
          counts = λ l. absurd (omega arith);
          frees = λ l. absurd (omega arith);
          others_keep = λ w n. refl;
          refused_keeps = λ l. (refl, refl, refl);
          continues = continued;
        }

    commit_settled : SettleAccepted book user number ledger holds → CommitSaid (Ok tt)
    unfolding settle_packed number_value packed refused_or
    commit_settled given same continued =
        let e : answer ≡ number = same ∙ omega arith in
        let low = settler_low book user number ledger holds given in
        let whole = given.ledger_whole in
        let words = words_of holds.words (place_of holds user number) in
        record {
          accepted = λ l. given;
          accepts = λ g. e;
          joins = λ l. held_own ledger user words (omega arith);
          counts = λ l. refl;
          frees = λ l. refl;
          others_keep = other_word ledger user words;
          refused_keeps = λ l. absurd (omega arith);
          continues = continued;
        }

    abbrev DropSaid : Outcome → Type 0
    DropSaid t =
        answer ≡ settle_packed (settled_if t)
        → Continues book (record { user = user; call = Drop number })
        (record { ledger = ledger; tally = tally; holds = holds })
        (record { ledger = ledger; tally = dropped_if t; holds = freed_if t })
        → DropSays book user number ledger tally (dropped_if t) holds (freed_if t) answer

    drop_refused :
        (x : Refusal)
        → first_failing (settle_tests book user number ledger holds) ≡ Err x
        → DropSaid (Err x)
    unfolding settle_packed refused_or
    drop_refused x f same continued =
        let past = refusal_past x (settle_bounded book user number ledger holds x f) in
        record {
          accepted = λ l. absurd (omega arith);
          accepts = λ g. absurd (never_accepted x f g);
          counts = λ l. absurd (omega arith);
          frees = λ l. absurd (omega arith);
          refused_keeps = λ l. (refl, refl);
          continues = continued;
        }

    drop_settled : SettleAccepted book user number ledger holds → DropSaid (Ok tt)
    unfolding settle_packed number_value packed refused_or
    drop_settled given same continued =
        let e : answer ≡ number = same ∙ omega arith in
        record {
          accepted = λ l. given;
          accepts = λ g. e;
          counts = λ l. refl;
          frees = λ l. refl;
          refused_keeps = λ l. absurd (omega arith);
          continues = continued;
        }

-- what the numbers of the two calls say
pub commit_promised :
    (book : List ℕ) (user number : ℕ) (before after : List ℕ) (tally counted : Tally) (holds kept : Holds) (answer : ℕ)
    → number < 4294967296
    → answer ≡ settle_packed (settle_answer book user number before holds)
    → counted ≡ commit_tally book user number before holds tally
    → kept ≡ settle_holds book user number before holds
    → after ≡ commit_ledger book user number before holds
    → Continues book (record { user = user; call = Commit number })
    (record { ledger = before; tally = tally; holds = holds })
    (record { ledger = after; tally = counted; holds = kept })
    → CommitSays book user number before after tally counted holds kept answer
unfolding settle_answer commit_tally settle_holds commit_ledger answered
commit_promised book user number before after tally counted holds kept answer fits e et eh el continued =
    rw (et, eh, el)
    (settle_cases book user number before holds (CommitSaid book user number before tally holds answer fits)
    (commit_refused book user number before tally holds answer fits)
    (commit_settled book user number before tally holds answer fits) e
    (rw (et, eh, el) at continued))

pub drop_promised :
    (book : List ℕ) (user number : ℕ) (ledger : List ℕ) (tally counted : Tally) (holds kept : Holds) (answer : ℕ)
    → number < 4294967296
    → answer ≡ settle_packed (settle_answer book user number ledger holds)
    → counted ≡ drop_tally book user number ledger holds tally
    → kept ≡ settle_holds book user number ledger holds
    → Continues book (record { user = user; call = Drop number })
    (record { ledger = ledger; tally = tally; holds = holds })
    (record { ledger = ledger; tally = counted; holds = kept })
    → DropSays book user number ledger tally counted holds kept answer
unfolding settle_answer drop_tally settle_holds answered
drop_promised book user number ledger tally counted holds kept answer fits e et eh continued =
    rw (et, eh)
    (settle_cases book user number ledger holds (DropSaid book user number ledger tally holds answer fits)
    (drop_refused book user number ledger tally holds answer fits)
    (drop_settled book user number ledger tally holds answer fits) e
    (rw (et, eh) at continued))

-- Tree

module _ (book plan : List ℕ) (row : ℕ) (before : List ℕ) where
  tree_says :
      (answer : ℕ)
      → answer ≡ tree_packed (tree_answer book plan row before)
      → TreeSays book plan row before (tree_buffer book plan row before) answer
  unfolding tree_packed tree_value packed
  tree_says answer same = go (tree_answer book plan row before) refl
    where
      go :
          (a : Result Written Refusal)
          → tree_answer book plan row before ≡ a
          → TreeSays book plan row before (tree_buffer book plan row before) answer
      go (Ok w) h =
          let nodes = w.nodes in
          let length = w.length in
          let e : answer ≡ 1048576 * (nodes - 1) + length = same ∙ rw h (omega arith) in
          let parts = tree_parts book plan row before nodes length h in
          let low = parts.1 in
          let en = ap (λ a. a / 1048576 + 1) e ∙ parts.2 in
          let el = ap (λ a. a % 1048576) e ∙ parts.3 in
          record {
            accepted = λ l. answer_accepted book plan row before nodes length h;
            accepts = λ g. omega arith;
            draws = λ l. rw (en, el) (answer_draws book plan row before nodes length h);
            refused_keeps = λ l. absurd (omega arith);
          }
      go (Err x) h =
          let e : answer ≡ refusal_packed x = same ∙ rw h in
          let past = refusal_past x (tree_small book plan row before x h) in
          record {
            accepted = λ l. absurd (omega arith);
            accepts = λ g. absurd (tree_unrefused book plan row before g x h);
            draws = λ l. absurd (omega arith);
            refused_keeps = λ l. answer_refused book plan row before x h;
          }

-- what the number says
pub tree_promised :
    (book plan : List ℕ) (row : ℕ) (before after : List ℕ) (answer : ℕ)
    → answer ≡ tree_packed (tree_answer book plan row before)
    → after ≡ tree_buffer book plan row before
    → TreeSays book plan row before after answer
tree_promised book plan row before after answer e b = rw b (tree_says book plan row before answer e)
