-- Laws of the three calls: what they have tested when they accept, their outcomes by cases, and what an ask's reply
-- means. Assumes nothing.
use Prim.Native.Nat.{ℕ, ◌+◌, ◌<◌}
use native.Mathlib.Omega.{arith}
use mathlib.Core.Path.{◌≡◌, refl, sym, ap, ◌∙◌}
use mathlib.Core.Bool.{Bool, true, false, ◌&&◌, not, cond}
use mathlib.Core.Logic.{⊎_elim}
use mathlib.Core.List.{List, [], ◌∷◌, ◌++◌}
use lib.Bits.{bit_or}
use lib.ListN.{length, get_or}
use lib.Dec.{eqb, ltb}
use borrow.Author.Tests.{eq-eqb, eqb-true, eqb-false, ltb-true, lt-ltb, not-true}
use Rattle.book.specs.Blocks.{head_of}
use Rattle.book.specs.Head.{is_user}
use Rattle.std.specs.Prelude.{Result, Ok, Err, Option, None, Some, IfSome, is_some, unwrap_or}
use Rattle.std.specs.Option.{ok_or}
use Rattle.book.specs.Tests.{Test, Outcome, Passes, first_failing, refused_or, answered}
use Rattle.book.specs.Refusals.{BookAccepted, book_tests}
use Rattle.book.specs.declared.refusal.Refusal.{Refusal}
use Rattle.book.specs.declared.refusal.Refusal.TheVariants.{NoUser, LedgerLength, CountsFull, PlacesFull, NotHeld}
use Rattle.book.proofs.Accepted.{accepted_head}
use Rattle.book.proofs.Answers.{answered_after, append_passed, append_refused, first_append, last_passed, refused_passed}
use Rattle.book.proofs.Calls.{after_passed, passed_both, first_refuses, second_refuses, third_refuses, all_pass}
use Rattle.book.proofs.Lists.{or_either}
use Rattle.book.proofs.Lists.{and_right}
use Rattle.lineage.proofs.Accepted.{accepted_plan}
use Rattle.verdicts.specs.Accesses.{Access, accesses_of, held_by, union}
use Rattle.verdicts.specs.Breaking.{broken_mask}
use Rattle.verdicts.specs.Answers.{user_tests, judge_tests}
use Rattle.verdicts.specs.Demand.{Demand2}
use Rattle.verdicts.proofs.DemandLaws.{query_demand}
use Rattle.verdicts.proofs.Held.{held_operations, held_union, plan_operations}
use Rattle.verdicts.proofs.JudgeLaws.{judge_accepted, judge_passes}
use Rattle.verdicts.proofs.Users.{user_below}
use Rattle.verdicts.proofs.Verdict.{mask_same}
use Rattle.verdicts.proofs.Quantifiers.{any_at}
use Rattle.ledger.specs.Ledger.{admitted_for, words_of}
use Rattle.ledger.specs.Places.{eight_held, empty_place, held_accesses, held_at, holds_number, place_of}
use Rattle.ledger.specs.Answers.{ledger_tests, count_tests, place_tests, number_tests, given_to, asked_by, counted_for}
use Rattle.ledger.specs.Answers.{ask_tests, ask_accesses, ask_mask, ask_answer, settle_tests, settle_answer}
use Rattle.ledger.specs.Demand.{AskAccepted, Asks, SettleAccepted}
use Rattle.ledger.specs.Inner.Steps.{HeldWords, room_tests}
use Rattle.ledger.specs.declared.Tally.{Tally}
use Rattle.ledger.specs.declared.Holds.{Holds}
use Rattle.ledger.specs.declared.Asked.TheVariants.{Held, Declined}

-- a user of an accepted book is one of the ledger and of the tally
user_low : (book : List ℕ) (user : ℕ) → BookAccepted book → is_user (head_of book) user ≡ true → user < 32
user_low book user accepted is_user_law =
    let head = accepted_head book accepted in
    omega (arith, head.users_most, user_below (head_of book) user is_user_law)

-- the accesses in a user's words and held plans have operations below 16
pub counted_operations :
    (ledger : List ℕ) (holds : Holds) (user : ℕ) (x : Access) → counted_for ledger holds user x ≡ true → x.operation < 16
unfolding counted_for union admitted_for held_accesses
counted_operations ledger holds user x h =
    ⊎_elim
    (λ (t : held_by (words_of ledger user) x ≡ true). held_operations (words_of ledger user) x t)
    (λ (t : held_accesses holds user x ≡ true).
    let w = any_at (λ p. held_at holds user p && held_by (words_of holds.words p) x) 8 t in
    held_operations (words_of holds.words w.0) x
    (and_right (held_at holds user w.0) (held_by (words_of holds.words w.0) x) w.1))
    (or_either (held_by (words_of ledger user) x) (held_accesses holds user x) h)

-- the mask of a user's words, joined with those of his held plans and with some others
pub mask_joined :
    (book : List ℕ) (user : ℕ) (ledger : List ℕ) (holds : Holds) (own held both words all : List ℕ) (mask : ℕ)
    → mask ≡ broken_mask book user (held_by all)
    → own ≡ words_of ledger user
    → HeldWords holds user held
    → ((w : ℕ) → w < 32 → get_or both w 0 ≡ bit_or (get_or own w 0) (get_or held w 0))
    → ((w : ℕ) → w < 32 → get_or all w 0 ≡ bit_or (get_or both w 0) (get_or words w 0))
    → mask ≡ broken_mask book user (union (counted_for ledger holds user) (held_by words))
unfolding counted_for union admitted_for
mask_joined book user ledger holds own held both words all mask em eo holds_them joins_held joins_words =
    em
    ∙ mask_same book user (held_by all) (union (counted_for ledger holds user) (held_by words))
    (λ x k. held_union both words all joins_words x ∙ rw (held_union own held both joins_held x, holds_them x, eo))

-- `ok_or` of a value that is there exactly where a test passes

pub some_value : (found : Option ℕ) (none value : ℕ) → unwrap_or found none ≡ value → IfSome found (λ x. x ≡ value)
some_value None none value e = tt
some_value (Some x) none value e = e

pub ok_or_answers :
    (refusal : Refusal) (passed : Bool) (found : Option ℕ) (value : ℕ)
    → is_some found ≡ passed
    → IfSome found (λ x. x ≡ value)
    → ok_or found refusal ≡ answered ((refusal, passed) ∷ []) Err (Ok value)
unfolding answered refused_or first_failing
ok_or_answers refusal passed None value there is = rw (← there) refl
ok_or_answers refusal passed (Some x) value there is = rw (← there, is) refl

-- What is answered says what was tested

module _ {A : Type 0} (tests : List Test) (value : A) where
  pub was_refused : (r : Refusal) → Err r ≡ answered tests Err (Ok value) → first_failing tests ≡ Err r
  unfolding answered refused_or
  was_refused r e = go (first_failing tests) e
    where
      go : (t : Outcome) → Err r ≡ refused_or t Err (Ok value) → t ≡ Err r
      go (Ok done) e = refused_passed r value e
      go (Err s) e = cc

  pub was_passed : (x : A) → Ok x ≡ answered tests Err (Ok value) → Passes tests × (x ≡ value)
  unfolding answered refused_or
  was_passed x e = go (first_failing tests) e
    where
      go : (t : Outcome) → Ok x ≡ refused_or t Err (Ok value) → (t ≡ Ok tt) × (x ≡ value)
      go (Ok done) e = (refl, cc)
      go (Err s) e = refused_passed s x (sym e)

-- An ask's room: the next number and the lowest empty place

module _ (user : ℕ) (ledger : List ℕ) (tally : Tally) (holds : Holds) where
  abbrev pub RoomAnswered : Result (ℕ × ℕ) Refusal → Type 0
  RoomAnswered r =
      r ≡ answered (room_tests user ledger tally holds) Err (Ok (given_to user tally holds + 1, empty_place holds))

  module _ (found : Option ℕ) where
    pub number_answers :
        is_some found ≡ ltb (asked_by user tally holds) 1000000
        → IfSome found (λ n. n ≡ given_to user tally holds + 1)
        → ok_or found CountsFull ≡ answered (count_tests user tally holds) Err (Ok (given_to user tally holds + 1))
    unfolding count_tests
    number_answers there is = ok_or_answers CountsFull _ found _ there is

    pub place_answers :
        is_some found ≡ not (eight_held holds)
        → unwrap_or found 8 ≡ empty_place holds
        → ok_or found PlacesFull ≡ answered (place_tests holds) Err (Ok (empty_place holds))
    unfolding place_tests
    place_answers there at = ok_or_answers PlacesFull _ found _ there (some_value found 8 _ at)

  pub counts_pass :
      (n : ℕ) (found : Option ℕ)
      → Ok n ≡ ok_or found CountsFull
      → is_some found ≡ ltb (asked_by user tally holds) 1000000
      → IfSome found (λ n. n ≡ given_to user tally holds + 1)
      → Passes (count_tests user tally holds)
  counts_pass n found e there is = (was_passed _ _ n (e ∙ number_answers found there is)).0

  module _ (r : Refusal) (out : Result (ℕ × ℕ) Refusal) (is : out ≡ Err r) where
    pub room_no_ledger : first_failing (ledger_tests ledger) ≡ Err r → RoomAnswered out
    room_no_ledger h = is ∙ sym (first_refuses _ _ _ _ _ r h)

    module _ (whole : Passes (ledger_tests ledger)) where
      pub room_no_number :
          Err r ≡ answered (count_tests user tally holds) Err (Ok (given_to user tally holds + 1)) → RoomAnswered out
      room_no_number e = is ∙ sym (second_refuses _ _ _ _ _ r whole (was_refused _ _ r e))

      pub room_no_place :
          Passes (count_tests user tally holds)
          → Err r ≡ answered (place_tests holds) Err (Ok (empty_place holds))
          → RoomAnswered out
      room_no_place few e = is ∙ sym (third_refuses _ _ _ _ _ r whole few (was_refused _ _ r e))

  pub room_found :
      (n p : ℕ)
      → Passes (ledger_tests ledger)
      → Ok n ≡ answered (count_tests user tally holds) Err (Ok (given_to user tally holds + 1))
      → Ok p ≡ answered (place_tests holds) Err (Ok (empty_place holds))
      → RoomAnswered (Ok (n, p))
  room_found n p whole few room =
      let number = was_passed _ _ n few in
      let place = was_passed _ _ p room in
      rw (number.1, place.1) (sym (all_pass _ _ _ _ _ whole number.0 place.0))

-- Asking

module _ (book : List ℕ) (user : ℕ) (plan ledger : List ℕ) (tally : Tally) (holds : Holds) where
  -- Judge's refusal is the ask's, and where Judge's tests pass the rest decides
  pub ask_unjudged :
      (r : Refusal)
      → first_failing (judge_tests book user plan) ≡ Err r
      → first_failing (ask_tests book user plan ledger tally holds) ≡ Err r
  unfolding ask_tests
  ask_unjudged r h =
      append_refused (judge_tests book user plan ++ ledger_tests ledger ++ count_tests user tally holds) (place_tests holds) r
      (append_refused (judge_tests book user plan ++ ledger_tests ledger) (count_tests user tally holds) r
      (append_refused (judge_tests book user plan) (ledger_tests ledger) r h))

  pub ask_judged :
      Passes (judge_tests book user plan)
      → first_failing (ask_tests book user plan ledger tally holds) ≡ first_failing (room_tests user ledger tally holds)
  unfolding ask_tests
  ask_judged h =
      rw (
        first_append (judge_tests book user plan ++ ledger_tests ledger ++ count_tests user tally holds) (place_tests holds),
        first_append (judge_tests book user plan ++ ledger_tests ledger) (count_tests user tally holds),
        first_append (judge_tests book user plan) (ledger_tests ledger),
        h,
        first_append (ledger_tests ledger ++ count_tests user tally holds) (place_tests holds),
        first_append (ledger_tests ledger) (count_tests user tally holds),
      )

  -- what an ask has tested when it accepts, and the other way
  pub ask_accepted :
      Passes (ask_tests book user plan ledger tally holds) → AskAccepted book user plan ledger tally holds
  unfolding ask_tests ledger_tests count_tests place_tests
  ask_accepted h =
      let three = judge_tests book user plan ++ ledger_tests ledger ++ count_tests user tally holds in
      let last = append_passed three (place_tests holds) h in
      let counts =
      append_passed (judge_tests book user plan ++ ledger_tests ledger) (count_tests user tally holds) last.0 in
      let first = append_passed (judge_tests book user plan) (ledger_tests ledger) counts.0 in
      record {
        judge_accepted = judge_accepted book user plan first.0;
        ledger_whole = eqb-true (length ledger) 1024 (last_passed LedgerLength (eqb (length ledger) 1024) first.1);
        asks_below =
            ltb-true (asked_by user tally holds) 1000000
            (last_passed CountsFull (ltb (asked_by user tally holds) 1000000) counts.1);
        place_empty = not-true (eight_held holds) (last_passed PlacesFull (not (eight_held holds)) last.1);
      }

  -- what it has when the room is found
  pub ask_ready :
      (found : ℕ × ℕ)
      → Passes (judge_tests book user plan)
      → RoomAnswered user ledger tally holds (Ok found)
      → AskAccepted book user plan ledger tally holds
      × (found.0 ≡ given_to user tally holds + 1)
      × (found.1 ≡ empty_place holds)
  ask_ready found judged room =
      let known = was_passed _ _ found room in
      (ask_accepted (ask_judged judged ∙ known.0), ap (λ f. f.0) known.1, ap (λ f. f.1) known.1)

  pub ask_passes :
      AskAccepted book user plan ledger tally holds → Passes (ask_tests book user plan ledger tally holds)
  unfolding ask_tests ledger_tests count_tests place_tests first_failing
  ask_passes given =
      rw (
        first_append (judge_tests book user plan ++ ledger_tests ledger ++ count_tests user tally holds) (place_tests holds),
        first_append (judge_tests book user plan ++ ledger_tests ledger) (count_tests user tally holds),
        first_append (judge_tests book user plan) (ledger_tests ledger),
        judge_passes book user plan given.judge_accepted,
        eq-eqb (length ledger) 1024 given.ledger_whole,
        lt-ltb (asked_by user tally holds) 1000000 given.asks_below,
        given.place_empty,
      )

  -- a new hold's number is at most a million
  pub given_few : AskAccepted book user plan ledger tally holds → given_to user tally holds < 1000000
  unfolding asked_by
  given_few ok = let few = ok.asks_below in omega arith

  pub asker_low : AskAccepted book user plan ledger tally holds → user < 32
  asker_low given = user_low book user given.judge_accepted.book_accepted given.judge_accepted.a_user

  -- what holds of each outcome that may come holds of the one that does
  pub ask_cases :
      (P : Outcome → Bool → Type 0)
      → ((r : Refusal) (held : Bool)
      → first_failing (ask_tests book user plan ledger tally holds) ≡ Err r
      → P (Err r) held)
      → (AskAccepted book user plan ledger tally holds
      → ask_mask book user plan ledger tally holds ≡ 0
      → P (Ok tt) true)
      → (AskAccepted book user plan ledger tally holds
      → (ask_mask book user plan ledger tally holds ≡ 0 → ⊥)
      → P (Ok tt) false)
      → P (first_failing (ask_tests book user plan ledger tally holds))
      (eqb (ask_mask book user plan ledger tally holds) 0)
  ask_cases P refused held declined = go (first_failing (ask_tests book user plan ledger tally holds)) refl
    where
      mask : ℕ
      mask = ask_mask book user plan ledger tally holds

      by_mask : AskAccepted book user plan ledger tally holds → (b : Bool) → eqb mask 0 ≡ b → P (Ok tt) b
      by_mask given true e = held given (eqb-true mask 0 e)
      by_mask given false e = declined given (eqb-false mask 0 e)

      go : (f : Outcome) → first_failing (ask_tests book user plan ledger tally holds) ≡ f → P f (eqb mask 0)
      go (Ok done) e = by_mask (ask_accepted e) (eqb mask 0) refl
      go (Err r) e = refused r (eqb mask 0) e

  -- What it means

  pub ask_operations :
      AskAccepted book user plan ledger tally holds
      → (x : Access)
      → ask_accesses book user plan ledger tally holds x ≡ true
      → x.operation < 16
  unfolding ask_accesses union
  ask_operations given x h =
      let accepted = given.judge_accepted in
      ⊎_elim
      (λ (t : counted_for ledger holds user x ≡ true). counted_operations ledger holds user x t)
      (λ (t : accesses_of (head_of book) plan x ≡ true).
      plan_operations (head_of book) plan (accepted_head book accepted.book_accepted)
      (accepted_plan (head_of book) plan accepted.plan_accepted) x t)
      (or_either (counted_for ledger holds user x) (accesses_of (head_of book) plan x) h)

  pub ask_demand :
      AskAccepted book user plan ledger tally holds
      → Demand2 book user (ask_accesses book user plan ledger tally holds) (ask_mask book user plan ledger tally holds)
  unfolding ask_mask
  ask_demand given = query_demand book user (ask_accesses book user plan ledger tally holds) (ask_operations given)

  pub ask_means :
      AskAccepted book user plan ledger tally holds
      → Asks book user (ask_accesses book user plan ledger tally holds) (given_to user tally holds)
      (ask_answer book user plan ledger tally holds)
  unfolding ask_answer answered refused_or
  ask_means given =
      ask_cases
      (λ t b.
      Asks book user (ask_accesses book user plan ledger tally holds) (given_to user tally holds)
      (refused_or t Err
      (Ok (cond b (Held (given_to user tally holds + 1)) (Declined (ask_mask book user plan ledger tally holds))))))
      (λ r b e. refused_passed r tt (sym e ∙ ask_passes given)) held declined
    where
      held :
          AskAccepted book user plan ledger tally holds
          → ask_mask book user plan ledger tally holds ≡ 0
          → Asks book user (ask_accesses book user plan ledger tally holds) (given_to user tally holds)
          (Ok (Held (given_to user tally holds + 1)))
      held given zero =
          record {
            held_satisfies = λ n e. (ask_demand given).zero_satisfies zero;
            satisfies_held = λ s. refl;
            otherwise = λ n. absurd (n (given_to user tally holds + 1) refl);
          }

      declined :
          AskAccepted book user plan ledger tally holds
          → (ask_mask book user plan ledger tally holds ≡ 0 → ⊥)
          → Asks book user (ask_accesses book user plan ledger tally holds) (given_to user tally holds)
          (Ok (Declined (ask_mask book user plan ledger tally holds)))
      declined given some =
          record {
            held_satisfies = λ n e. let z : ◌≡◌ {A = ℕ} 0 1 = cc in absurd (omega arith);
            satisfies_held = λ s. absurd (some ((ask_demand given).satisfies_zero s));
            otherwise =
                λ n. (ask_mask book user plan ledger tally holds, refl, omega (arith, some), ask_demand given);
          }

-- Committing and dropping

module _ (book : List ℕ) (user number : ℕ) (ledger : List ℕ) (holds : Holds) where
  abbrev pub Settles : Result ℕ Refusal → Type 0
  Settles r = r ≡ answered (settle_tests book user number ledger holds) Err (Ok (place_of holds user number))

  module _ (r : Refusal) (out : Result ℕ Refusal) (is : out ≡ Err r) where
    pub settle_no_book : first_failing (book_tests book) ≡ Err r → Settles out
    unfolding settle_tests
    settle_no_book h = is ∙ sym (first_refuses _ _ _ _ _ r (append_refused _ (user_tests (head_of book) user) r h))

    module _ (accepted : BookAccepted book) where
      pub settle_no_user : first_failing (user_tests (head_of book) user) ≡ Err r → Settles out
      unfolding settle_tests
      settle_no_user h = is ∙ sym (first_refuses _ _ _ _ _ r (after_passed (book_tests book) _ accepted ∙ h))

      pub settle_no_ledger :
          Passes (user_tests (head_of book) user) → first_failing (ledger_tests ledger) ≡ Err r → Settles out
      unfolding settle_tests
      settle_no_ledger known h = is ∙ sym (second_refuses _ _ _ _ _ r (passed_both (book_tests book) _ accepted known) h)

  pub settle_found :
      (found : Option ℕ)
      → BookAccepted book
      → Passes (user_tests (head_of book) user)
      → Passes (ledger_tests ledger)
      → is_some found ≡ holds_number holds user number
      → unwrap_or found 8 ≡ place_of holds user number
      → Settles (ok_or found NotHeld)
  unfolding settle_tests number_tests
  settle_found found accepted known whole there at =
      let three =
      passed_both (book_tests book ++ user_tests (head_of book) user) (ledger_tests ledger)
      (passed_both (book_tests book) (user_tests (head_of book) user) accepted known) whole in
      ok_or_answers NotHeld (holds_number holds user number) found (place_of holds user number) there (some_value found 8 _ at)
      ∙ sym (answered_after _ _ Err (Ok (place_of holds user number)) three)

  pub settle_accepted :
      Passes (settle_tests book user number ledger holds) → SettleAccepted book user number ledger holds
  unfolding settle_tests user_tests ledger_tests number_tests
  settle_accepted h =
      let three = book_tests book ++ user_tests (head_of book) user ++ ledger_tests ledger in
      let last = append_passed three (number_tests user number holds) h in
      let both = append_passed (book_tests book ++ user_tests (head_of book) user) (ledger_tests ledger) last.0 in
      let first = append_passed (book_tests book) (user_tests (head_of book) user) both.0 in
      record {
        book_accepted = first.0;
        a_user = last_passed NoUser (is_user (head_of book) user) first.1;
        ledger_whole = eqb-true (length ledger) 1024 (last_passed LedgerLength (eqb (length ledger) 1024) both.1);
        number_held = last_passed NotHeld (holds_number holds user number) last.1;
      }

  pub settle_passes :
      SettleAccepted book user number ledger holds → Passes (settle_tests book user number ledger holds)
  unfolding settle_tests user_tests ledger_tests number_tests first_failing
  settle_passes given =
      rw (
        first_append (book_tests book ++ user_tests (head_of book) user ++ ledger_tests ledger)
            (number_tests user number holds),
        first_append (book_tests book ++ user_tests (head_of book) user) (ledger_tests ledger),
        first_append (book_tests book) (user_tests (head_of book) user),
        given.book_accepted,
        given.a_user,
        eq-eqb (length ledger) 1024 given.ledger_whole,
        given.number_held,
      )

  pub settler_low : SettleAccepted book user number ledger holds → user < 32
  settler_low given = user_low book user given.book_accepted given.a_user

  pub settle_cases :
      (P : Outcome → Type 0)
      → ((r : Refusal) → first_failing (settle_tests book user number ledger holds) ≡ Err r → P (Err r))
      → (SettleAccepted book user number ledger holds → P (Ok tt))
      → P (first_failing (settle_tests book user number ledger holds))
  settle_cases P refused settled = go (first_failing (settle_tests book user number ledger holds)) refl
    where
      go : (f : Outcome) → first_failing (settle_tests book user number ledger holds) ≡ f → P f
      go (Ok done) e = settled (settle_accepted e)
      go (Err r) e = refused r e

  pub settle_means :
      SettleAccepted book user number ledger holds → settle_answer book user number ledger holds ≡ Ok number
  unfolding settle_answer answered refused_or
  settle_means given = rw (settle_passes given)
