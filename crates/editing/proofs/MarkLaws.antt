-- Laws of the marks: a mark is Idle's answer; no arrival makes an idle rule needed and no departure a needed rule idle;
-- so from right marks an edit leaves right marks. Assumes nothing.
use Prim.Native.Nat.{ℕ, suc, ◌+◌, ◌*◌, ◌≤◌, ◌<◌}
use native.Mathlib.Omega.{arith}
use mathlib.Core.Path.{◌≡◌, refl, sym, ap, ◌∙◌}
use mathlib.Core.Bool.{Bool, true, false, ◌&&◌, ◌||◌, false≢true}
use mathlib.Core.List.{List}
use lib.ListN.{length}
use lib.Dec.{ltb}
use borrow.Author.Tests.{lt-ltb, ltb-true}
use Rattle.book.specs.Lists.{from, up_to}
use Rattle.book.specs.Sets.{has}
use Rattle.book.specs.Blocks.{head_of, rule_count}
use Rattle.book.specs.Refusals.{BookAccepted}
use Rattle.book.proofs.Accepted.{accepted_length}
use Rattle.book.proofs.Lists.{and_false, and_second, same_test, or_right}
use Rattle.book.proofs.Members.{has_zero, same_members}
use Rattle.lineage.specs.Accesses.{word_of}
use Rattle.lineage.proofs.Words.{word_of_law}
use Rattle.verdicts.proofs.Sound.{word_fits}
use Rattle.search.specs.Choices.{Candidate}
use Rattle.search.specs.Shown.{shown_plan}
use Rattle.search.specs.Alone.{First, none, shown, first_alone}
use Rattle.search.specs.Answers.{idle, idle_answer, idleness_of}
use Rattle.search.specs.Demand.{IdleAccepted, NobodyAlone}
use Rattle.search.proofs.DemandLaws.{idle_answer_law, none_nobody, shown_plan_law}
use Rattle.editing.specs.Books.{with_rule, without_rule, number_before}
use Rattle.editing.specs.Marks.{is_none, idle_at, marks_of, arrival_marks, departure_marks}
use Rattle.editing.specs.Demand.{ArrivalKeepsIdle, DepartureKeepsNeeded, MarkTells}
use Rattle.editing.proofs.Within.{Within, idle_within, needed_within}
use Rattle.editing.proofs.Books.{less_accepted, less_within, more_accepted, more_count, more_whole}
use Rattle.editing.proofs.Books.{more_within}

-- A mark is Idle's answer

module _ (book : List ℕ) (accepted : BookAccepted book) (r : ℕ) (l : r < rule_count book) where
  pub idle_nobody : idle_at book r ≡ true → NobodyAlone book r
  unfolding idle_at is_none
  idle_nobody h = go (first_alone book r) refl h
    where
      go : (f : First Candidate) → first_alone book r ≡ f → is_none f ≡ true → NobodyAlone book r
      go none e t = none_nobody book accepted r l e
      go (shown c) e t = absurd (false≢true t)

  pub nobody_idle : NobodyAlone book r → idle_at book r ≡ true
  unfolding idle_at is_none
  nobody_idle h = go (first_alone book r) refl
    where
      go : (f : First Candidate) → first_alone book r ≡ f → is_none f ≡ true
      go none e = refl
      go (shown c) e =
          let s = shown_plan_law book accepted r l c e in
          absurd
          (false≢true (sym (h c.user (shown_plan (head_of book) c.choice) s.a_user s.accepted) ∙ s.alone))

  -- what the call answers, with any buffer that is long enough
  module _ (buffer : List ℕ) (long : 36 ≤ length buffer) where
    given : IdleAccepted book r buffer
    given = record { book_accepted = accepted; rule_there = l; long = long }

    pub idle_call : idle_at book r ≡ true → idle_answer book r buffer ≡ idle
    unfolding idle_at is_none idleness_of
    idle_call h = idle_answer_law book r buffer given ∙ go (first_alone book r) h
      where
        go : (f : First Candidate) → is_none f ≡ true → idleness_of (head_of book) f ≡ idle
        go none t = refl
        go (shown c) t = absurd (false≢true t)

    pub call_idle : idle_answer book r buffer ≡ idle → idle_at book r ≡ true
    unfolding idle_at is_none idleness_of
    call_idle h = go (first_alone book r) (sym (idle_answer_law book r buffer given) ∙ h)
      where
        go : (f : First Candidate) → idleness_of (head_of book) f ≡ idle → is_none f ≡ true
        go none t = refl
        go (shown c) t =
            let z : ◌≡◌ {A = ℕ} 0 1 = cc in
            absurd (omega arith)

  -- a mask whose bit is Idle's
  pub mark_tells : (marks : ℕ) → has marks r ≡ idle_at book r → MarkTells book r marks
  mark_tells marks e =
      record { set_idle = λ h. idle_nobody (sym e ∙ h); idle_set = λ h. e ∙ nobody_idle h }

-- Bits

pub marks_bit : (book : List ℕ) (q : ℕ) → has (marks_of book) q ≡ (ltb q (rule_count book) && idle_at book q)
unfolding marks_of
marks_bit book q = (word_of_law (idle_at book) (rule_count book)).1 q

pub arrival_bit :
    (after : List ℕ) (n marks q : ℕ)
    → has (arrival_marks after n marks) q ≡ (ltb q (suc n) && ((ltb q n && has marks q) || idle_at after q))
unfolding arrival_marks
arrival_bit after n marks q = (word_of_law (λ p. (ltb p n && has marks p) || idle_at after p) (suc n)).1 q

pub departure_bit :
    (after : List ℕ) (r marks q : ℕ)
    → has (departure_marks after r marks) q
    ≡ (ltb q (rule_count after) && (has marks (number_before r q) && idle_at after q))
unfolding departure_marks
departure_bit after r marks q = (word_of_law (λ p. has marks (number_before r p) && idle_at after p) (rule_count after)).1 q

-- they have 32 bits
pub arrival_fits : (after : List ℕ) (n marks : ℕ) → n < 32 → arrival_marks after n marks < 4294967296
unfolding arrival_marks
arrival_fits after n marks room = word_fits (λ p. (ltb p n && has marks p) || idle_at after p) (suc n) (omega arith)

pub departure_fits : (after : List ℕ) (r marks : ℕ) → rule_count after ≤ 32 → departure_marks after r marks < 4294967296
unfolding departure_marks
departure_fits after r marks few = word_fits (λ p. has marks (number_before r p) && idle_at after p) (rule_count after) few

-- from a zero mask an arrival leaves the marks afresh
pub arrival_afresh : (after : List ℕ) (n : ℕ) → rule_count after ≡ suc n → arrival_marks after n 0 ≡ marks_of after
unfolding arrival_marks marks_of
arrival_afresh after n count =
    let kept = word_of_law (λ p. (ltb p n && has 0 p) || idle_at after p) (suc n) in
    let afresh = word_of_law (idle_at after) (suc n) in
    rw count
    (same_members (suc n) (word_of (λ p. (ltb p n && has 0 p) || idle_at after p) (up_to (suc n)))
    (word_of (idle_at after) (up_to (suc n))) kept.0 afresh.0
    (λ q l. kept.1 q ∙ rw (has_zero q, and_false (ltb q n)) (sym (afresh.1 q))))

-- a book without rules has no mark
pub marks_none : (book : List ℕ) → rule_count book ≡ 0 → marks_of book ≡ 0
unfolding marks_of up_to from word_of
marks_none book e = rw e

-- The two sentences

pub arrival_keeps_idle : ArrivalKeepsIdle
arrival_keeps_idle book block long accepted q l =
    let whole = more_whole book block long accepted (omega arith) in
    idle_within book (with_rule book block) (λ p. p) (more_within book block (rule_count book) whole long) q l

pub departure_keeps_needed : DepartureKeepsNeeded
departure_keeps_needed book r accepted h q l =
    needed_within (without_rule book r) book (number_before r)
    (less_within book (rule_count book) (accepted_length book accepted).0 r h) q l

-- an idle rule of an accepted book is idle in an accepted book that has its rules and more
idle_stays :
    (small book : List ℕ) (place : ℕ → ℕ)
    → Within small book place
    → BookAccepted small
    → BookAccepted book
    → (q : ℕ)
    → q < rule_count small
    → idle_at small q ≡ true
    → idle_at book (place q) ≡ true
idle_stays small book place w small_accepted accepted q l h =
    nobody_idle book accepted (place q) (w.below q l)
    (idle_within small book place w q l (idle_nobody small small_accepted q l h))

-- An arrival

module _
    (book block : List ℕ)
    (n : ℕ)
    (whole : length book ≡ 512 * (4 + n))
    (long : length block ≡ 512)
    (accepted : BookAccepted (with_rule book block))
  where
    arrival_keeps : (q : ℕ) → q < n → idle_at book q ≡ true → idle_at (with_rule book block) q ≡ true
    arrival_keeps q l =
        idle_stays book (with_rule book block) (λ p. p) (more_within book block n whole long)
        (more_accepted book block n whole long accepted) accepted q (omega arith)

    pub arrival_marks_law : arrival_marks (with_rule book block) n (marks_of book) ≡ marks_of (with_rule book block)
    unfolding arrival_marks marks_of
    arrival_marks_law =
        let after = with_rule book block in
        let count : rule_count book ≡ n = omega arith in
        let old = (word_of_law (idle_at book) (rule_count book)).1 in
        let kept = word_of_law (λ q. (ltb q n && has (marks_of book) q) || idle_at after q) (suc n) in
        let fresh = word_of_law (idle_at after) (suc n) in
        rw (more_count book block n whole long)
        (same_members (suc n) (arrival_marks after n (marks_of book)) (word_of (idle_at after) (up_to (suc n))) kept.0
        fresh.0
        (λ q l.
        kept.1 q
        ∙ ap (λ (b : Bool). ltb q (suc n) && b)
        (rw (old q, count)
        (same_test ((ltb q n && (ltb q n && idle_at book q)) || idle_at after q) (idle_at after q)
        (λ h. go q (ltb q n) refl (idle_at book q) refl (idle_at after q) refl h)
        (λ h. or_right (ltb q n && (ltb q n && idle_at book q)) (idle_at after q) h)))
        ∙ sym (fresh.1 q)))
      where
        go :
            (q : ℕ) (a : Bool) → ltb q n ≡ a → (b : Bool) → idle_at book q ≡ b
            → (c : Bool) → idle_at (with_rule book block) q ≡ c
            → ((a && (a && b)) || c) ≡ true → c ≡ true
        go q a e b f true g h = refl
        go q true e true f false g h = absurd (false≢true (sym g ∙ arrival_keeps q (ltb-true q n e) f))
        go q true e false f false g h = h
        go q false e b f false g h = h

-- A departure

module _ (book : List ℕ) (accepted : BookAccepted book) (r : ℕ) (h : r < rule_count book) where
  pub departure_marks_law : departure_marks (without_rule book r) r (marks_of book) ≡ marks_of (without_rule book r)
  unfolding departure_marks marks_of
  departure_marks_law =
      let after = without_rule book r in
      let w = less_within book (rule_count book) (accepted_length book accepted).0 r h in
      let old = (word_of_law (idle_at book) (rule_count book)).1 in
      let kept = word_of_law (λ q. has (marks_of book) (number_before r q) && idle_at after q) (rule_count after) in
      let fresh = word_of_law (idle_at after) (rule_count after) in
      same_members (rule_count after) (departure_marks after r (marks_of book)) (marks_of after) kept.0 fresh.0
      (λ q l.
      kept.1 q
      ∙ ap (λ (b : Bool). ltb q (rule_count after) && b)
      (rw (old (number_before r q), lt-ltb (number_before r q) (rule_count book) (w.below q l))
      (and_second (idle_at book (number_before r q)) (idle_at after q)
      (idle_stays after book (number_before r) w (less_accepted book r accepted h) accepted q l)))
      ∙ sym (fresh.1 q))
