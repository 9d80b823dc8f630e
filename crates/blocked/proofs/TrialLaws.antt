-- Laws of dropping rules by trial, for any test of sets of rules: what is left passes, nothing of it can be spared, and
-- it is the least number. Assumes nothing.
use Prim.Native.Nat.{ℕ, zero, suc, ◌+◌, ◌^◌, ◌≤◌, ◌<◌}
use native.Mathlib.Nat.{suc-add, zero-add}
use native.Mathlib.Omega.{arith}
use mathlib.Core.Path.{◌≡◌, refl, sym, ap, fun_ext, ◌∙◌}
use mathlib.Core.Logic.{◌⊎◌, inl, inr, ⊎_elim}
use mathlib.Core.Bool.{Bool, true, false, ◌&&◌, not, cond, false≢true}
use lib.Dec.{eqb}
use borrow.Author.Tests.{eq-eqb, ne_eqb, eqb-true, eqb-false}
use Rattle.book.specs.Lists.{from, up_to}
use Rattle.book.proofs.Lists.{and_end, and_false, and_first, and_left, and_true}
use Rattle.lineage.specs.Accesses.{word_of}
use Rattle.lineage.proofs.Words.{word_of_law, word_more}
use Rattle.search.specs.Inner.Closing.{Within}
use Rattle.search.proofs.Solutions.{fails}
use Rattle.blocked.specs.Few.{after_trials, without}
use Rattle.blocked.proofs.TrialCases.{by_trial}

-- Rules less one

module _ (rules : ℕ → Bool) where
  pub without_gone : (q : ℕ) → without rules q q ≡ false
  unfolding without
  without_gone q = rw (eq-eqb q q refl) (and_false (rules q))

  pub without_kept : (q j : ℕ) → (j ≡ q → ⊥) → without rules q j ≡ rules j
  unfolding without
  without_kept q j other = rw (ne_eqb j q other) (and_end (rules j))

  pub without_within : (q : ℕ) → Within (without rules q) rules
  unfolding without
  without_within q j h = and_left (rules j) (not (eqb j q)) h

  pub without_other : (q j : ℕ) → without rules q j ≡ true → j ≡ q → ⊥
  without_other q j h e = false≢true (sym (without_gone q) ∙ (rw e at h))

  -- a rule that is not there
  pub without_absent : (q : ℕ) → rules q ≡ false → without rules q ≡ rules
  without_absent q h = fun_ext (λ j. go j (eqb j q) refl)
    where
      go : (j : ℕ) (b : Bool) → eqb j q ≡ b → without rules q j ≡ rules j
      go j true e = let same = eqb-true j q e in rw same (without_gone q ∙ sym h)
      go j false e = without_kept q j (eqb-false j q e)

-- rules of which rule q is none are some of those without it
pub within_without :
    (some rules : ℕ → Bool) (q : ℕ) → Within some rules → some q ≡ false → Within some (without rules q)
unfolding without
within_without some rules q within none j h =
    and_true (rules j) (not (eqb j q)) (within j h)
    (ap not (ne_eqb j q (λ e. false≢true (sym none ∙ (rw e at h)))))

pub and_exchange : (a b c : Bool) → (a && b && c) ≡ (a && c && b)
and_exchange false b c = refl
and_exchange true false c = sym (and_false c)
and_exchange true true c = sym (and_end c)

below_or_same : (q k : ℕ) → q < suc k → (q < k) ⊎ (q ≡ k)
below_or_same q k l = go (eqb q k) refl
  where
    go : (b : Bool) → eqb q k ≡ b → (q < k) ⊎ (q ≡ k)
    go true e = inr (eqb-true q k e)
    go false e = let other = eqb-false q k e in inl (omega arith)

same_or_past : (q k : ℕ) → k ≤ q → (k < q) ⊎ (q ≡ k)
same_or_past q k l = go (eqb q k) refl
  where
    go : (b : Bool) → eqb q k ≡ b → (k < q) ⊎ (q ≡ k)
    go true e = inr (eqb-true q k e)
    go false e = let other = eqb-false q k e in inl (omega arith)

pub holds : (b : Bool) → (b ≡ false → ⊥) → b ≡ true
holds true h = refl
holds false h = absurd (h refl)

module _ (passes : (ℕ → Bool) → Bool) where
  pub trial_gone :
      (k : ℕ) (left : ℕ → Bool)
      → passes (without left k) ≡ true
      → after_trials passes (suc k) left ≡ after_trials passes k (without left k)
  trial_gone k left h =
      by_trial passes (λ rest. rest ≡ after_trials passes k (without left k)) k left (λ e. refl)
      (λ e. absurd (false≢true (sym e ∙ h)))

  pub trial_kept :
      (k : ℕ) (left : ℕ → Bool)
      → passes (without left k) ≡ false
      → after_trials passes (suc k) left ≡ after_trials passes k left
  trial_kept k left h =
      by_trial passes (λ rest. rest ≡ after_trials passes k left) k left (λ e. absurd (false≢true (sym h ∙ e))) (λ e. refl)

  pub trials_within : (n : ℕ) (left : ℕ → Bool) → Within (after_trials passes n left) left
  unfolding after_trials
  trials_within zero left = λ q h. h
  trials_within (suc k) left =
      by_trial passes (λ rest. Within rest left) k left
      (λ e q h. without_within left k q (trials_within k (without left k) q h))
      (λ e. trials_within k left)

  -- rules from n on are not tried
  pub trials_keep : (n : ℕ) (left : ℕ → Bool) (q : ℕ) → n ≤ q → after_trials passes n left q ≡ left q
  unfolding after_trials
  trials_keep zero left q l = refl
  trials_keep (suc k) left q l =
      by_trial passes (λ rest. rest q ≡ left q) k left
      (λ e. trials_keep k (without left k) q (omega arith) ∙ without_kept left k q (λ same. omega arith))
      (λ e. trials_keep k left q (omega arith))

  pub trials_pass : (n : ℕ) (left : ℕ → Bool) → passes left ≡ true → passes (after_trials passes n left) ≡ true
  unfolding after_trials
  trials_pass zero left h = h
  trials_pass (suc k) left h =
      by_trial passes (λ rest. passes rest ≡ true) k left (λ e. trials_pass k (without left k) e) (λ e. trials_pass k left h)

  -- the trial of a rule that is not there changes nothing
  pub trial_absent :
      (q : ℕ) (left : ℕ → Bool) → left q ≡ false → after_trials passes (suc q) left ≡ after_trials passes q left
  trial_absent q left none =
      by_trial passes (λ rest. rest ≡ after_trials passes q left) q left
      (λ e. ap (after_trials passes q) (without_absent left q none))
      (λ e. refl)

  pub trials_past :
      (n k : ℕ) (left : ℕ → Bool)
      → ((q : ℕ) → n ≤ q → left q ≡ false)
      → after_trials passes (k + n) left ≡ after_trials passes n left
  trials_past n zero left none = ap (λ m. after_trials passes m left) (zero-add n)
  trials_past n (suc k) left none =
      ap (λ m. after_trials passes m left) (suc-add k n)
      ∙ trial_absent (k + n) left (none (k + n) (omega arith))
      ∙ trials_past n k left none

  module _ (wider : (a b : ℕ → Bool) → Within a b → passes a ≡ true → passes b ≡ true) where
    pub narrower : (a b : ℕ → Bool) → Within a b → passes b ≡ false → passes a ≡ false
    narrower a b within h = fails (passes a) (λ p. false≢true (sym h ∙ wider a b within p))

    -- without any rule of those left the rest does not pass
    pub trials_need :
        (n : ℕ) (left : ℕ → Bool) (q : ℕ)
        → q < n
        → after_trials passes n left q ≡ true
        → passes (without (after_trials passes n left) q) ≡ false
    trials_need zero left q l = absurd (omega arith)
    trials_need (suc k) left q l =
        by_trial passes (λ rest. rest q ≡ true → passes (without rest q) ≡ false) k left
        (λ e h.
        ⊎_elim (λ low. trials_need k (without left k) q low h)
        (λ same. absurd (without_other left k q (trials_within k (without left k) q h) same))
        (below_or_same q k l))
        (λ e h.
        ⊎_elim (λ low. trials_need k left q low h)
        (λ (same : q ≡ k).
        narrower (without (after_trials passes k left) q) (without left k)
        (within_without (without (after_trials passes k left) q) left k
        (λ j g. trials_within k left j (without_within (after_trials passes k left) q j g))
        (rw same (without_gone (after_trials passes k left) k)))
        e)
        (below_or_same q k l))

    -- rules that pass, and from n on are those given, have no lesser number below n
    pub trials_least :
        (n : ℕ) (left other : ℕ → Bool)
        → Within other left
        → ((q : ℕ) → n ≤ q → other q ≡ left q)
        → passes other ≡ true
        → word_of (after_trials passes n left) (up_to n) ≤ word_of other (up_to n)
    unfolding word_of up_to from
    trials_least zero left other within same h = omega arith
    trials_least (suc k) left other within same h =
        by_trial passes (λ rest. word_of rest (up_to (suc k)) ≤ word_of other (up_to (suc k))) k left
        (λ e.
        let rest = after_trials passes k (without left k) in
        let gone : rest k ≡ false = trials_keep k (without left k) k (omega arith) ∙ without_gone left k in
        let small : word_of rest (up_to k) < 2 ^ k = (word_of_law rest k).0 in
        rw (word_more rest k, word_more other k, gone)
        (dropped (other k) (word_of rest (up_to k)) (word_of other (up_to k)) small
        (λ none.
        trials_least k (without left k) other (within_without other left k within none)
        (λ q l.
        ⊎_elim
        (λ (past : k < q). same q (omega arith) ∙ sym (without_kept left k q (λ i. omega arith)))
        (λ (i : q ≡ k). rw i (none ∙ sym (without_gone left k)))
        (same_or_past q k l))
        h)))
        (λ e.
        let rest = after_trials passes k left in
        let there : other k ≡ true =
        holds (other k)
        (λ none. false≢true (sym e ∙ wider other (without left k) (within_without other left k within none) h)) in
        let kept : rest k ≡ true = trials_keep k left k (omega arith) ∙ within k there in
        let fewer =
        trials_least k left other within
        (λ q l.
        ⊎_elim
        (λ (past : k < q). same q (omega arith))
        (λ (i : q ≡ k). rw i (there ∙ sym (within k there)))
        (same_or_past q k l))
        h in
        rw (word_more rest k, word_more other k, there, kept) (omega (arith, fewer)))
      where
        dropped :
            (b : Bool) (x y : ℕ)
            → x < 2 ^ k
            → (b ≡ false → x ≤ y)
            → x + 0 ≤ y + cond b (2 ^ k) 0
        dropped true x y small low = omega arith
        dropped false x y small low = omega (arith, low refl)

-- Rules that are no matter

module _ (passes : (ℕ → Bool) → Bool) (counts : ℕ → Bool)
    (same : (left : ℕ → Bool) → passes left ≡ passes (λ q. left q && counts q)) where
  -- the rules that count, among those left
  abbrev among : (ℕ → Bool) → ℕ → Bool
  among left q = left q && counts q

  among_without : (left : ℕ → Bool) (q : ℕ) → among (without left q) ≡ without (among left) q
  unfolding without
  among_without left q = fun_ext (λ j. and_exchange (left j) (not (eqb j q)) (counts j))

  among_absent : (left : ℕ → Bool) (q : ℕ) → counts q ≡ false → among left q ≡ false
  among_absent left q h = rw h (and_false (left q))

  -- trying all is trying those that count
  pub trials_counting :
      (n : ℕ) (left : ℕ → Bool)
      → passes left ≡ true
      → ((q : ℕ) → n ≤ q → left q ≡ true → counts q ≡ true)
      → after_trials passes n left ≡ after_trials passes n (among left)
  unfolding after_trials
  trials_counting zero left h past =
      fun_ext (λ q. sym (and_first (left q) (counts q) (past q (omega arith))))
  trials_counting (suc k) left h past =
      let part = among left in
      let alike : passes (without left k) ≡ passes (without part k) =
      same (without left k) ∙ ap passes (among_without left k) in
      by_trial passes (λ rest. rest ≡ after_trials passes (suc k) part) k left
      (λ e.
      trials_counting k (without left k) e
      (λ q low g.
      let other = without_other left k q g in
      past q (omega arith) (without_within left k q g))
      ∙ ap (after_trials passes k) (among_without left k)
      ∙ sym (trial_gone passes k part (sym alike ∙ e)))
      (λ e.
      let there : counts k ≡ true =
      holds (counts k)
      (λ none.
      false≢true
      (sym e ∙ alike ∙ ap passes (without_absent part k (among_absent left k none)) ∙ sym (same left) ∙ h)) in
      trials_counting k left h
      (λ q low g.
      ⊎_elim (λ (above : k < q). past q (omega arith) g) (λ (i : q ≡ k). rw i there) (same_or_past q k low))
      ∙ sym (trial_kept passes k part (sym alike ∙ e)))
