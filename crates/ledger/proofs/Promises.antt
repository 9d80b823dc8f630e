-- What the three calls promise, from their outcomes: the equations, their meaning, and that they are the next of a
-- list. Assumes nothing.
use Prim.Native.Nat.{ℕ, ◌+◌}
use mathlib.Core.Path.{◌≡◌, sym, subst, ◌∙◌}
use mathlib.Core.List.{List, ◌∷◌}
use borrow.Author.Tests.{eq-eqb, ne_eqb}
use Rattle.std.specs.Prelude.{Result, Ok, Err}
use Rattle.book.specs.Blocks.{head_of}
use Rattle.book.specs.Tests.{first_failing, refused_or, answered}
use Rattle.book.specs.declared.refusal.Refusal.{Refusal}
use Rattle.book.proofs.Accepted.{accepted_head}
use Rattle.lineage.specs.Accesses.{access_words}
use Rattle.verdicts.specs.Accesses.{held_by, union}
use Rattle.verdicts.specs.Breaking.{broken_mask}
use Rattle.verdicts.proofs.Held.{held_plan}
use Rattle.verdicts.proofs.Verdict.{mask_same}
use Rattle.ledger.specs.Ledger.{words_of, joined_for}
use Rattle.ledger.specs.Counts.{raised_for}
use Rattle.ledger.specs.Places.{empty_place, place_of, placed, freed}
use Rattle.ledger.specs.Answers.{given_to, counted_for, ask_tests, ask_accesses, ask_mask, ask_answer, ask_tally, ask_holds}
use Rattle.ledger.specs.Answers.{settle_tests, settle_answer, settle_holds, commit_ledger, commit_tally, drop_tally}
use Rattle.ledger.specs.Histories.{Ask, Commit, Drop, Made, Records, records_of, records_after, log}
use Rattle.ledger.specs.Demand.{AskAccepted, Asks, SettleAccepted, Promise, Continues}
use Rattle.ledger.specs.declared.Tally.{Tally}
use Rattle.ledger.specs.declared.Holds.{Holds}
use Rattle.ledger.specs.declared.Asked.{Asked}
use Rattle.ledger.specs.declared.Asked.TheVariants.{Held, Declined}
use Rattle.ledger.proofs.CallLaws.{ask_passes, ask_means, settle_passes, settle_means}
use Rattle.ledger.proofs.Kept.{promise}
use Rattle.ledger.proofs.Alike.{equal_histories}

-- a call is the next of a list, and what is promised of every list is promised of what it leaves
continues :
    (book : List ℕ) (made : Made) (before after : Records)
    → after ≡ records_of book before made.user made.call
    → Continues book made before after
unfolding records_after
continues book made before after e list left =
    let now : records_after book (made ∷ list) ≡ after = rw left (sym e) in (
      now,
      subst (λ s. Promise book s (log book (made ∷ list))) now (promise book (made ∷ list)),
      equal_histories book (made ∷ list),
    )

-- Asking

module _ (book : List ℕ) (user : ℕ) (plan ledger : List ℕ) (tally : Tally) (holds : Holds) where
  abbrev pub AskPromised : Result Asked Refusal → (tally_after : Tally) (holds_after : Holds) → Type 0
  AskPromised r t h =
      (r ≡ ask_answer book user plan ledger tally holds)
      × (t ≡ ask_tally book user plan ledger tally holds)
      × (h ≡ ask_holds book user plan ledger tally holds)
      × (AskAccepted book user plan ledger tally holds
      → Asks book user (ask_accesses book user plan ledger tally holds) (given_to user tally holds) r)
      × Continues book (record { user = user; call = Ask plan })
      (record { ledger = ledger; tally = tally; holds = holds })
      (record { ledger = ledger; tally = t; holds = h })

  ask_promised :
      (r : Result Asked Refusal) (t : Tally) (h : Holds)
      → r ≡ ask_answer book user plan ledger tally holds
      → t ≡ ask_tally book user plan ledger tally holds
      → h ≡ ask_holds book user plan ledger tally holds
      → AskPromised r t h
  unfolding records_of
  ask_promised r t h er et eh = (
    er,
    et,
    eh,
    λ given. rw er (ask_means book user plan ledger tally holds given),
    continues book (record { user = user; call = Ask plan })
        (record { ledger = ledger; tally = tally; holds = holds })
        (record { ledger = ledger; tally = t; holds = h })
        (λ i. record { ledger = ledger; tally = et i; holds = eh i }),
  )

  pub ask_refused :
      (r : Refusal) (reply : Result Asked Refusal)
      → reply ≡ Err r
      → first_failing (ask_tests book user plan ledger tally holds) ≡ Err r
      → AskPromised reply tally holds
  unfolding ask_answer ask_tally ask_holds answered refused_or
  ask_refused r reply e h = ask_promised reply tally holds (rw h e) (rw h) (rw h)

  module _
      (accepted : AskAccepted book user plan ledger tally holds)
      (words : List ℕ)
      (mask : ℕ)
      (words_are : words ≡ access_words (head_of book) plan)
      (mask_is : mask ≡ broken_mask book user (union (counted_for ledger holds user) (held_by words)))
    where
      is_mask : mask ≡ ask_mask book user plan ledger tally holds
      unfolding ask_mask ask_accesses union
      is_mask =
          mask_is
          ∙ mask_same book user (union (counted_for ledger holds user) (held_by words))
          (ask_accesses book user plan ledger tally holds)
          (λ x k.
          rw (
            words_are,
            held_plan (head_of book) plan (accepted_head book accepted.judge_accepted.book_accepted).data_most x k,
          ))

      pub ask_held :
          (r : Result Asked Refusal) (t : Tally) (h : Holds)
          → mask ≡ 0
          → r ≡ Ok (Held (given_to user tally holds + 1))
          → t ≡ tally
          → h ≡ placed holds (empty_place holds) user (given_to user tally holds + 1) words
          → AskPromised r t h
      unfolding ask_answer ask_tally ask_holds answered refused_or
      ask_held r t h z er et eh =
          let passes = ask_passes book user plan ledger tally holds accepted in
          let none = eq-eqb (ask_mask book user plan ledger tally holds) 0 (sym is_mask ∙ z) in
          ask_promised r t h (rw (passes, none) er) (rw (passes, none) et) (rw (passes, none, ← words_are) eh)

      pub ask_declined :
          (r : Result Asked Refusal) (t : Tally) (h : Holds)
          → (mask ≡ 0 → ⊥)
          → r ≡ Ok (Declined mask)
          → t
          ≡ record {
            admitted = tally.admitted;
            declined = raised_for tally.declined user;
            dropped = tally.dropped;
          }
          → h ≡ holds
          → AskPromised r t h
      unfolding ask_answer ask_tally ask_holds answered refused_or
      ask_declined r t h z er et eh =
          let passes = ask_passes book user plan ledger tally holds accepted in
          let some = ne_eqb (ask_mask book user plan ledger tally holds) 0 (λ e. z (is_mask ∙ e)) in
          ask_promised r t h (rw (passes, some, ← is_mask) er) (rw (passes, some) et) (rw (passes, some) eh)

-- Committing

module _ (book : List ℕ) (user number : ℕ) (ledger : List ℕ) (tally : Tally) (holds : Holds) where
  abbrev pub CommitPromised : Result ℕ Refusal → (tally_after : Tally) (holds_after : Holds) (after : List ℕ) → Type 0
  CommitPromised r t h after =
      (r ≡ settle_answer book user number ledger holds)
      × (t ≡ commit_tally book user number ledger holds tally)
      × (h ≡ settle_holds book user number ledger holds)
      × (after ≡ commit_ledger book user number ledger holds)
      × (SettleAccepted book user number ledger holds → r ≡ Ok number)
      × Continues book (record { user = user; call = Commit number })
      (record { ledger = ledger; tally = tally; holds = holds })
      (record { ledger = after; tally = t; holds = h })

  commit_promised :
      (r : Result ℕ Refusal) (t : Tally) (h : Holds) (after : List ℕ)
      → r ≡ settle_answer book user number ledger holds
      → t ≡ commit_tally book user number ledger holds tally
      → h ≡ settle_holds book user number ledger holds
      → after ≡ commit_ledger book user number ledger holds
      → CommitPromised r t h after
  unfolding records_of
  commit_promised r t h after er et eh el = (
    er,
    et,
    eh,
    el,
    λ given. er ∙ settle_means book user number ledger holds given,
    continues book (record { user = user; call = Commit number })
        (record { ledger = ledger; tally = tally; holds = holds })
        (record { ledger = after; tally = t; holds = h })
        (λ i. record { ledger = el i; tally = et i; holds = eh i }),
  )

  pub commit_refused :
      (r : Refusal) (reply : Result ℕ Refusal)
      → reply ≡ Err r
      → first_failing (settle_tests book user number ledger holds) ≡ Err r
      → CommitPromised reply tally holds ledger
  unfolding settle_answer settle_holds commit_ledger commit_tally answered refused_or
  commit_refused r reply e h =
      commit_promised reply tally holds ledger (rw h e) (rw h) (rw h) (rw h)

  pub commit_settled :
      SettleAccepted book user number ledger holds
      → (r : Result ℕ Refusal) (t : Tally) (h : Holds) (after : List ℕ)
      → r ≡ Ok number
      → t
      ≡ record {
        admitted = raised_for tally.admitted user;
        declined = tally.declined;
        dropped = tally.dropped;
      }
      → h ≡ freed holds (place_of holds user number)
      → after ≡ joined_for ledger user (words_of holds.words (place_of holds user number))
      → CommitPromised r t h after
  unfolding settle_answer settle_holds commit_ledger commit_tally answered refused_or
  commit_settled given r t h after er et eh el =
      let passes = settle_passes book user number ledger holds given in
      commit_promised r t h after (rw passes er) (rw passes et) (rw passes eh) (rw passes el)

  -- Dropping

  abbrev pub DropPromised : Result ℕ Refusal → (tally_after : Tally) (holds_after : Holds) → Type 0
  DropPromised r t h =
      (r ≡ settle_answer book user number ledger holds)
      × (t ≡ drop_tally book user number ledger holds tally)
      × (h ≡ settle_holds book user number ledger holds)
      × (SettleAccepted book user number ledger holds → r ≡ Ok number)
      × Continues book (record { user = user; call = Drop number })
      (record { ledger = ledger; tally = tally; holds = holds })
      (record { ledger = ledger; tally = t; holds = h })

  drop_promised :
      (r : Result ℕ Refusal) (t : Tally) (h : Holds)
      → r ≡ settle_answer book user number ledger holds
      → t ≡ drop_tally book user number ledger holds tally
      → h ≡ settle_holds book user number ledger holds
      → DropPromised r t h
  unfolding records_of
  drop_promised r t h er et eh = (
    er,
    et,
    eh,
    λ given. er ∙ settle_means book user number ledger holds given,
    continues book (record { user = user; call = Drop number })
        (record { ledger = ledger; tally = tally; holds = holds })
        (record { ledger = ledger; tally = t; holds = h })
        (λ i. record { ledger = ledger; tally = et i; holds = eh i }),
  )

  pub drop_refused :
      (r : Refusal) (reply : Result ℕ Refusal)
      → reply ≡ Err r
      → first_failing (settle_tests book user number ledger holds) ≡ Err r
      → DropPromised reply tally holds
  unfolding settle_answer settle_holds drop_tally answered refused_or
  drop_refused r reply e h = drop_promised reply tally holds (rw h e) (rw h) (rw h)

  pub drop_settled :
      SettleAccepted book user number ledger holds
      → (r : Result ℕ Refusal) (t : Tally) (h : Holds)
      → r ≡ Ok number
      → t
      ≡ record {
        admitted = tally.admitted;
        declined = tally.declined;
        dropped = raised_for tally.dropped user;
      }
      → h ≡ freed holds (place_of holds user number)
      → DropPromised r t h
  unfolding settle_answer settle_holds drop_tally answered refused_or
  drop_settled given r t h er et eh =
      let passes = settle_passes book user number ledger holds given in
      drop_promised r t h (rw passes er) (rw passes et) (rw passes eh)
