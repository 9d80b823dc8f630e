-- The records against what the replies say of a user, and how they stay so at each outcome of a call, his own and that
-- of another. Assumes nothing.
use Prim.Native.Nat.{ℕ, suc, ◌+◌, ◌*◌, ◌≤◌}
use native.Mathlib.Omega.{arith}
use mathlib.Core.Path.{◌≡◌, refl, sym, ◌∙◌}
use mathlib.Core.Bool.{Bool, true, false, ◌||◌, not}
use mathlib.Core.Logic.{⊎_elim}
use mathlib.Core.List.{List, [], ◌∷◌}
use lib.ListN.{length, replicate}
use lib.Dec.{eqb}
use borrow.Author.Tests.{ne_eqb}
use Rattle.book.specs.Lists.{any}
use Rattle.book.specs.Blocks.{head_of}
use Rattle.book.specs.Refusals.{BookAccepted}
use Rattle.book.specs.declared.refusal.Refusal.{Refusal}
use Rattle.book.proofs.Accepted.{accepted_head}
use Rattle.book.proofs.Lists.{and_false, or_left, or_right, or_either}
use Rattle.lineage.specs.Accesses.{access_words}
use Rattle.lineage.proofs.Accepted.{accepted_plan}
use Rattle.lineage.proofs.Steps.{get_d_zeros}
use Rattle.verdicts.specs.Accesses.{Access, Accesses, accesses_of, held_by, union}
use Rattle.verdicts.specs.Breaking.{broken_mask}
use Rattle.verdicts.proofs.Held.{held_accesses_law, held_zero}
use Rattle.verdicts.proofs.Verdict.{mask_fewer, mask_same, nothing_broken}
use Rattle.ledger.specs.Ledger.{words_of, admitted_for}
use Rattle.ledger.specs.Counts.{WholeTally, counts_of}
use Rattle.ledger.specs.Places.{WholeHolds, holds_number, place_of, empty_place, freed}
use Rattle.ledger.specs.Answers.{given_to, asked_by, counted_for, ask_accesses, ask_mask}
use Rattle.ledger.specs.Histories.{Call, Ask, Commit, Drop, Records, fresh, Hold, numbered, plan_of, besides}
use Rattle.ledger.specs.Histories.{reply_of, records_of, Account, booked, account}
use Rattle.ledger.specs.Demand.{AskAccepted, SettleAccepted, in_some}
use Rattle.ledger.specs.Inner.Steps.{joined_words}
use Rattle.ledger.specs.Histories.{Held, Declined, Settled, Refused}
use Rattle.ledger.proofs.WordLaws.{words_zero, zero_words, own_words, other_words, held_own, held_other}
use Rattle.ledger.proofs.CountLaws.{raised_own, raised_other}
use Rattle.ledger.proofs.PlaceLaws.{empty_place_law, number_place, number_held, held_one, not_taken, held_here}
use Rattle.ledger.proofs.CallLaws.{asker_low, settler_low}
use Rattle.ledger.proofs.HoldLaws.{Falling, falling_none, falling_more, falling_wider, falling_besides}
use Rattle.ledger.proofs.HoldLaws.{besides_length, besides_fewer, plan_found}
use Rattle.ledger.proofs.HeldKept.{HeldKept, held_plans, kept_none, kept_other, kept_more, kept_less}
use Rattle.ledger.proofs.Outcomes.{declining, holding, committing, dropping, every_outcome}

-- the numbers that an account has given: committed, dropped and held
abbrev pub given : Account → ℕ
given a = length a.committed + a.drops + length a.holds

-- the words of the union of some plans
unfoldable pub union_words : (head : List ℕ) → List (List ℕ) → List ℕ
union_words head [] = replicate 32 0
union_words head (plan ∷ plans) = joined_words (union_words head plans) (access_words head plan)

-- the accesses of the committed and the held plans
unfoldable pub account_accesses : (head : List ℕ) → Account → Accesses
account_accesses head a x = in_some head a.committed x || any (λ h. accesses_of head h.plan x) a.holds

-- what a user's replies say is what the records say of him, and it is lawful
pub record UserKept (book : List ℕ) (user : ℕ) (s : Records) (a : Account) : Type 0 where
  pub words : words_of s.ledger user ≡ union_words (head_of book) a.committed
  pub union : (x : Access) → admitted_for s.ledger user x ≡ in_some (head_of book) a.committed x
  pub admits : (counts_of s.tally user).admitted ≡ length a.committed
  pub declines : (counts_of s.tally user).declined ≡ a.declines
  pub drops : (counts_of s.tally user).dropped ≡ a.drops
  pub holds : HeldKept (head_of book) user s.holds a.holds
  -- what is held has numbers already given, each once
  pub falling : Falling (given a) a.holds
  -- 28 stops the sum at a million
  pub few : given a + a.declines ≤ 1000000
  pub no_rule_law : BookAccepted book → broken_mask book user (account_accesses (head_of book) a) ≡ 0

-- lengths
pub record Whole (s : Records) : Type 0 where
  pub ledger : length s.ledger ≡ 1024
  pub tally : WholeTally s.tally
  pub holds : WholeHolds s.holds

module _ (book : List ℕ) (user : ℕ) (s : Records) (a : Account) (kept : UserKept book user s a) where
  pub given_same : given_to user s.tally s.holds ≡ given a
  unfolding given_to
  given_same = rw (kept.admits, kept.drops, kept.holds.counted)

  pub asked_same : asked_by user s.tally s.holds ≡ given a + a.declines
  unfolding asked_by
  asked_same = rw (given_same, kept.declines)

  -- his words joined with his held plans are those of the account
  pub counted_same : (x : Access) → counted_for s.ledger s.holds user x ≡ account_accesses (head_of book) a x
  unfolding counted_for union account_accesses
  counted_same x =
      rw (
        kept.union x,
        held_plans (head_of book) user (given a) s.holds a.holds kept.holds kept.falling x,
      )

  -- what is asked is judged with what the replies say he has
  pub mask_same_account :
      (plan : List ℕ)
      → ask_mask book user plan s.ledger s.tally s.holds
      ≡ broken_mask book user (union (account_accesses (head_of book) a) (accesses_of (head_of book) plan))
  unfolding ask_mask ask_accesses union
  mask_same_account plan =
      mask_same book user (ask_accesses book user plan s.ledger s.tally s.holds)
      (union (account_accesses (head_of book) a) (accesses_of (head_of book) plan))
      (λ x k. rw (counted_same x))

-- Accesses of an account after a reply

module _ (head : List ℕ) (a : Account) (x : Access) where
  of_holds : List Hold → Bool
  of_holds hs = any (λ h. accesses_of head h.plan x) hs

  more_held :
      (n : ℕ) (plan : List ℕ)
      → account_accesses head (booked (Ask plan) (Held n) a) x ≡ true
      → union (account_accesses head a) (accesses_of head plan) x ≡ true
  unfolding account_accesses union any booked
  more_held n plan =
      turned (in_some head a.committed x) (accesses_of head plan x)
      (any (λ h. accesses_of head h.plan x) a.holds)
    where
      turned : (b c d : Bool) → (b || (c || d)) ≡ true → ((b || d) || c) ≡ true
      turned true c d h = refl
      turned false true true h = refl
      turned false true false h = refl
      turned false false d h = or_left d false h

  fewer_held :
      (n : ℕ)
      → account_accesses head (booked (Drop n) (Settled n) a) x ≡ true
      → account_accesses head a x ≡ true
  unfolding account_accesses booked of_holds
  fewer_held n t =
      ⊎_elim
      (λ (c : in_some head a.committed x ≡ true).
      or_left (in_some head a.committed x) (of_holds a.holds) c)
      (λ (c : of_holds (besides n a.holds) ≡ true).
      or_right (in_some head a.committed x) (of_holds a.holds)
      (besides_fewer (λ h. accesses_of head h.plan x) n a.holds c))
      (or_either (in_some head a.committed x) (of_holds (besides n a.holds)) t)

  moved_held :
      (n : ℕ)
      → any (numbered n) a.holds ≡ true
      → account_accesses head (booked (Commit n) (Settled n) a) x ≡ true
      → account_accesses head a x ≡ true
  unfolding account_accesses booked in_some any of_holds
  moved_held n there t = go (accesses_of head (plan_of n a.holds) x) refl t
    where
      old : Bool
      old = any (λ plan. accesses_of head plan x) a.committed

      go :
          (b : Bool)
          → accesses_of head (plan_of n a.holds) x ≡ b
          → ((b || old) || of_holds (besides n a.holds)) ≡ true
          → (old || of_holds a.holds) ≡ true
      go true e s =
          or_right old (of_holds a.holds) (plan_found (λ plan. accesses_of head plan x) n a.holds there e)
      go false e s = fewer_held n s

-- His own calls

module _
    (book : List ℕ) (user : ℕ) (s : Records) (whole : Whole s) (a : Account) (kept : UserKept book user s a)
  where
    own_refused : (c : Call) (r : Refusal) → UserKept book user s (booked c (Refused r) a)
    unfolding booked
    own_refused (Ask plan) r = kept
    own_refused (Commit n) r = kept
    own_refused (Drop n) r = kept

    own_declined :
        (plan : List ℕ) (mask : ℕ)
        → AskAccepted book user plan s.ledger s.tally s.holds
        → UserKept book user (declining user s) (booked (Ask plan) (Declined mask) a)
    unfolding booked counts_of account_accesses
    own_declined plan mask ok =
        let low = asker_low book user plan s.ledger s.tally s.holds ok in
        let few = (rw (asked_same book user s a kept) at ok.asks_below) in
        record {
          words = kept.words;
          union = kept.union;
          admits = kept.admits;
          declines =
              raised_own s.tally.declined user (omega (arith, whole.tally.declined)) (omega (arith, kept.declines))
              ∙ rw kept.declines;
          drops = kept.drops;
          holds = kept.holds;
          falling = kept.falling;
          few = omega arith;
          no_rule_law = kept.no_rule_law;
        }

    own_held :
        (plan : List ℕ)
        → AskAccepted book user plan s.ledger s.tally s.holds
        → ask_mask book user plan s.ledger s.tally s.holds ≡ 0
        → UserKept book user (holding user (access_words (head_of book) plan) s)
        (booked (Ask plan) (Held (given_to user s.tally s.holds + 1)) a)
    unfolding booked
    own_held plan ok none =
        let place = empty_place_law s.holds ok.place_empty in
        let top = given_to user s.tally s.holds in
        let same : top ≡ given a = given_same book user s a kept in
        let few = (rw (asked_same book user s a kept) at ok.asks_below) in
        let falls : Falling top a.holds = rw same kept.falling in
        let accepted = ok.judge_accepted in
        record {
          words = kept.words;
          union = kept.union;
          admits = kept.admits;
          declines = kept.declines;
          drops = kept.drops;
          holds =
              kept_more (head_of book) user s.holds whole.holds a.holds (empty_place s.holds) top plan place.1
              place.0 falls
              (held_accesses_law (head_of book) plan (accepted_head book accepted.book_accepted)
              (accepted_plan (head_of book) plan accepted.plan_accepted))
              kept.holds;
          falling =
              falling_wider (top + 1) (length a.committed + a.drops + suc (length a.holds))
              (record { number = top + 1; plan = plan } ∷ a.holds) (omega (arith, same))
              (falling_more top plan a.holds falls);
          few = omega arith;
          no_rule_law =
              λ ok'.
              mask_fewer book user
              (account_accesses (head_of book) (booked (Ask plan) (Held (top + 1)) a))
              (union (account_accesses (head_of book) a) (accesses_of (head_of book) plan))
              (λ x. more_held (head_of book) a x (top + 1) plan)
              (sym (mask_same_account book user s a kept plan) ∙ none);
        }

    module _ (n : ℕ) (ok : SettleAccepted book user n s.ledger s.holds) where
      listed : any (numbered n) a.holds ≡ true
      unfolding holds_number
      listed = sym (kept.holds.numbers n) ∙ ok.number_held

      kept_freed : HeldKept (head_of book) user (freed s.holds (place_of s.holds user n)) (besides n a.holds)
      kept_freed =
          let spot = number_place s.holds user n ok.number_held in
          kept_less (head_of book) user s.holds whole.holds a.holds (place_of s.holds user n) n (given a) spot.1
          spot.0 kept.falling kept.holds

      fewer : length (besides n a.holds) + 1 ≡ length a.holds
      fewer = besides_length n a.holds listed

      own_committed : UserKept book user (committing user n s) (booked (Commit n) (Settled n) a)
      unfolding booked counts_of union_words union in_some any
      own_committed =
          let low = settler_low book user n s.ledger s.holds ok in
          let spot = number_place s.holds user n ok.number_held in
          let its = kept.holds.words n (place_of s.holds user n) spot.1 spot.0 in
          let room : 32 * user + 32 ≤ length s.ledger = omega (arith, whole.ledger) in
          let words = words_of s.holds.words (place_of s.holds user n) in
          let gone = fewer in
          let few = kept.few in
          record {
            words = own_words s.ledger user words room ∙ rw (kept.words, its);
            union =
                λ x.
                held_own s.ledger user words room x
                ∙ joined_union x its;
            admits =
                raised_own s.tally.admitted user (omega (arith, whole.tally.admitted)) (omega (arith, kept.admits))
                ∙ rw kept.admits (omega arith);
            declines = kept.declines;
            drops = kept.drops;
            holds = kept_freed;
            falling =
                falling_wider (given a) (suc (length a.committed) + a.drops + length (besides n a.holds))
                (besides n a.holds) (omega (arith, gone)) (falling_besides (given a) n a.holds kept.falling);
            few = omega (arith, gone, few);
            no_rule_law =
                λ accepted.
                mask_fewer book user (account_accesses (head_of book) (booked (Commit n) (Settled n) a))
                (account_accesses (head_of book) a) (λ x. moved_held (head_of book) a x n listed) (kept.no_rule_law accepted);
          }
        where
          swap : (b c d : Bool) → b ≡ d → (b || c) ≡ (c || d)
          swap true true d e = refl
          swap true false d e = e
          swap false true d e = refl
          swap false false d e = e

          joined_union :
              (x : Access)
              → words_of s.holds.words (place_of s.holds user n) ≡ access_words (head_of book) (plan_of n a.holds)
              → union (admitted_for s.ledger user) (held_by (words_of s.holds.words (place_of s.holds user n))) x
              ≡ in_some (head_of book) (plan_of n a.holds ∷ a.committed) x
          joined_union x its =
              rw (its, kept.holds.faithful n listed x)
              (swap (admitted_for s.ledger user x) (accesses_of (head_of book) (plan_of n a.holds) x)
              (in_some (head_of book) a.committed x) (kept.union x))

      own_dropped : UserKept book user (dropping user n s) (booked (Drop n) (Settled n) a)
      unfolding booked counts_of
      own_dropped =
          let low = settler_low book user n s.ledger s.holds ok in
          let gone = fewer in
          let few = kept.few in
          record {
            words = kept.words;
            union = kept.union;
            admits = kept.admits;
            declines = kept.declines;
            drops =
                raised_own s.tally.dropped user (omega (arith, whole.tally.dropped)) (omega (arith, kept.drops))
                ∙ rw kept.drops;
            holds = kept_freed;
            falling =
                falling_wider (given a) (length a.committed + (a.drops + 1) + length (besides n a.holds))
                (besides n a.holds) (omega (arith, gone)) (falling_besides (given a) n a.holds kept.falling);
            few = omega (arith, gone, few);
            no_rule_law =
                λ accepted.
                mask_fewer book user (account_accesses (head_of book) (booked (Drop n) (Settled n) a))
                (account_accesses (head_of book) a) (λ x. fewer_held (head_of book) a x n) (kept.no_rule_law accepted);
          }

-- The calls of another

module _
    (book : List ℕ) (user : ℕ) (s : Records) (whole : Whole s) (u : ℕ) (a : Account) (apart : u ≡ user → ⊥)
    (kept : UserKept book u s a)
  where
    other_declined : UserKept book u (declining user s) a
    unfolding counts_of
    other_declined =
        record {
          words = kept.words;
          union = kept.union;
          admits = kept.admits;
          declines = raised_other s.tally.declined user u apart ∙ kept.declines;
          drops = kept.drops;
          holds = kept.holds;
          falling = kept.falling;
          few = kept.few;
          no_rule_law = kept.no_rule_law;
        }

    other_held :
        (plan : List ℕ)
        → AskAccepted book user plan s.ledger s.tally s.holds
        → UserKept book u (holding user (access_words (head_of book) plan) s) a
    other_held plan ok =
        let place = empty_place_law s.holds ok.place_empty in
        let number = given_to user s.tally s.holds + 1 in
        let words = access_words (head_of book) plan in
        record {
          words = kept.words;
          union = kept.union;
          admits = kept.admits;
          declines = kept.declines;
          drops = kept.drops;
          holds =
              kept_other (head_of book) u s.holds whole.holds a.holds (empty_place s.holds) user number words
              (not_taken s.holds u (empty_place s.holds) place.0)
              (held_here s.holds (empty_place s.holds) user number words whole.holds place.1 u
              ∙ rw (ne_eqb user u (λ e. apart (sym e))) (and_false (not (eqb number 0))))
              kept.holds;
          falling = kept.falling;
          few = kept.few;
          no_rule_law = kept.no_rule_law;
        }

    module _ (n : ℕ) (ok : SettleAccepted book user n s.ledger s.holds) where
      other_freed : HeldKept (head_of book) u (freed s.holds (place_of s.holds user n)) a.holds
      unfolding freed
      other_freed =
          let p = place_of s.holds user n in
          let spot = number_place s.holds user n ok.number_held in
          kept_other (head_of book) u s.holds whole.holds a.holds p 0 0 (replicate 32 0)
          (held_one s.holds u user p (number_held s.holds user n p spot.0).0 apart)
          (held_here s.holds p 0 0 (replicate 32 0) whole.holds spot.1 u) kept.holds

      other_committed : UserKept book u (committing user n s) a
      unfolding counts_of
      other_committed =
          let words = words_of s.holds.words (place_of s.holds user n) in
          record {
            words = other_words s.ledger user words u apart ∙ kept.words;
            union = λ x. held_other s.ledger user words u apart x ∙ kept.union x;
            admits = raised_other s.tally.admitted user u apart ∙ kept.admits;
            declines = kept.declines;
            drops = kept.drops;
            holds = other_freed;
            falling = kept.falling;
            few = kept.few;
            no_rule_law = kept.no_rule_law;
          }

      other_dropped : UserKept book u (dropping user n s) a
      unfolding counts_of
      other_dropped =
          record {
            words = kept.words;
            union = kept.union;
            admits = kept.admits;
            declines = kept.declines;
            drops = raised_other s.tally.dropped user u apart ∙ kept.drops;
            holds = other_freed;
            falling = kept.falling;
            few = kept.few;
            no_rule_law = kept.no_rule_law;
          }

-- Any call

module _ (book : List ℕ) (user : ℕ) (s : Records) (whole : Whole s) where
  pub own_after :
      (a : Account)
      → UserKept book user s a
      → (c : Call)
      → UserKept book user (records_of book s user c) (booked c (reply_of book s user c) a)
  own_after a kept =
      every_outcome book user s (λ c reply after. UserKept book user after (booked c reply a))
      (own_refused book user s whole a kept)
      (λ plan ok.
      own_declined book user s whole a kept plan (ask_mask book user plan s.ledger s.tally s.holds) ok)
      (own_held book user s whole a kept) (own_committed book user s whole a kept)
      (own_dropped book user s whole a kept)

  pub other_after :
      (u : ℕ) (a : Account)
      → (u ≡ user → ⊥)
      → UserKept book u s a
      → (c : Call)
      → UserKept book u (records_of book s user c) a
  other_after u a apart kept =
      every_outcome book user s (λ c reply after. UserKept book u after a) (λ c r. kept)
      (λ plan ok. other_declined book user s whole u a apart kept)
      (λ plan ok none. other_held book user s whole u a apart kept plan ok)
      (other_committed book user s whole u a apart kept) (other_dropped book user s whole u a apart kept)

-- Fresh records

pub kept_fresh : (book : List ℕ) (user : ℕ) → UserKept book user fresh (account [])
unfolding account union_words counts_of admitted_for in_some any account_accesses
kept_fresh book user =
    record {
      words = zero_words 1024 user;
      union = λ x. held_zero (words_of fresh.ledger user) (words_zero 1024 user) x;
      admits = get_d_zeros 32 user;
      declines = get_d_zeros 32 user;
      drops = get_d_zeros 32 user;
      holds = kept_none (head_of book) user fresh.holds (λ p. get_d_zeros 8 p);
      falling = falling_none 0;
      few = omega arith;
      no_rule_law = λ accepted. nothing_broken (account_accesses (head_of book) (account [])) (λ x. refl) book user accepted;
    }
