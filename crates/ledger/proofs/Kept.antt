-- What every list of calls from fresh keeps, in one record, that a call keeps it, and the promise of every list.
-- Assumes nothing.
use Prim.Native.Nat.{ℕ, zero, suc, ◌+◌, ◌<◌}
use native.Mathlib.Omega.{arith}
use mathlib.Core.Path.{◌≡◌, refl, sym, subst, ap, ◌∙◌}
use mathlib.Core.Bool.{Bool, true, false, cond}
use mathlib.Core.List.{List, [], ◌∷◌, ◌++◌}
use lib.ListN.{length, replicate, length-replicate}
use lib.Dec.{eqb}
use borrow.Author.Tests.{eq-eqb, ne_eqb, eqb-true, eqb-false}
use Rattle.book.specs.Lists.{any, flat, from, keep, up_to}
use Rattle.book.specs.Blocks.{head_of}
use Rattle.book.specs.Refusals.{BookAccepted}
use Rattle.book.specs.declared.refusal.Refusal.{Refusal}
use Rattle.book.proofs.Lists.{keep_in, keep_out, same_test}
use Rattle.lineage.specs.Accesses.{access_words}
use Rattle.verdicts.specs.Breaking.{broken_mask}
use Rattle.verdicts.proofs.DemandLaws.{query_demand}
use Rattle.verdicts.proofs.Verdict.{broken_none, mask_same}
use Rattle.ledger.specs.Ledger.{words_of}
use Rattle.ledger.specs.Counts.{WholeTally}
use Rattle.ledger.specs.Counting.{count}
use Rattle.ledger.specs.Places.{WholeHolds, taken, holds_number, eight_held, empty_place, place_of, placed, freed}
use Rattle.ledger.specs.Answers.{given_to, counted_for}
use Rattle.ledger.specs.Histories.{Call, Ask, Commit, Drop, Made, Records, fresh, reply_of, records_of, Entry}
use Rattle.ledger.specs.Histories.{records_after, entry_of, log, entries_of, besides, Account, booked}
use Rattle.ledger.specs.Histories.{account, not_refused, answered_ask, number_in, takes_place, frees_place, down_from}
use Rattle.ledger.specs.Histories.{none_twice}
use Rattle.ledger.specs.Demand.{AskAccepted, SettleAccepted, Reserved, Counted, Promise, EveryList}
use Rattle.ledger.specs.Histories.{Refused}
use Rattle.ledger.proofs.WordLaws.{joined_length}
use Rattle.ledger.proofs.CountLaws.{raised_length}
use Rattle.ledger.proofs.Counting.{count_more, all_count}
use Rattle.ledger.proofs.PlaceLaws.{whole_after, empty_place_law, number_place, number_held, held_user}
use Rattle.ledger.proofs.PlaceLaws.{taken_there, taken_here}
use Rattle.ledger.proofs.CallLaws.{counted_operations}
use Rattle.ledger.proofs.HoldLaws.{falling_number, besides_length}
use Rattle.ledger.proofs.Outcomes.{declining, holding, committing, dropping, every_outcome}
use Rattle.ledger.proofs.UserKept.{given, account_accesses, UserKept, Whole, given_same, asked_same, counted_same}
use Rattle.ledger.proofs.UserKept.{own_after, other_after, kept_fresh}

-- Lengths, and how many places are taken

abbrev pub places : Records → ℕ
places s = count (taken s.holds) (up_to 8)

module _ (book : List ℕ) (user : ℕ) (s : Records) (whole : Whole s) where
  whole_freed :
      (n : ℕ) → WholeHolds (freed s.holds (place_of s.holds user n))
  unfolding freed
  whole_freed n = whole_after s.holds (place_of s.holds user n) 0 0 (replicate 32 0) whole.holds

  pub whole_next : (c : Call) → Whole (records_of book s user c)
  whole_next =
      every_outcome book user s (λ c reply after. Whole after) (λ c r. whole) (λ plan ok. declined) (λ plan ok none. held plan)
      (λ n ok. committed n) (λ n ok. dropped n)
    where
      t : WholeTally s.tally
      t = whole.tally

      declined : Whole (declining user s)
      declined =
          record {
            ledger = whole.ledger;
            tally =
                record {
                  admitted = t.admitted;
                  declined = raised_length s.tally.declined user ∙ t.declined;
                  dropped = t.dropped;
                };
            holds = whole.holds;
          }

      held : (plan : List ℕ) → Whole (holding user (access_words (head_of book) plan) s)
      held plan =
          record {
            ledger = whole.ledger;
            tally = t;
            holds =
                whole_after s.holds (empty_place s.holds) user (given_to user s.tally s.holds + 1)
                (access_words (head_of book) plan) whole.holds;
          }

      committed : (n : ℕ) → Whole (committing user n s)
      committed n =
          record {
            ledger =
                joined_length s.ledger user (words_of s.holds.words (place_of s.holds user n)) ∙ whole.ledger;
            tally =
                record {
                  admitted = raised_length s.tally.admitted user ∙ t.admitted;
                  declined = t.declined;
                  dropped = t.dropped;
                };
            holds = whole_freed n;
          }

      dropped : (n : ℕ) → Whole (dropping user n s)
      dropped n =
          record {
            ledger = whole.ledger;
            tally =
                record {
                  admitted = t.admitted;
                  declined = t.declined;
                  dropped = raised_length s.tally.dropped user ∙ t.dropped;
                };
            holds = whole_freed n;
          }

  -- one place more
  taken_more :
      (plan : List ℕ)
      → AskAccepted book user plan s.ledger s.tally s.holds
      → places (holding user (access_words (head_of book) plan) s) ≡ places s + 1
  taken_more plan ok =
      let p = empty_place s.holds in
      let n = given_to user s.tally s.holds + 1 in
      let words = access_words (head_of book) plan in
      let spot = empty_place_law s.holds ok.place_empty in
      count_more (taken s.holds) (taken (placed s.holds p user n words)) p spot.0
      (taken_there s.holds p user n words whole.holds)
      (taken_here s.holds p user n words whole.holds spot.1
      ∙ rw (ne_eqb n 0 (λ (z : given_to user s.tally s.holds + 1 ≡ 0). omega arith)))
      8 spot.1

  -- one place less
  taken_less :
      (n : ℕ)
      → SettleAccepted book user n s.ledger s.holds
      → count (taken (freed s.holds (place_of s.holds user n))) (up_to 8) + 1 ≡ places s
  unfolding freed
  taken_less n ok =
      let p = place_of s.holds user n in
      let spot = number_place s.holds user n ok.number_held in
      sym (count_more (taken (freed s.holds p)) (taken s.holds) p
      (taken_here s.holds p 0 0 (replicate 32 0) whole.holds spot.1)
      (λ q d. sym (taken_there s.holds p 0 0 (replicate 32 0) whole.holds q d))
      (held_user s.holds user p (number_held s.holds user n p spot.0).0).0
      8 spot.1)

  places_next :
      (c : Call)
      → places (records_of book s user c) + cond (frees_place (reply_of book s user c)) 1 0
      ≡ cond (takes_place (reply_of book s user c)) 1 0 + places s
  unfolding frees_place takes_place
  places_next =
      every_outcome book user s
      (λ c reply after. places after + cond (frees_place reply) 1 0 ≡ cond (takes_place reply) 1 0 + places s)
      (λ c r. same (places s)) (λ plan ok. same (places s)) (λ plan ok none. more plan (taken_more plan ok))
      (λ n ok. less (places (committing user n s)) (taken_less n ok))
      (λ n ok. less (places (dropping user n s)) (taken_less n ok))
    where
      same : (m : ℕ) → m + 0 ≡ 0 + m
      same m = omega arith

      more :
          (plan : List ℕ)
          → places (holding user (access_words (head_of book) plan) s) ≡ places s + 1
          → places (holding user (access_words (head_of book) plan) s) + 0 ≡ 1 + places s
      more plan e = omega arith

      less : (m : ℕ) → m + 1 ≡ places s → m + 1 ≡ 0 + places s
      less m e = omega arith

-- The sum and the numbers of a user

down_more : (n : ℕ) → down_from (n + 1) ≡ (n + 1) ∷ down_from n
unfolding down_from
down_more n =
    let e : n + 1 ≡ suc n = omega arith in
    rw e

module _ (book : List ℕ) (user : ℕ) (s : Records) (a : Account) (kept : UserKept book user s a) where
  -- one plan less is held
  gone : (n : ℕ) → SettleAccepted book user n s.ledger s.holds → length (besides n a.holds) + 1 ≡ length a.holds
  unfolding holds_number
  gone n ok = besides_length n a.holds (sym (kept.holds.numbers n) ∙ ok.number_held)

  -- an ask that is not refused is one more, any other call none
  sum_next :
      (c : Call)
      → given (booked c (reply_of book s user c) a) + (booked c (reply_of book s user c) a).declines
      ≡ cond (answered_ask c (reply_of book s user c)) 1 0 + (given a + a.declines)
  unfolding booked answered_ask not_refused
  sum_next =
      every_outcome book user s
      (λ c reply after.
      given (booked c reply a) + (booked c reply a).declines ≡ cond (answered_ask c reply) 1 0 + (given a + a.declines))
      refused (λ plan ok. omega arith) (λ plan ok none. omega arith) (λ n ok. omega (arith, gone n ok))
      (λ n ok. omega (arith, gone n ok))
    where
      refused :
          (c : Call) (r : Refusal)
          → given (booked c (Refused r) a) + (booked c (Refused r) a).declines
          ≡ cond (answered_ask c (Refused r)) 1 0 + (given a + a.declines)
      refused (Ask plan) r = omega arith
      refused (Commit n) r = omega arith
      refused (Drop n) r = omega arith

  -- a new hold has the next number, and no other call changes how many were given
  numbers_next :
      (c : Call)
      → number_in (reply_of book s user c) ++ down_from (given a) ≡ down_from (given (booked c (reply_of book s user c) a))
  unfolding booked number_in
  numbers_next =
      every_outcome book user s
      (λ c reply after. number_in reply ++ down_from (given a) ≡ down_from (given (booked c reply a)))
      refused (λ plan ok. refl) (λ plan ok none. held) (λ n ok. ap down_from (omega (arith, gone n ok)))
      (λ n ok. ap down_from (omega (arith, gone n ok)))
    where
      refused :
          (c : Call) (r : Refusal) → down_from (given a) ≡ down_from (given (booked c (Refused r) a))
      refused (Ask plan) r = refl
      refused (Commit n) r = refl
      refused (Drop n) r = refl

      held :
          (given_to user s.tally s.holds + 1) ∷ down_from (given a)
          ≡ down_from (length a.committed + a.drops + suc (length a.holds))
      held =
          let e : length a.committed + a.drops + suc (length a.holds) ≡ given a + 1 = omega arith in
          rw (given_same book user s a kept, e) (sym (down_more (given a)))

-- The invariant

pub record Kept (book : List ℕ) (s : Records) (entries : List Entry) : Type 0 where
  pub whole : Whole s
  -- as many places are taken as the replies say
  pub places_kept :
      places s + count (λ e. frees_place e.reply) entries ≡ count (λ e. takes_place e.reply) entries
  -- the records say of each user what the replies to him say
  pub users : (u : ℕ) → UserKept book u s (account (entries_of u entries))
  pub sums :
      (u : ℕ)
      → given (account (entries_of u entries)) + (account (entries_of u entries)).declines
      ≡ count (λ e. answered_ask e.made.call e.reply) (entries_of u entries)
  pub numbers :
      (u : ℕ)
      → flat (λ e. number_in e.reply) (entries_of u entries) ≡ down_from (given (account (entries_of u entries)))

module _ (e : Entry) (entries : List Entry) where
  pub own_entry : (u : ℕ) → e.made.user ≡ u → entries_of u (e ∷ entries) ≡ e ∷ entries_of u entries
  unfolding entries_of
  own_entry u z = keep_in (λ e. eqb e.made.user u) e entries (eq-eqb e.made.user u z)

  pub other_entry : (u : ℕ) → (e.made.user ≡ u → ⊥) → entries_of u (e ∷ entries) ≡ entries_of u entries
  unfolding entries_of
  other_entry u n = keep_out (λ e. eqb e.made.user u) e entries (ne_eqb e.made.user u n)

module _ (book : List ℕ) (s : Records) (entries : List Entry) (kept : Kept book s entries) (x : Made) where
  -- what holds of the user who calls and of the others holds of all
  pub by_user :
      (P : ℕ → List Entry → Type 0)
      → P x.user (entry_of book s x ∷ entries_of x.user entries)
      → ((u : ℕ) → (u ≡ x.user → ⊥) → P u (entries_of u entries))
      → (u : ℕ)
      → P u (entries_of u (entry_of book s x ∷ entries))
  unfolding entry_of
  by_user P own others u = go (eqb x.user u) refl
    where
      go : (b : Bool) → eqb x.user u ≡ b → P u (entries_of u (entry_of book s x ∷ entries))
      go true e =
          let z : x.user ≡ u = eqb-true x.user u e in
          rw (own_entry (entry_of book s x) entries u z)
          (subst (λ (v : ℕ). P v (entry_of book s x ∷ entries_of v entries)) z own)
      go false e =
          let apart = eqb-false x.user u e in
          rw (other_entry (entry_of book s x) entries u apart) (others u (λ z. apart (sym z)))

  pub kept_next : Kept book (records_of book s x.user x.call) (entry_of book s x ∷ entries)
  unfolding entry_of account count flat
  kept_next =
      let mine = kept.users x.user in
      let a = account (entries_of x.user entries) in
      record {
        whole = whole_next book x.user s kept.whole x.call;
        places_kept =
            let now = places_next book x.user s kept.whole x.call in
            let before = kept.places_kept in
            omega (arith, now, before);
        users =
            by_user (λ u own. UserKept book u (records_of book s x.user x.call) (account own))
            (own_after book x.user s kept.whole a mine x.call)
            (λ u apart.
            other_after book x.user s kept.whole u (account (entries_of u entries)) apart (kept.users u) x.call);
        sums =
            by_user
            (λ u own.
            given (account own) + (account own).declines
            ≡ count (λ e. answered_ask e.made.call e.reply) own)
            (sum_next book x.user s a mine x.call ∙ rw (kept.sums x.user))
            (λ u apart. kept.sums u);
        numbers =
            by_user (λ u own. flat (λ e. number_in e.reply) own ≡ down_from (given (account own)))
            (rw (kept.numbers x.user) (numbers_next book x.user s a mine x.call)) (λ u apart. kept.numbers u);
      }

-- Fresh records, and every list

whole_fresh : Whole fresh
whole_fresh =
    record {
      ledger = length-replicate {A = ℕ} 1024 0;
      tally =
          record {
            admitted = length-replicate {A = ℕ} 32 0;
            declined = length-replicate {A = ℕ} 32 0;
            dropped = length-replicate {A = ℕ} 32 0;
          };
      holds =
          record {
            users = length-replicate {A = ℕ} 8 0;
            numbers = length-replicate {A = ℕ} 8 0;
            words = length-replicate {A = ℕ} 256 0;
          };
    }

nothing_kept : (book : List ℕ) → Kept book fresh []
unfolding entries_of keep count taken up_to from account flat down_from
nothing_kept book =
    record {
      whole = whole_fresh;
      places_kept = refl;
      users = λ u. kept_fresh book u;
      sums = λ u. refl;
      numbers = λ u. refl;
    }

pub kept : (book : List ℕ) (list : List Made) → Kept book (records_after book list) (log book list)
unfolding records_after log
kept book [] = nothing_kept book
kept book (x ∷ earlier) = kept_next book (records_after book earlier) (log book earlier) (kept book earlier) x

-- "For every list of these calls"

none_above : (m n : ℕ) → n < m → any (eqb m) (down_from n) ≡ false
unfolding any down_from
none_above m zero l = refl
none_above m (suc n) l = rw (ne_eqb m (suc n) (λ (e : m ≡ suc n). omega arith), none_above m n (omega arith))

down_once : (n : ℕ) → none_twice (down_from n) ≡ true
unfolding none_twice down_from
down_once zero = refl
down_once (suc n) = rw (none_above (suc n) n (omega arith)) (down_once n)

module _ (book : List ℕ) (s : Records) (entries : List Entry) (k : Kept book s entries) where
  module _ (user : ℕ) where
    none_broken : BookAccepted book → broken_mask book user (counted_for s.ledger s.holds user) ≡ 0
    none_broken accepted =
        mask_same book user (counted_for s.ledger s.holds user)
        (account_accesses (head_of book) (account (entries_of user entries)))
        (λ x known. counted_same book user s (account (entries_of user entries)) (k.users user) x)
        ∙ (k.users user).no_rule_law accepted

    reserved : Reserved book user s.ledger s.holds (account (entries_of user entries))
    unfolding holds_number
    reserved =
        let mine = k.users user in
        let held = counted_for s.ledger s.holds user in
        record {
          union = mine.union;
          breaks_none = λ accepted. broken_none book user held (none_broken accepted);
          satisfies =
              λ accepted.
              (query_demand book user held (counted_operations s.ledger s.holds user)).zero_satisfies
              (none_broken accepted);
          held_numbers = mine.holds.numbers;
          held_words = mine.holds.words;
          one_place = mine.holds.apart;
        }

    counted : Counted user s.tally s.holds (entries_of user entries)
    unfolding holds_number
    counted =
        let mine = k.users user in
        let a = account (entries_of user entries) in
        let given_now = given_same book user s a mine in
        let asked_now = asked_same book user s a mine in
        let numbers_now :
        flat (λ e. number_in e.reply) (entries_of user entries) ≡ down_from (given_to user s.tally s.holds) =
        rw given_now (k.numbers user) in
        record {
          admitted_count = mine.admits;
          declined_count = mine.declines;
          dropped_count = mine.drops;
          held_count_law = mine.holds.counted;
          sum = asked_now ∙ k.sums user;
          few = rw asked_now mine.few;
          numbers = numbers_now;
          once = rw numbers_now (down_once (given_to user s.tally s.holds));
          held_below =
              λ n h.
              let b = falling_number (given a) n a.holds mine.falling (sym (mine.holds.numbers n) ∙ h) in
              (b.0, omega (arith, given_now, b.1));
        }

  promised : Promise book s entries
  unfolding eight_held
  promised =
      let c = all_count (taken s.holds) 8 in
      let e = k.places_kept in
      record {
        whole = k.whole.ledger;
        whole_tally = k.whole.tally;
        whole_holds = k.whole.holds;
        each = reserved;
        counted = counted;
        at_most_eight = omega (arith, c.1, e);
        eight = c.0 ∙ eight_more (places s) _ _ e;
      }
    where
      eight_more : (now frees takes : ℕ) → now + frees ≡ takes → eqb now 8 ≡ eqb takes (frees + 8)
      eight_more now frees takes e =
          same_test (eqb now 8) (eqb takes (frees + 8))
          (λ t. eq-eqb takes (frees + 8) (omega (arith, e, eqb-true now 8 t)))
          (λ t. eq-eqb now 8 (omega (arith, e, eqb-true takes (frees + 8) t)))

pub promise : (book : List ℕ) → EveryList book
promise book list = promised book (records_after book list) (log book list) (kept book list)
