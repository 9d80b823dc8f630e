-- A call by its outcomes: refused, declined, held, committed or dropped, each with the records that it leaves. Assumes
-- nothing.
use Prim.Native.Nat.{ℕ, ◌+◌}
use mathlib.Core.Path.{◌≡◌}
use mathlib.Core.Bool.{cond}
use mathlib.Core.List.{List}
use Rattle.std.specs.Prelude.{Ok, Err}
use Rattle.book.specs.Blocks.{head_of}
use Rattle.book.specs.Tests.{answered, refused_or}
use Rattle.book.specs.declared.refusal.Refusal.{Refusal}
use Rattle.lineage.specs.Accesses.{access_words}
use Rattle.ledger.specs.Ledger.{words_of, joined_for}
use Rattle.ledger.specs.Counts.{raised_for}
use Rattle.ledger.specs.Places.{empty_place, place_of, placed, freed}
use Rattle.ledger.specs.Answers.{given_to, ask_mask, ask_answer, ask_tally, ask_holds}
use Rattle.ledger.specs.Answers.{settle_answer, settle_holds, commit_ledger, commit_tally, drop_tally}
use Rattle.ledger.specs.Histories.{Call, Ask, Commit, Drop, Records, reply_of, records_of}
use Rattle.ledger.specs.Histories.{Reply, Held, Declined, Settled, Refused, of_asking, of_settling}
use Rattle.ledger.specs.Demand.{AskAccepted, SettleAccepted}
use Rattle.ledger.specs.declared.Asked.TheVariants as asked
use Rattle.ledger.proofs.CallLaws.{ask_cases, settle_cases}

-- what an ask that is declined or held leaves, and a hold that is committed or dropped

abbrev pub declining : (user : ℕ) → Records → Records
declining user s =
    record {
      ledger = s.ledger;
      tally =
          record {
            admitted = s.tally.admitted;
            declined = raised_for s.tally.declined user;
            dropped = s.tally.dropped;
          };
      holds = s.holds;
    }

abbrev pub holding : (user : ℕ) (words : List ℕ) → Records → Records
holding user words s =
    record {
      ledger = s.ledger;
      tally = s.tally;
      holds = placed s.holds (empty_place s.holds) user (given_to user s.tally s.holds + 1) words;
    }

abbrev pub committing : (user number : ℕ) → Records → Records
committing user number s =
    record {
      ledger = joined_for s.ledger user (words_of s.holds.words (place_of s.holds user number));
      tally =
          record {
            admitted = raised_for s.tally.admitted user;
            declined = s.tally.declined;
            dropped = s.tally.dropped;
          };
      holds = freed s.holds (place_of s.holds user number);
    }

abbrev pub dropping : (user number : ℕ) → Records → Records
dropping user number s =
    record {
      ledger = s.ledger;
      tally =
          record {
            admitted = s.tally.admitted;
            declined = s.tally.declined;
            dropped = raised_for s.tally.dropped user;
          };
      holds = freed s.holds (place_of s.holds user number);
    }

module _
    (book : List ℕ)
    (user : ℕ)
    (s : Records)
    (P : Call → Reply → Records → Type 0)
    (refused : (c : Call) (r : Refusal) → P c (Refused r) s)
    (declined :
    (plan : List ℕ)
    → AskAccepted book user plan s.ledger s.tally s.holds
    → P (Ask plan) (Declined (ask_mask book user plan s.ledger s.tally s.holds)) (declining user s))
    (held :
    (plan : List ℕ)
    → AskAccepted book user plan s.ledger s.tally s.holds
    → ask_mask book user plan s.ledger s.tally s.holds ≡ 0
    → P (Ask plan) (Held (given_to user s.tally s.holds + 1)) (holding user (access_words (head_of book) plan) s))
    (committed :
    (n : ℕ)
    → SettleAccepted book user n s.ledger s.holds
    → P (Commit n) (Settled n) (committing user n s))
    (dropped :
    (n : ℕ) → SettleAccepted book user n s.ledger s.holds → P (Drop n) (Settled n) (dropping user n s))
  where
    -- what holds of each outcome that may come holds of the one that does
    pub every_outcome : (c : Call) → P c (reply_of book s user c) (records_of book s user c)
    unfolding reply_of records_of ask_answer ask_tally ask_holds settle_answer settle_holds commit_ledger commit_tally drop_tally
        answered refused_or of_asking of_settling
    every_outcome (Ask plan) =
        ask_cases book user plan s.ledger s.tally s.holds
        (λ t b.
        P (Ask plan)
        (of_asking
        (refused_or t Err
        (Ok (cond b (asked.Held (given_to user s.tally s.holds + 1))
        (asked.Declined (ask_mask book user plan s.ledger s.tally s.holds))))))
        (record {
          ledger = s.ledger;
          tally = refused_or t (λ r. s.tally) (cond b s.tally (declining user s).tally);
          holds =
              refused_or t (λ r. s.holds)
              (cond b (holding user (access_words (head_of book) plan) s).holds s.holds);
        }))
        (λ r b e. refused (Ask plan) r) (held plan) (λ given some. declined plan given)
    every_outcome (Commit n) =
        settle_cases book user n s.ledger s.holds
        (λ t.
        P (Commit n) (of_settling (refused_or t Err (Ok n)))
        (record {
          ledger = refused_or t (λ r. s.ledger) (committing user n s).ledger;
          tally = refused_or t (λ r. s.tally) (committing user n s).tally;
          holds = refused_or t (λ r. s.holds) (committing user n s).holds;
        }))
        (λ r e. refused (Commit n) r) (committed n)
    every_outcome (Drop n) =
        settle_cases book user n s.ledger s.holds
        (λ t.
        P (Drop n) (of_settling (refused_or t Err (Ok n)))
        (record {
          ledger = s.ledger;
          tally = refused_or t (λ r. s.tally) (dropping user n s).tally;
          holds = refused_or t (λ r. s.holds) (dropping user n s).holds;
        }))
        (λ r e. refused (Drop n) r) (dropped n)
