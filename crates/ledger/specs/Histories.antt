-- Lists of the three calls from a fresh ledger, tally and hold record with one book, the replies to them, and what the
-- replies say of a user. Document 02, N3, N8 and N10. Assumes nothing.
use Rattle.std.specs.Prelude.{ℕ, zero, suc, ◌+◌, Bool, true, false, ◌&&◌, not, cond, List, [], ◌∷◌, replicate, eqb, Result, Ok, Err}
use Rattle.book.specs.Lists.{any, keep}
use Rattle.book.specs.Blocks.{Book}
use Rattle.book.specs.declared.refusal.Refusal.{Refusal}
use Rattle.lineage.specs.Rows.{Plan}
use Rattle.ledger.specs.Ledger.{Ledger}
use Rattle.ledger.specs.Places.{eight_held}
use Rattle.ledger.specs.Answers.{ask_answer, ask_tally, ask_holds}
use Rattle.ledger.specs.Answers.{settle_answer, settle_holds, commit_ledger, commit_tally, drop_tally}
use Rattle.ledger.specs.declared.Tally.{Tally}
use Rattle.ledger.specs.declared.Holds.{Holds}
use Rattle.ledger.specs.declared.Asked.{Asked}
use Rattle.ledger.specs.declared.Asked.TheVariants as asked

-- "three calls": asking for a plan, committing or dropping a number
pub data Call : Type 0 where
  Ask : Plan → Call
  Commit : ℕ → Call
  Drop : ℕ → Call

-- a call, and the user it is made for
pub record Made : Type 0 where
  pub user : ℕ
  pub call : Call

-- what is kept between calls
pub record Records : Type 0 where
  pub ledger : Ledger
  pub tally : Tally
  pub holds : Holds

-- "Fresh means all zero"; the hold record "fresh, it is empty"
abbrev pub fresh : Records
fresh =
    record {
      ledger = replicate 1024 0;
      tally = record { admitted = replicate 32 0; declined = replicate 32 0; dropped = replicate 32 0 };
      holds = record { users = replicate 8 0; numbers = replicate 8 0; words = replicate 256 0 };
    }

-- what the calls reply: an ask that is held its number, one that is declined the mask, committing and dropping the
-- number given
pub data Reply : Type 0 where
  Held : ℕ → Reply
  Declined : ℕ → Reply
  Settled : ℕ → Reply
  Refused : Refusal → Reply

unfoldable pub of_asking : Result Asked Refusal → Reply
of_asking (Ok (asked.Held n)) = Held n
of_asking (Ok (asked.Declined mask)) = Declined mask
of_asking (Err r) = Refused r

unfoldable pub of_settling : Result ℕ Refusal → Reply
of_settling (Ok n) = Settled n
of_settling (Err r) = Refused r

-- One call

unfoldable pub reply_of : Book → Records → (user : ℕ) → Call → Reply
reply_of book s user (Ask plan) = of_asking (ask_answer book user plan s.ledger s.tally s.holds)
reply_of book s user (Commit number) = of_settling (settle_answer book user number s.ledger s.holds)
reply_of book s user (Drop number) = of_settling (settle_answer book user number s.ledger s.holds)

unfoldable pub records_of : Book → Records → (user : ℕ) → Call → Records
records_of book s user (Ask plan) =
    record {
      ledger = s.ledger;
      tally = ask_tally book user plan s.ledger s.tally s.holds;
      holds = ask_holds book user plan s.ledger s.tally s.holds;
    }
records_of book s user (Commit number) =
    record {
      ledger = commit_ledger book user number s.ledger s.holds;
      tally = commit_tally book user number s.ledger s.holds s.tally;
      holds = settle_holds book user number s.ledger s.holds;
    }
records_of book s user (Drop number) =
    record {
      ledger = s.ledger;
      tally = drop_tally book user number s.ledger s.holds s.tally;
      holds = settle_holds book user number s.ledger s.holds;
    }

-- A list of calls, the latest first: the records that it leaves, and each of them with its reply

-- a call that was made, "whether eight were held" then, and its reply
pub record Entry : Type 0 where
  pub made : Made
  pub eight : Bool
  pub reply : Reply

unfoldable pub records_after : Book → List Made → Records
records_after book [] = fresh
records_after book (x ∷ earlier) = records_of book (records_after book earlier) x.user x.call

unfoldable pub entry_of : Book → Records → Made → Entry
entry_of book s x = record { made = x; eight = eight_held s.holds; reply = reply_of book s x.user x.call }

unfoldable pub log : Book → List Made → List Entry
log book [] = []
log book (x ∷ earlier) = entry_of book (records_after book earlier) x ∷ log book earlier

-- What the replies say

-- a user's own entries
unfoldable pub entries_of : (user : ℕ) → List Entry → List Entry
entries_of user entries = keep (λ e. eqb e.made.user user) entries

-- a held plan, and the number that it was given
pub record Hold : Type 0 where
  pub number : ℕ
  pub plan : Plan

abbrev pub numbered : (number : ℕ) → Hold → Bool
numbered n hold = eqb hold.number n

-- the plan of a number, and what is held beside it
unfoldable pub plan_of : (number : ℕ) → List Hold → Plan
plan_of n [] = []
plan_of n (h ∷ hs) = cond (numbered n h) h.plan (plan_of n hs)

unfoldable pub besides : (number : ℕ) → List Hold → List Hold
besides n [] = []
besides n (h ∷ hs) = cond (numbered n h) hs (h ∷ besides n hs)

-- a user's committed plans, his held ones, and how many were dropped and declined
pub record Account : Type 0 where
  pub committed : List Plan
  pub holds : List Hold
  pub drops : ℕ
  pub declines : ℕ

-- after one entry of his more: an ask that was held, one that was declined, a hold committed, a hold dropped; a call
-- that was refused changes nothing, and the other pairs of call and reply do not occur
unfoldable pub booked : Call → Reply → Account → Account
booked (Ask plan) (Held n) a =
    record {
      committed = a.committed;
      holds = record { number = n; plan = plan } ∷ a.holds;
      drops = a.drops;
      declines = a.declines;
    }
booked (Ask plan) (Declined mask) a =
    record { committed = a.committed; holds = a.holds; drops = a.drops; declines = a.declines + 1 }
booked (Ask plan) (Settled m) a = a
booked (Ask plan) (Refused r) a = a
booked (Commit n) (Held m) a = a
booked (Commit n) (Declined mask) a = a
booked (Commit n) (Settled m) a =
    record {
      committed = plan_of m a.holds ∷ a.committed;
      holds = besides m a.holds;
      drops = a.drops;
      declines = a.declines;
    }
booked (Commit n) (Refused r) a = a
booked (Drop n) (Held m) a = a
booked (Drop n) (Declined mask) a = a
booked (Drop n) (Settled m) a =
    record { committed = a.committed; holds = besides m a.holds; drops = a.drops + 1; declines = a.declines }
booked (Drop n) (Refused r) a = a

-- by his entries, the latest first
unfoldable pub account : List Entry → Account
account [] = record { committed = []; holds = []; drops = 0; declines = 0 }
account (e ∷ entries) = booked e.made.call e.reply (account entries)

-- "his asks that were not refused"
unfoldable pub not_refused : Reply → Bool
not_refused (Held n) = true
not_refused (Declined mask) = true
not_refused (Settled n) = true
not_refused (Refused r) = false

unfoldable pub answered_ask : Call → Reply → Bool
answered_ask (Ask plan) reply = not_refused reply
answered_ask (Commit n) reply = false
answered_ask (Drop n) reply = false

-- the number that a reply gives to a new hold
unfoldable pub number_in : Reply → List ℕ
number_in (Held n) = n ∷ []
number_in (Declined mask) = []
number_in (Settled n) = []
number_in (Refused r) = []

-- replies that take a place, and those that free one
unfoldable pub takes_place : Reply → Bool
takes_place (Held n) = true
takes_place (Declined mask) = false
takes_place (Settled n) = false
takes_place (Refused r) = false

unfoldable pub frees_place : Reply → Bool
frees_place (Held n) = false
frees_place (Declined mask) = false
frees_place (Settled n) = true
frees_place (Refused r) = false

-- n, n - 1, .. down to 1
unfoldable pub down_from : ℕ → List ℕ
down_from zero = []
down_from (suc n) = suc n ∷ down_from n

-- no number stands twice
unfoldable pub none_twice : List ℕ → Bool
none_twice [] = true
none_twice (n ∷ ns) = not (any (eqb n) ns) && none_twice ns
