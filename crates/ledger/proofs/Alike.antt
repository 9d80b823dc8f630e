-- Every reply to a user follows from his earlier calls and replies, and from whether eight were held when he asked. So
-- two lists that are alike for him give him the same. Assumes nothing.
use Prim.Native.Nat.{ℕ, ◌+◌}
use native.Mathlib.Omega.{arith}
use mathlib.Core.Path.{◌≡◌, refl, sym, ap, ◌∙◌}
use mathlib.Core.Bool.{Bool, not, cond}
use mathlib.Core.List.{List, [], ◌∷◌, ◌++◌, map}
use Rattle.std.specs.Prelude.{Ok, Err}
use lib.Dec.{eqb, ltb}
use Rattle.book.specs.Lists.{any, keep}
use Rattle.book.specs.Blocks.{head_of}
use Rattle.book.specs.Tests.{answered}
use Rattle.book.specs.Refusals.{book_tests}
use Rattle.book.specs.declared.refusal.Refusal.TheVariants.{LedgerLength, CountsFull, PlacesFull, NotHeld}
use Rattle.verdicts.specs.Accesses.{accesses_of, union}
use Rattle.verdicts.specs.Breaking.{broken_mask}
use Rattle.verdicts.specs.Answers.{user_tests, judge_tests}
use Rattle.ledger.specs.Counts.{counts_of}
use Rattle.ledger.specs.Places.{holds_number, eight_held}
use Rattle.ledger.specs.Answers.{ledger_tests, count_tests, place_tests, number_tests, ask_tests, ask_answer}
use Rattle.ledger.specs.Answers.{settle_tests, settle_answer}
use Rattle.ledger.specs.Histories.{Call, Ask, Commit, Drop, Made, Records, reply_of, Entry, records_after}
use Rattle.ledger.specs.Histories.{entry_of, log, entries_of, numbered, Account, booked, account}
use Rattle.ledger.specs.Alike.{eight_at, compared, EqualHistories}
use Rattle.ledger.specs.Histories.{Reply, of_asking, of_settling}
use Rattle.ledger.specs.declared.Asked.TheVariants.{Held, Declined}
use Rattle.ledger.proofs.UserKept.{given, account_accesses, UserKept, Whole, given_same, asked_same}
use Rattle.ledger.proofs.UserKept.{mask_same_account}
use Rattle.ledger.proofs.Kept.{by_user, kept}

-- what committing or dropping replies to a user of this account
unfoldable account_settles : (book : List ℕ) (user number : ℕ) → Account → Reply
account_settles book user n a =
    of_settling
    (answered
    (book_tests book
    ++ user_tests (head_of book) user
    ++ ((LedgerLength, eqb 1024 1024) ∷ [])
    ++ ((NotHeld, any (numbered n) a.holds) ∷ []))
    Err (Ok n))

-- what a call replies to a user of this account
unfoldable account_reply : (book : List ℕ) (user : ℕ) → Call → (eight : Bool) → Account → Reply
account_reply book user (Ask plan) eight a =
    of_asking
    (answered
    (judge_tests book user plan
    ++ ((LedgerLength, eqb 1024 1024) ∷ [])
    ++ ((CountsFull, ltb (given a + a.declines) 1000000) ∷ [])
    ++ ((PlacesFull, not eight) ∷ []))
    Err
    (Ok
    (cond
    (eqb (broken_mask book user (union (account_accesses (head_of book) a) (accesses_of (head_of book) plan))) 0)
    (Held (given a + 1))
    (Declined (broken_mask book user (union (account_accesses (head_of book) a) (accesses_of (head_of book) plan)))))))
account_reply book user (Commit n) eight a = account_settles book user n a
account_reply book user (Drop n) eight a = account_settles book user n a

module _ (book : List ℕ) (user : ℕ) (s : Records) (whole : Whole s) (a : Account) (kept : UserKept book user s a) where
  settled_same :
      (n : ℕ)
      → of_settling (settle_answer book user n s.ledger s.holds)
      ≡ account_settles book user n a
  unfolding settle_answer settle_tests ledger_tests number_tests holds_number account_settles
  settled_same n = rw (whole.ledger, kept.holds.numbers n)

  reply_same :
      (c : Call) → reply_of book s user c ≡ account_reply book user c (eight_at c (eight_held s.holds)) a
  unfolding reply_of account_reply eight_at ask_answer ask_tests ledger_tests count_tests place_tests
  reply_same (Ask plan) =
      rw (
        whole.ledger,
        asked_same book user s a kept,
        given_same book user s a kept,
        mask_same_account book user s a kept plan,
      )
  reply_same (Commit n) = settled_same n
  reply_same (Drop n) = settled_same n

-- entries of a user, each with the reply of the account before it
unfoldable Following : (book : List ℕ) (user : ℕ) → List Entry → Type 0
Following book user [] = Unit {0}
Following book user (e ∷ entries) =
    (e.reply ≡ account_reply book user e.made.call (eight_at e.made.call e.eight) (account entries))
    × Following book user entries

following : (book : List ℕ) (user : ℕ) (list : List Made) → Following book user (entries_of user (log book list))
unfolding Following log entries_of keep entry_of
following book user [] = tt
following book user (x ∷ earlier) =
    let s = records_after book earlier in
    let k = kept book earlier in
    by_user book s (log book earlier) k x (Following book) (
      reply_same book x.user s k.whole (account (entries_of x.user (log book earlier))) (k.users x.user) x.call,
      following book x.user earlier,
    )
    (λ u apart. following book u earlier) user

module _ (x y : Entry) (same : compared x ≡ compared y) where
  same_call : x.made.call ≡ y.made.call
  unfolding compared
  same_call = ap (λ (c : Call × Bool). c.0) same

  same_eight : eight_at x.made.call x.eight ≡ eight_at y.made.call y.eight
  unfolding compared
  same_eight = ap (λ (c : Call × Bool). c.1) same

-- entries that follow are told by what is compared
followed_same :
    (book : List ℕ) (user : ℕ) (one two : List Entry)
    → Following book user one
    → Following book user two
    → map compared one ≡ map compared two
    → (map (λ e. e.reply) one ≡ map (λ e. e.reply) two) × (account one ≡ account two)
unfolding Following account
followed_same book user [] [] f g e = (refl, refl)
followed_same book user [] (y ∷ two) f g e = let z : ◌≡◌ {A = ℕ} 0 1 = cc in absurd (omega arith)
followed_same book user (x ∷ one) [] f g e = let z : ◌≡◌ {A = ℕ} 0 1 = cc in absurd (omega arith)
followed_same book user (x ∷ one) (y ∷ two) f g e =
    let head : compared x ≡ compared y = cc in
    let tail : map compared one ≡ map compared two = cc in
    let rest = followed_same book user one two f.1 g.1 tail in
    let calls : x.made.call ≡ y.made.call = same_call x y head in
    let eights : eight_at x.made.call x.eight ≡ eight_at y.made.call y.eight = same_eight x y head in
    let replies : x.reply ≡ y.reply = same_reply calls eights rest.1 f.0 g.0 in
    (same_list replies rest.0, same_account calls replies rest.1)
  where
    same_reply :
        x.made.call ≡ y.made.call
        → eight_at x.made.call x.eight ≡ eight_at y.made.call y.eight
        → account one ≡ account two
        → x.reply ≡ account_reply book user x.made.call (eight_at x.made.call x.eight) (account one)
        → y.reply ≡ account_reply book user y.made.call (eight_at y.made.call y.eight) (account two)
        → x.reply ≡ y.reply
    same_reply c b a f g = cc

    same_list :
        x.reply ≡ y.reply
        → map (λ e. e.reply) one ≡ map (λ e. e.reply) two
        → map (λ e. e.reply) (x ∷ one) ≡ map (λ e. e.reply) (y ∷ two)
    same_list r l = cc

    same_account :
        x.made.call ≡ y.made.call
        → x.reply ≡ y.reply
        → account one ≡ account two
        → booked x.made.call x.reply (account one) ≡ booked y.made.call y.reply (account two)
    same_account c r a = cc

-- Two lists

pub equal_histories : (book : List ℕ) (one : List Made) → EqualHistories book one
unfolding counts_of
equal_histories book one two user alike =
    let same =
    followed_same book user (entries_of user (log book one)) (entries_of user (log book two)) (following book user one)
    (following book user two) alike in
    let a : account (entries_of user (log book one)) ≡ account (entries_of user (log book two)) = same.1 in
    let x = (kept book one).users user in
    let y = (kept book two).users user in
    let s = (records_after book one).tally in
    let t = (records_after book two).tally in
    let admits : (counts_of s user).admitted ≡ (counts_of t user).admitted = x.admits ∙ rw a (sym y.admits) in
    let declines : (counts_of s user).declined ≡ (counts_of t user).declined = x.declines ∙ rw a (sym y.declines) in
    let drops : (counts_of s user).dropped ≡ (counts_of t user).dropped = x.drops ∙ rw a (sym y.drops) in
    record {
      replies = same.0;
      words = x.words ∙ rw a (sym y.words);
      counts = λ i. record { admitted = admits i; declined = declines i; dropped = drops i };
      held = x.holds.counted ∙ rw a (sym y.holds.counted);
    }
