-- Theorems about the definitions, by computation: some days of calls in the small shop, and records that no list
-- reaches. Assumes nothing.
use Prim.Native.Nat.{ℕ}
use mathlib.Core.Path.{◌≡◌, refl}
use mathlib.Core.List.{List, [], ◌∷◌, ◌++◌, map, reverse}
use lib.ListN.{replicate}
use Rattle.book.specs.Lists.{flat, all, any, up_to, from, keep}
use Rattle.book.specs.Sets.{has, less}
use Rattle.book.specs.Hierarchies.{upward_in, upward, under, leaf, covers, proper_descendant, support_along, support}
use Rattle.book.specs.Hierarchies.{parent_holds}
use Rattle.book.specs.Head.{category_start, withdrawn_operations, is_user, is_data_leaf, support_of, supports}
use Rattle.book.specs.Rule.{action_of, covers_user, in_leaf_set}
use Rattle.book.specs.Blocks.{weighted, check_sum, check_holds}
use Rattle.book.specs.Refusals.{between, zeros, length_holds, kind_holds, users_counted, data_counted, columns_counted}
use Rattle.book.specs.Refusals.{functions_counted, rule_counts, reference_end, rule_zeros, rule_counted, users_ordered}
use Rattle.book.specs.Refusals.{own_holds, data_ordered, label_holds, labels_hold, functions_hold, user_numbers_hold}
use Rattle.book.specs.Refusals.{names_action, reference_holds, numbers_hold, leaf_sets_apart, references_apart}
use Rattle.book.specs.Refusals.{mask_allows, mask_holds, masks_hold, length_tests, check_tests, kind_tests}
use Rattle.book.specs.Refusals.{users_block_tests, data_block_tests, columns_block_tests, functions_block_tests}
use Rattle.book.specs.Refusals.{rule_block_tests, block_tests, content_tests, block_by_block, book_tests, seal_tests}
use Rattle.book.specs.Tests.{first_failing, refused_or, answered}
use Rattle.book.specs.declared.refusal.Refusal.{Refusal}
use Rattle.book.specs.declared.refusal.Refusal.TheVariants.{NoUser, LedgerLength, CountsFull, PlacesFull, NotHeld}
use Rattle.book.specs.Answers.{with_check, seal_bytes}
use Rattle.book.specs.Numbers as numbers
use Rattle.book.specs.Shop.{padded, block, users, categories, columns, functions, rule, rule0, rule1, rule2, shop}
use Rattle.lineage.specs.Rows.{kind_of, kind_at, is_value, names, sound_as, row_holds}
use Rattle.lineage.specs.Paths.{applied_as, through, paths_by, paths_in, paths, labels, takes, counting}
use Rattle.lineage.specs.Paths.{first_operation, operation_of, carries}
use Rattle.lineage.specs.Accesses.{reaches, gives, is_access, word_of, access_words}
use Rattle.lineage.specs.Answers.{plan_length_holds, row_tests, plan_tests}
use Rattle.lineage.proofs.Vectors.{output, plan, state, price, avg}
use Rattle.verdicts.specs.Actions.{action_fits, channel_fits}
use Rattle.verdicts.specs.Accesses.{accesses_of, held_by, union, every_access, fits, fitting}
use Rattle.verdicts.specs.Breaking.{choices_from, operations, accepts, refuses_all, some_choice_refused, breaks}
use Rattle.verdicts.specs.Breaking.{broken_mask}
use Rattle.verdicts.specs.Answers.{user_tests, judge_tests}
use Rattle.ledger.specs.Ledger.{words_of, admitted_for, joined_for}
use Rattle.ledger.specs.Counts.{counts_of, raised, raised_for}
use Rattle.ledger.specs.Counting.{count, first_of}
use Rattle.ledger.specs.Places.{taken, held_at, number_at, held_count, holds_number, eight_held, empty_place, place_of}
use Rattle.ledger.specs.Places.{held_accesses, written_at, placed, freed}
use Rattle.ledger.specs.Answers.{ledger_tests, given_to, asked_by, count_tests, place_tests, number_tests, counted_for}
use Rattle.ledger.specs.Answers.{ask_tests, ask_accesses, ask_mask, ask_answer, ask_tally, ask_holds, settle_tests}
use Rattle.ledger.specs.Answers.{settle_answer, settle_holds, commit_ledger, commit_tally, drop_tally}
use Rattle.ledger.specs.Histories.{Call, Ask, Commit, Drop, Made, fresh, reply_of, records_of, records_after}
use Rattle.ledger.specs.Histories.{entry_of, log, Reply, Held, Declined, Settled, Refused, of_asking, of_settling}
use Rattle.ledger.specs.declared.Tally.{Tally}
use Rattle.ledger.specs.declared.Holds.{Holds}

-- a reply with the number and the place of its refusal; zeros where nothing refuses
unfoldable pub refusal_of : Reply → ℕ × ℕ
refusal_of (Held n) = (0, 0)
refusal_of (Declined mask) = (0, 0)
refusal_of (Settled n) = (0, 0)
refusal_of (Refused refusal) = (numbers.number_of refusal, numbers.place_of refusal)

abbrev numbered : Reply → Reply × (ℕ × ℕ)
numbered reply = (reply, refusal_of reply)

abbrev tells : Reply → Reply × (ℕ × ℕ)
tells reply = (reply, (0, 0))

abbrev refuses : Refusal → (number : ℕ) → Reply × (ℕ × ℕ)
refuses refusal number = (Refused refusal, (number, 0))

-- the user, his call, and the reply: day by day, from a fresh ledger, tally and hold record
unfoldable pub days : List (ℕ × Call × (Reply × (ℕ × ℕ)))
days =
    -- "State on Monday" is held, and "Price on Tuesday" is declined beside it: with State it breaks all three rules
    (1, Ask (plan (state ∷ output 0 ∷ [])), tells (Held 1))
    ∷ (1, Ask (plan (price ∷ output 0 ∷ [])), tells (Declined 7))
    -- another user's hold does not count: Price alone breaks rule 1
    ∷ (2, Ask (plan (price ∷ output 0 ∷ [])), tells (Declined 2))
    -- once State is dropped it does not count either
    ∷ (1, Drop 1, tells (Settled 1))
    ∷ (1, Ask (plan (price ∷ output 0 ∷ [])), tells (Declined 2))
    -- a dropped number is not given again, and another user does not hold it
    ∷ (1, Ask (plan (state ∷ output 0 ∷ [])), tells (Held 2))
    ∷ (2, Commit 2, refuses NotHeld 32)
    -- State is committed once; then it counts for good
    ∷ (1, Commit 2, tells (Settled 2))
    ∷ (1, Commit 2, refuses NotHeld 32)
    ∷ (1, Ask (plan (price ∷ output 0 ∷ [])), tells (Declined 7))
    -- an average may stand beside State; user 0 is no leaf; nobody holds 0
    ∷ (1, Ask (plan (price ∷ avg 0 ∷ output 1 ∷ [])), tells (Held 3))
    ∷ (0, Ask (plan (state ∷ output 0 ∷ [])), refuses NoUser 20)
    ∷ (1, Commit 0, refuses NotHeld 32)
    ∷ (2, Ask (plan (state ∷ output 0 ∷ [])), tells (Held 1))
    ∷ []

-- the same as calls, the latest first
unfoldable pub calls : List Made
calls = reverse (map (λ day. record { user = day.0; call = day.1 }) days)

-- eight holds of nobody; and user 1 with two places of number 7, State in the lower and an average of Price in the
-- other
unfoldable pub nobodys : Holds
nobodys = record { users = replicate 8 40; numbers = replicate 8 5; words = replicate 256 0 }

unfoldable pub twice : Holds
twice =
    record {
      users = replicate 8 1;
      numbers = 0 ∷ 0 ∷ 7 ∷ 0 ∷ 0 ∷ 7 ∷ 0 ∷ 0 ∷ [];
      words = replicate 64 0 ++ (4 ∷ replicate 95 0) ++ (0 ∷ 16 ∷ replicate 94 0);
    }

-- user 1 at his million, and with admitted and dropped at the top
unfoldable pub million : Tally
million =
    record {
      admitted = 0 ∷ 400000 ∷ replicate 30 0;
      declined = 0 ∷ 250000 ∷ replicate 30 0;
      dropped = 0 ∷ 350000 ∷ replicate 30 0;
    }

unfoldable pub top : Tally
top =
    record {
      admitted = 0 ∷ 4294967295 ∷ replicate 30 0;
      declined = replicate 32 0;
      dropped = 0 ∷ 4294967295 ∷ replicate 30 0;
    }

-- From fresh: the replies; the counts, admitted, declined and dropped, and the words of users 1 and 2, State (category
-- 2) as it is in the first; the places, users, numbers and words, Price (category 4) under avg in the second word of
-- the first. Other records: eight holds of nobody refuse every ask, but the user's million comes first; of two places
-- the lowest is meant, and a count at the top stays.
pub shop_days :
    ◌≡◌ {A = (List (Reply × (ℕ × ℕ)) × List ℕ × List ℕ) × List (Reply × (ℕ × ℕ)) × List ℕ × List ℕ} (
      (
        map (λ e. numbered e.reply) (log shop calls),
        (records_after shop calls).tally.admitted
            ++ (records_after shop calls).tally.declined
            ++ (records_after shop calls).tally.dropped
            ++ words_of (records_after shop calls).ledger 1
            ++ words_of (records_after shop calls).ledger 2,
        (records_after shop calls).holds.users
            ++ (records_after shop calls).holds.numbers
            ++ (records_after shop calls).holds.words,
      ),
      numbered (of_asking (ask_answer shop 1 (plan (price ∷ output 0 ∷ [])) fresh.ledger fresh.tally nobodys))
          ∷ numbered (of_asking (ask_answer shop 1 (plan (state ∷ output 0 ∷ [])) fresh.ledger million nobodys))
          ∷ numbered (of_asking (ask_answer shop 2 (plan (state ∷ output 0 ∷ [])) fresh.ledger million fresh.holds))
          ∷ numbered (of_settling (settle_answer shop 1 7 fresh.ledger twice))
          ∷ numbered (of_settling (settle_answer shop 1 7 (replicate 1023 0) twice))
          ∷ [],
      words_of (commit_ledger shop 1 7 fresh.ledger twice) 1
          ++ (commit_tally shop 1 7 fresh.ledger twice top).admitted
          ++ (drop_tally shop 1 7 fresh.ledger twice top).dropped,
      (settle_holds shop 1 7 fresh.ledger twice).users
          ++ (settle_holds shop 1 7 fresh.ledger twice).numbers
          ++ (settle_holds shop 1 7 fresh.ledger twice).words,
    ) (
      (
        reverse (map (λ day. day.2) days),
        (0 ∷ 1 ∷ replicate 30 0)
            ++ (0 ∷ 3 ∷ 1 ∷ replicate 29 0)
            ++ (0 ∷ 1 ∷ replicate 30 0)
            ++ (4 ∷ replicate 31 0)
            ++ replicate 32 0,
        (1 ∷ 2 ∷ replicate 6 0)
            ++ (3 ∷ 1 ∷ replicate 6 0)
            ++ (0 ∷ 16 ∷ replicate 30 0)
            ++ (4 ∷ replicate 31 0)
            ++ replicate 192 0,
      ),
      refuses PlacesFull 31 ∷ refuses CountsFull 28 ∷ tells (Held 1) ∷ tells (Settled 7) ∷ refuses LedgerLength 27 ∷ [],
      (4 ∷ replicate 31 0) ++ (0 ∷ 4294967295 ∷ replicate 30 0) ++ (0 ∷ 4294967295 ∷ replicate 30 0),
      (1 ∷ 1 ∷ 0 ∷ replicate 5 1)
          ++ (0 ∷ 0 ∷ 0 ∷ 0 ∷ 0 ∷ 7 ∷ 0 ∷ 0 ∷ [])
          ++ replicate 160 0
          ++ (0 ∷ 16 ∷ replicate 94 0),
    )
unfolding refusal_of numbers.number_of numbers.place_of days calls nobodys twice million top plan all any up_to from has upward_in upward under leaf covers proper_descendant
    support_along support less category_start withdrawn_operations parent_holds is_user is_data_leaf support_of supports
    covers_user in_leaf_set weighted check_sum check_holds between zeros length_holds kind_holds users_counted data_counted
    columns_counted functions_counted rule_counts reference_end rule_zeros rule_counted users_ordered own_holds data_ordered
    label_holds labels_hold functions_hold user_numbers_hold names_action reference_holds numbers_hold leaf_sets_apart
    references_apart mask_allows mask_holds masks_hold users_block_tests data_block_tests columns_block_tests
    functions_block_tests rule_block_tests block_tests check_tests kind_tests content_tests length_tests block_by_block book_tests
    seal_tests first_failing refused_or answered with_check seal_bytes padded block users categories columns functions rule
    rule0 rule1 rule2 shop kind_of kind_at is_value names sound_as row_holds plan_length_holds row_tests plan_tests applied_as
    through paths_by paths_in paths labels takes counting first_operation operation_of carries reaches gives is_access
    word_of accesses_of flat keep every_access action_of action_fits channel_fits fits fitting choices_from operations
    accepts refuses_all some_choice_refused breaks broken_mask user_tests judge_tests access_words held_by union words_of
    admitted_for joined_for counts_of raised raised_for count first_of taken held_at number_at held_count holds_number eight_held
    empty_place place_of held_accesses written_at placed freed ledger_tests given_to asked_by count_tests place_tests number_tests
    counted_for ask_tests ask_accesses ask_mask ask_answer ask_tally ask_holds settle_tests settle_answer settle_holds commit_ledger
    commit_tally drop_tally of_asking of_settling reply_of records_of records_after entry_of log
shop_days = refl
