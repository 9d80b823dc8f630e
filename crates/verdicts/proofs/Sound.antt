-- What an accepted book gives: rules that are sound, and the mask of the rules that are broken. Assumes nothing.
use Prim.Native.Nat.{ℕ, ◌+◌, ◌*◌, ◌-◌, ◌%◌, ◌^◌, ◌≤◌, ◌<◌}
use native.Mathlib.Omega.{arith}
use native.Mathlib.Nat.{lt_of_lt_of_le}
use mathlib.Core.Path.{◌≡◌, refl, sym, ap, ◌∙◌}
use mathlib.Core.Bool.{Bool, true, false, ◌&&◌, not, false≢true}
use mathlib.Core.List.{List}
use lib.ListN.{length, get_or, take, drop, length-take, length-drop, get_or-eq_default}
use lib.Seq.{get_or-take, get_or-drop}
use lib.Dec.{eqb, ltb}
use lib.Bits.{and_mask}
use lib.Pow.{pow_mono, pow_pos}
use borrow.Author.Tests.{ltb-true, ltb-false, lt-ltb, le-ltb}
use Rattle.book.specs.Lists.{up_to}
use Rattle.book.specs.Sets.{has}
use Rattle.book.specs.Blocks.{head_of, rule_at, rule_count}
use Rattle.book.specs.Head.{user_count}
use Rattle.book.specs.Rule.{reference_count, restriction_count, restriction_mask}
use Rattle.book.specs.Refusals.{BookAccepted, mask_allows}
use Rattle.book.proofs.Accepted.{HeadHolds, RuleHolds, accepted_head, accepted_length, accepted_rule}
use Rattle.book.proofs.Lists.{and_end, and_false}
use Rattle.book.proofs.Members.{has_zero, has_and, has_below, same_members}
use Rattle.lineage.specs.Accesses.{access_words, word_of}
use Rattle.lineage.proofs.Words.{word_of_law}
use Rattle.verdicts.specs.Accesses.{Accesses, accesses_of, held_by}
use Rattle.verdicts.specs.Inner.Words.{RuleSound}
use Rattle.verdicts.specs.Breaking.{breaks, broken_mask}
use Rattle.verdicts.proofs.Verdict.{mask_same, mask_small}
use Rattle.verdicts.proofs.Held.{held_plan}

-- A rule

module _
    (head rule : List ℕ)
    (h : HeadHolds head)
    (r : RuleHolds head rule)
    (bytes : (i : ℕ) → get_or rule i 0 < 256)
    (whole : length rule ≡ 512)
  where
    -- a mask for an absent reference names nothing
    absent_mask :
        (j i : ℕ) → j < restriction_count rule → reference_count rule ≤ i → i < 3 → restriction_mask rule j i ≡ 0
    unfolding mask_allows
    absent_mask j i l past few =
        same_members 16 (restriction_mask rule j i) 0 word (pow_pos 16) (λ k small. none k small ∙ sym (has_zero k))
      where
        word : restriction_mask rule j i < 2 ^ 16
        word =
            let a = bytes (64 + 6 * j + 2 * i) in
            let b = bytes (65 + 6 * j + 2 * i) in
            omega arith

        none : (k : ℕ) → k < 16 → has (restriction_mask rule j i) k ≡ false
        none k small = go (has (restriction_mask rule j i) k) refl
          where
            go : (b : Bool) → has (restriction_mask rule j i) k ≡ b → b ≡ false
            go true e =
                absurd
                (false≢true
                (sym (rw (le-ltb i (reference_count rule) past) (and_false (not (eqb k 0))))
                ∙ r.masks_allowed j i k l few small e))
            go false e = refl

    pub rule_sound : RuleSound head rule
    rule_sound =
        let few : user_count head ≤ 64 = omega (arith, h.users_most) in
        record {
          users = few;
          leaves = h.data_most;
          some = r.references_some;
          few = r.references_most;
          whole = whole;
          restrictions = r.restrictions_most;
          absent = absent_mask;
        }

-- every byte of a rule block, past its end too
rule_bytes :
    (book : List ℕ) → ((i : ℕ) → get_or book i 0 < 256) → (r j : ℕ) → get_or (rule_at book r) j 0 < 256
rule_bytes book bytes r j = go (ltb j 512) refl
  where
    go : (b : Bool) → ltb j 512 ≡ b → get_or (rule_at book r) j 0 < 256
    go true t =
        rw (get_or-take 512 (drop (512 * (4 + r)) book) j 0 (ltb-true j 512 t), get_or-drop (512 * (4 + r)) book j 0)
        (bytes (512 * (4 + r) + j))
    go false t =
        let block = take 512 (drop (512 * (4 + r)) book) in
        let past : length block ≤ j = rw length-take (omega (arith, ltb-false j 512 t)) in
        rw (get_or-eq_default block 0 past) (omega arith)

-- A book

module _ (book : List ℕ) (accepted : BookAccepted book) where
  pub few_rules_law : rule_count book ≤ 32
  few_rules_law =
      (accepted_length book accepted).1

  rule_whole : (r : ℕ) → r < rule_count book → length (rule_at book r) ≡ 512
  rule_whole r l =
      let size = (accepted_length book accepted).0 in
      rw (length-take, length-drop (512 * (4 + r)) book) (omega arith)

  pub sound_there :
      (r : ℕ)
      → r < rule_count book
      → ((i : ℕ) → get_or (rule_at book r) i 0 < 256)
      → RuleSound (head_of book) (rule_at book r)
  sound_there r l bytes =
      rule_sound (head_of book) (rule_at book r) (accepted_head book accepted) (accepted_rule book accepted r l) bytes
      (rule_whole r l)

  pub rules_sound :
      ((i : ℕ) → get_or book i 0 < 256) → (r : ℕ) → r < rule_count book → RuleSound (head_of book) (rule_at book r)
  rules_sound bytes r l = sound_there r l (rule_bytes book bytes r)

-- The mask

-- a word cut to 32 bits
cut_bit : (word r : ℕ) → has (word % 4294967296) r ≡ (has word r && ltb r 32)
cut_bit word r =
    ap (λ (w : ℕ). has w r) (sym (and_mask word 32))
    ∙ has_and word (2 ^ 32 - 1) r
    ∙ ap (λ (b : Bool). has word r && b) (has_below 32 r)

-- a mask of at most 32 rules has 32 bits
pub word_fits : (f : ℕ → Bool) (n : ℕ) → n ≤ 32 → word_of f (up_to n) < 4294967296
word_fits f n few = lt_of_lt_of_le (word_of_law f n).0 (pow_mono few)

-- a word with its members below 32, cut to 32 bits, is the mask
pub cut_word :
    (f : ℕ → Bool) (n word : ℕ)
    → n ≤ 32
    → ((q : ℕ) → q < 32 → has word q ≡ (ltb q n && f q))
    → word % 4294967296 ≡ word_of f (up_to n)
cut_word f n word few members =
    same_members 32 (word % 4294967296) (word_of f (up_to n)) (omega arith) (word_fits f n few)
    (λ q l. cut_bit word q ∙ rw (lt-ltb q 32 l, and_end, members q l) (sym ((word_of_law f n).1 q)))

module _ (book : List ℕ) (accepted : BookAccepted book) (user : ℕ) where
  -- it has 32 bits
  pub mask_fits : (accesses : Accesses) → broken_mask book user accesses < 4294967296
  mask_fits accesses = lt_of_lt_of_le (mask_small book user accesses) (pow_mono (few_rules_law book accepted))

  -- the code's word of the broken rules
  pub mask_whole :
      (accesses : Accesses) (total word : ℕ)
      → total ≡ rule_count book
      → ((r : ℕ) → r < total → has word r ≡ breaks (head_of book) (rule_at book r) user accesses)
      → ((r : ℕ) → total ≤ r → has word r ≡ false)
      → word % 4294967296 ≡ broken_mask book user accesses
  unfolding broken_mask
  mask_whole accesses total word t below above =
      cut_word broken (rule_count book) word (few_rules_law book accepted) (λ r l. rw (← t) (go r (ltb r total) refl))
    where
      broken : ℕ → Bool
      broken r = breaks (head_of book) (rule_at book r) user accesses

      go : (r : ℕ) (b : Bool) → ltb r total ≡ b → has word r ≡ (b && broken r)
      go r true h = below r (ltb-true r total h)
      go r false h = above r (ltb-false r total h)

  -- the words of a plan break what its accesses break
  pub mask_held :
      (plan : List ℕ)
      → broken_mask book user (held_by (access_words (head_of book) plan))
      ≡ broken_mask book user (accesses_of (head_of book) plan)
  mask_held plan =
      mask_same book user (held_by (access_words (head_of book) plan)) (accesses_of (head_of book) plan)
      (held_plan (head_of book) plan (accepted_head book accepted).data_most)
