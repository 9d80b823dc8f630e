-- What the words of a rule say, and the tables of them. Assumes nothing.
use Prim.Native.Nat.{ℕ, zero, suc, ◌+◌, ◌-◌, ◌*◌, ◌/◌, ◌%◌, ◌^◌, ◌≤◌, ◌<◌}
use native.Mathlib.Nat.{eq-or-lt_of_le}
use native.Mathlib.Omega.{arith}
use mathlib.Core.Path.{◌≡◌, refl, sym, ap, ◌∙◌}
use mathlib.Core.Logic.{⊎_elim}
use mathlib.Core.Bool.{Bool, true, false, ◌&&◌, cond}
use mathlib.Core.List.{List, []}
use lib.ListN.{length, get_or, set, length-set, replicate, get_or-replicate}
use lib.Seq.{get_or-set_same, get_or-set_other}
use lib.Dec.{eqb, ltb}
use borrow.Author.Tests.{eqb-true, eqb-false, lt-ltb, le-ltb, ltb-true, ltb-false}
use Rattle.book.specs.Sets.{has, WordOf}
use Rattle.book.specs.Blocks.{head_of, rule_at}
use Rattle.book.specs.Rule.{action, reference_count, restriction_count, restriction_mask, covers_user, in_leaf_set}
use Rattle.book.specs.declared.Action.{Action}
use Rattle.std.specs.Prelude.{Option, Some, None}
use Rattle.book.proofs.Lists.{and_end}
use Rattle.book.proofs.Members.{has_cond, has_below, has_low, has_zero}
use Rattle.verdicts.specs.Actions.{channel_fits}
use Rattle.verdicts.specs.Accesses.{fits}
use Rattle.verdicts.specs.Inner.Words.{mask_takes}
use Rattle.verdicts.proofs.Marks.{has_if}
use Rattle.search.specs.Inner.Places.{access_at, nowhere}
use Rattle.search.specs.Inner.Table.{meets, takes_at, meets_reference, takes_operation, TableHolds}
use Rattle.search.specs.Inner.Table.{in_channels, ChannelWord, ChannelWords, ReferenceWords}
use Rattle.search.specs.Inner.Table.{no_table, CoveredWord, CoversHold, ReferenceHolds, RuleHolds}
use Rattle.search.specs.declared.tables.RuleTable.{RuleTable}
use Rattle.search.proofs.PlaceLaws.{has_shift}
use Rattle.search.proofs.Fours.{four_masks, four_tests}

-- Words

-- all operations of a leaf, or none
pub leaf_mask : (t : Bool) (word k : ℕ) → word ≡ cond t 65535 0 → k < 16 → has word k ≡ t
leaf_mask t word k e l =
    rw e (has_cond t 65535 k ∙ ap (λ (b : Bool). t && b) (has_below 16 k ∙ lt-ltb k 16 l) ∙ and_end t)

-- bit 0 of a number, sixteen times
spread_bit : (x k : ℕ) → k < 16 → has (65535 * (x % 2)) k ≡ has x 0
spread_bit x k l = leaf_mask (eqb (x % 2) 1) (65535 * (x % 2)) k (go (eqb (x % 2) 1) refl) l ∙ sym (has_low x)
  where
    go : (b : Bool) → eqb (x % 2) 1 ≡ b → 65535 * (x % 2) ≡ cond b 65535 0
    go true e =
        let one = eqb-true (x % 2) 1 e in
        omega arith
    go false e =
        let none = eqb-false (x % 2) 1 e in
        omega arith

-- the word that the code makes: four bits, each sixteen times
pub spread_leaves :
    (leaves i : ℕ)
    → i < 64
    → has
    (65535
    * (leaves % 2 + 65536 * (leaves / 2 % 2) + 4294967296 * (leaves / 4 % 2) + 281474976710656 * (leaves / 8 % 2)))
    i
    ≡ has leaves (i / 16)
spread_leaves leaves i l =
    let z : 0 + i / 16 ≡ i / 16 = omega arith in
    rw z at
    (four_tests (λ j k. has leaves j) 0 (65535 * (leaves % 2)) (65535 * (leaves / 2 % 2)) (65535 * (leaves / 4 % 2))
    (65535 * (leaves / 8 % 2))
    (65535
    * (leaves % 2 + 65536 * (leaves / 2 % 2) + 4294967296 * (leaves / 4 % 2) + 281474976710656 * (leaves / 8 % 2)))
    (spread_bit leaves) (λ k s. spread_bit (leaves / 2) k s ∙ has_shift leaves 1 0)
    (λ k s. spread_bit (leaves / 4) k s ∙ has_shift leaves 2 0)
    (λ k s. spread_bit (leaves / 8) k s ∙ has_shift leaves 3 0) i l
    (ap (λ (w : ℕ). has w i)
    (same (leaves % 2) (leaves / 2 % 2) (leaves / 4 % 2) (leaves / 8 % 2) (omega arith) (omega arith) (omega arith)
    (omega arith))
    ∙ four_masks (65535 * (leaves % 2)) (65535 * (leaves / 2 % 2)) (65535 * (leaves / 4 % 2)) (65535 * (leaves / 8 % 2)) i l))
  where
    same :
        (a b c d : ℕ)
        → a < 2
        → b < 2
        → c < 2
        → d < 2
        → 65535 * (a + 65536 * b + 4294967296 * c + 281474976710656 * d)
        ≡ 65535 * a % 65536
        + 65536 * (65535 * b % 65536)
        + 4294967296 * (65535 * c % 65536)
        + 281474976710656 * (65535 * d % 65536)
    same a b c d la lb lc ld = omega arith

-- every place meets an absent reference
pub all_ones : (i : ℕ) → i < 64 → has 18446744073709551615 i ≡ true
all_ones i l = has_below 64 i ∙ lt-ltb i 64 l

-- the channels whose accesses fit an action
channels : (named : Option Action) (s : ℕ) → in_channels (channel_fits 0 named) (channel_fits 1 named) s ≡ channel_fits s named
unfolding in_channels channel_fits
channels None zero = refl
channels (Some action) zero = refl
channels None (suc zero) = refl
channels (Some action) (suc zero) = refl
channels (Some action) (suc (suc s)) = refl
channels None (suc (suc s)) = refl

-- there are two
no_channel : (named : Option Action) → channel_fits 2 named ≡ false
unfolding channel_fits
no_channel (Some action) = refl
no_channel None = refl

-- the words of both channels, as far as w, and the last one
pub record Channels (leaves : ℕ) (projected tested : Bool) (words : List ℕ) (w : ℕ) : Type 0 where
  pub short : w ≤ 16
  pub size : length words ≡ 33
  pub first : (k : ℕ) → k < w → ChannelWord leaves projected tested k (get_or words k 0)
  pub second : (k : ℕ) → k < w → ChannelWord leaves projected tested (16 + k) (get_or words (16 + k) 0)
  pub last : get_or words 32 0 ≡ 0

module _ (leaves : ℕ) (projected tested : Bool) where
  pub channels_none :
      (words : List ℕ) → length words ≡ 33 → get_or words 32 0 ≡ 0 → Channels leaves projected tested words 0
  channels_none words size last =
      record {
        short = omega arith;
        size = size;
        first = λ k l. absurd (omega arith);
        second = λ k l. absurd (omega arith);
        last = last;
      }

  -- a word of one channel
  channel_word :
      (c w k word new : ℕ) (fits : Bool)
      → w < 16
      → k ≡ 16 * c + w
      → fits ≡ in_channels projected tested c
      → ((i : ℕ) → i < 64 → has word i ≡ has (leaves / 2 ^ (4 * w)) (i / 16))
      → new ≡ cond fits word 0
      → ChannelWord leaves projected tested k new
  channel_word c w k word new fits l at e told made i s =
      let d : k / 16 ≡ c = omega arith in
      let f : k % 16 * 4 ≡ 4 * w = omega arith in
      has_if fits word new i made ∙ rw (told i s, has_shift leaves (4 * w) (i / 16), d, f, e)

  pub channels_more :
      (words : List ℕ) (w word one two : ℕ)
      → w < 16
      → ((i : ℕ) → i < 64 → has word i ≡ has (leaves / 2 ^ (4 * w)) (i / 16))
      → one ≡ cond projected word 0
      → two ≡ cond tested word 0
      → Channels leaves projected tested words w
      → Channels leaves projected tested (set (set words w one) (16 + w) two) (w + 1)
  unfolding in_channels
  channels_more words w word one two l told e1 e2 old =
      record {
        short = omega arith;
        size = length-set (set words w one) (16 + w) two ∙ length-set words w one ∙ old.size;
        first = λ k m.
            ⊎_elim
            (λ (q : k ≡ w).
            rw (
              get_or-set_other (set words w one) (16 + w) k two 0 (λ z. omega arith),
              q,
              get_or-set_same words w one 0 (omega (arith, old.size)),
            )
            (channel_word 0 w w word one projected l (omega arith) refl told e1))
            (λ (q : k < w).
            rw (
              get_or-set_other (set words w one) (16 + w) k two 0 (λ z. omega arith),
              get_or-set_other words w k one 0 (λ z. omega arith),
            )
            (old.first k q))
            (eq-or-lt_of_le (below k m));
        second = λ k m.
            ⊎_elim
            (λ (q : k ≡ w).
            rw (q, get_or-set_same (set words w one) (16 + w) two 0 (omega (arith, length-set words w one, old.size)))
            (channel_word 1 w (16 + w) word two tested l (omega arith) refl told e2))
            (λ (q : k < w).
            rw (
              get_or-set_other (set words w one) (16 + w) (16 + k) two 0 (λ z. omega arith),
              get_or-set_other words w (16 + k) one 0 (λ z. omega arith),
            )
            (old.second k q))
            (eq-or-lt_of_le (below k m));
        last =
            get_or-set_other (set words w one) (16 + w) 32 two 0 (λ z. omega arith)
            ∙ get_or-set_other words w 32 one 0 (λ z. omega arith)
            ∙ old.last;
      }
    where
      below : (k : ℕ) → k < w + 1 → k ≤ w
      below k m = omega arith

  pub channels_end :
      (words : List ℕ) (w : ℕ)
      → 16 ≤ w
      → Channels leaves projected tested words w
      → ChannelWords leaves projected tested words
  unfolding in_channels
  channels_end words w past old k l = go (ltb k 16) refl (ltb k 32) refl
    where
      go : (b : Bool) → ltb k 16 ≡ b → (c : Bool) → ltb k 32 ≡ c → ChannelWord leaves projected tested k (get_or words k 0)
      go true e c f =
          let low = ltb-true k 16 e in
          old.first k (omega arith)
      go false e true f =
          let low = ltb-false k 16 e in
          let high = ltb-true k 32 f in
          let z : 16 + (k - 16) ≡ k = omega arith in
          rw z at (old.second (k - 16) (omega arith))
      go false e false f =
          let high = ltb-false k 32 f in
          let z : k ≡ 32 = omega arith in
          λ i s. rw (z, old.last, has_zero i)

module _ (rule : List ℕ) (leaves i p : ℕ) where
  pub meets_absent : reference_count rule ≤ i → has 18446744073709551615 (p % 64) ≡ meets_reference rule leaves i p
  unfolding meets_reference
  meets_absent h = rw (le-ltb i (reference_count rule) h) (all_ones (p % 64) (omega arith))

  -- the place of an absent reference meets none that is there
  pub meets_word :
      (word w : ℕ) (named : Option Action) (projected tested : Bool)
      → i < reference_count rule
      → named ≡ action rule i
      → projected ≡ channel_fits 0 named
      → tested ≡ channel_fits 1 named
      → p ≤ nowhere
      → p / 64 ≡ w
      → ChannelWord leaves projected tested w word
      → has word (p % 64) ≡ meets_reference rule leaves i p
  unfolding meets_reference
  meets_word word w named projected tested h e ep et l at said =
      said (p % 64) (omega arith) ∙ rw (ep, et, channels named (w / 16), e) (go (ltb p nowhere) refl)
    where
      go :
          (b : Bool)
          → ltb p nowhere ≡ b
          → (channel_fits (w / 16) (action rule i) && has leaves (w % 16 * 4 + p % 64 / 16))
          ≡ cond (ltb i (reference_count rule))
          (ltb p nowhere && (channel_fits (p / 1024) (action rule i) && has leaves (p / 16 % 64))) true
      go true m =
          let d : w % 16 * 4 + p % 64 / 16 ≡ p / 16 % 64 = omega arith in
          let s : w / 16 ≡ p / 1024 = omega arith in
          rw (lt-ltb i (reference_count rule) h, m, d, s)
      go false m =
          let past = ltb-false p nowhere m in
          let s : w / 16 ≡ 2 = omega arith in
          rw (lt-ltb i (reference_count rule) h, m, s, no_channel (action rule i))

module _ (rule : List ℕ) (i j p : ℕ) where
  pub takes_absent : restriction_count rule ≤ j → has 0 (p % 64) ≡ takes_operation rule i j p
  unfolding takes_operation
  takes_absent h = rw (has_zero (p % 64), le-ltb j (restriction_count rule) h)

  pub takes_word :
      (word mask m : ℕ)
      → j < restriction_count rule
      → m ≡ restriction_mask rule j i
      → ((k : ℕ) → has mask k ≡ (ltb k 16 && mask_takes m k))
      → has word (p % 64) ≡ has mask (p % 64 % 16)
      → has word (p % 64) ≡ takes_operation rule i j p
  unfolding takes_operation
  takes_word word mask m h e taken said =
      let k : p % 64 % 16 ≡ p % 16 = omega arith in
      said
      ∙ rw (k, taken (p % 16), lt-ltb (p % 16) 16 (omega arith), e, lt-ltb j (restriction_count rule) h)

-- The tables

-- the words of the places that meet a reference, by its leaf set
pub reference_meets :
    (head rule : List ℕ) (i leaves : ℕ) (places : List ℕ)
    → WordOf (in_leaf_set head rule i) leaves
    → ReferenceWords rule leaves i places
    → (p : ℕ)
    → p ≤ nowhere
    → has (get_or places (p / 64) 0) (p % 64)
    ≡ cond (ltb i (reference_count rule)) (ltb p nowhere && fits head rule i (access_at p)) true
unfolding meets_reference fits access_at
reference_meets head rule i leaves places word told p h =
    told (p / 64) (omega arith) p h refl ∙ rw (word (p / 16 % 64), lt-ltb (p / 16 % 64) 64 (omega arith))

-- the words of the first references, and what follows with those of one more
pub record References (head rule : List ℕ) (table : RuleTable) (i : ℕ) : Type 0 where
  pub bound : i ≤ 3
  pub places : length table.meets ≡ 3
  pub restrictions : length table.takes ≡ 3
  pub at : (k : ℕ) → k < i → ReferenceHolds head rule k (get_or table.meets k []) (get_or table.takes k [])

pub references_more :
    (head rule : List ℕ) (table : RuleTable) (i : ℕ) (met taken : List ℕ)
    → References head rule table i
    → i < 3
    → ReferenceHolds head rule i met taken
    → References head rule (record { meets = set table.meets i met; takes = set table.takes i taken }) (i + 1)
references_more head rule table i met taken old l new =
    record {
      bound = omega arith;
      places = length-set table.meets i met ∙ old.places;
      restrictions = length-set table.takes i taken ∙ old.restrictions;
      at = λ k m. go k m (eqb k i) refl;
    }
  where
    go :
        (k : ℕ)
        → k < i + 1
        → (b : Bool)
        → eqb k i ≡ b
        → ReferenceHolds head rule k (get_or (set table.meets i met) k []) (get_or (set table.takes i taken) k [])
    go k m true e =
        rw (
          eqb-true k i e,
          get_or-set_same table.meets i met [] (omega (arith, old.places)),
          get_or-set_same table.takes i taken [] (omega (arith, old.restrictions)),
        )
        new
    go k m false e =
        let other : k ≡ i → ⊥ = eqb-false k i e in
        rw (get_or-set_other table.meets i k met [] other, get_or-set_other table.takes i k taken [] other)
        (old.at k (omega (arith, other)))

-- the tables of the first rules
pub record Rules (book : List ℕ) (t : List RuleTable) (q : ℕ) : Type 0 where
  pub size : length t ≡ 32
  pub at : (k : ℕ) → k < q → RuleHolds (head_of book) (rule_at book k) (get_or t k no_table)

pub rules_none : (book : List ℕ) (t : List RuleTable) → length t ≡ 32 → Rules book t 0
rules_none book t size =
    record { size = size; at = λ k l. absurd (omega arith) }

pub rules_more :
    (book : List ℕ) (t : List RuleTable) (q : ℕ) (table : RuleTable)
    → q < 32
    → RuleHolds (head_of book) (rule_at book q) table
    → Rules book t q
    → Rules book (set t q table) (q + 1)
rules_more book t q table l new old =
    record {
      size = length-set t q table ∙ old.size;
      at = λ k m. go k m (eqb k q) refl;
    }
  where
    go :
        (k : ℕ)
        → k < q + 1
        → (b : Bool)
        → eqb k q ≡ b
        → RuleHolds (head_of book) (rule_at book k) (get_or (set t q table) k no_table)
    go k m true e = rw (eqb-true k q e, get_or-set_same t q table no_table (omega (arith, old.size))) new
    go k m false e =
        let other : k ≡ q → ⊥ = eqb-false k q e in
        rw (get_or-set_other t q k table no_table other) (old.at k (omega (arith, other)))

pub table_holds :
    (book : List ℕ) (n : ℕ) (t : List RuleTable) (q : ℕ)
    → Rules book t q
    → n ≤ q
    → TableHolds book n t
unfolding meets takes_at
table_holds book n t q rules few =
    record {
      references = λ q i p l s h. (rules.at q (omega arith) i s).meeting p h;
      restrictions = λ q i j p l s h. (rules.at q (omega arith) i s).taking j h p;
    }

-- The users

-- the users that the first r rules cover, and those that one more does
pub record Covers (book : List ℕ) (covered : List ℕ) (r : ℕ) : Type 0 where
  pub size : length covered ≡ 32
  pub at : CoversHold book r covered

pub covers_none : (book : List ℕ) → Covers book (replicate 32 0) 0
covers_none book =
    record {
      size = refl;
      at = λ k l u m. rw (get_or-replicate {A = ℕ} 32 k 0 0 l, le-ltb k 0 (omega arith)) (has_zero u);
    }

-- a number that is not the next stands where it stood
not_next : (k r : ℕ) → (k ≡ r → ⊥) → ltb k (r + 1) ≡ ltb k r
not_next k r other = go (ltb k r) refl
  where
    go : (b : Bool) → ltb k r ≡ b → ltb k (r + 1) ≡ b
    go true e = let low = ltb-true k r e in lt-ltb k (r + 1) (omega arith)
    go false e = let high = ltb-false k r e in le-ltb k (r + 1) (omega (arith, other))

pub covers_more :
    (book covered : List ℕ) (r word : ℕ)
    → r < 32
    → WordOf (covers_user (head_of book) (rule_at book r)) word
    → Covers book covered r
    → Covers book (set covered r word) (r + 1)
covers_more book covered r word l new old =
    record {
      size = length-set covered r word ∙ old.size;
      at = λ k s. go k s (eqb k r) refl;
    }
  where
    go : (k : ℕ) → k < 32 → (b : Bool) → eqb k r ≡ b → CoveredWord book (r + 1) k (get_or (set covered r word) k 0)
    go k s true e u m =
        rw (
          eqb-true k r e,
          get_or-set_same covered r word 0 (omega (arith, old.size)),
          lt-ltb r (r + 1) (omega arith),
        )
        (new u ∙ rw (lt-ltb u 64 (omega arith)))
    go k s false e u m =
        let other : k ≡ r → ⊥ = eqb-false k r e in
        rw (get_or-set_other covered r k word 0 other, not_next k r other) (old.at k s u m)

-- the first r are those of the first n, where there is none more below 32
pub covers_whole :
    (book covered : List ℕ) (r n : ℕ)
    → r ≤ n
    → ((k : ℕ) → k < 32 → r ≤ k → n ≤ k)
    → Covers book covered r
    → CoversHold book n covered
covers_whole book covered r n short past held k l u m =
    held.at k l u m ∙ ap (λ (b : Bool). b && covers_user (head_of book) (rule_at book k) u) (go (ltb k r) refl)
  where
    go : (b : Bool) → ltb k r ≡ b → ltb k r ≡ ltb k n
    go true e = let low = ltb-true k r e in e ∙ sym (lt-ltb k n (omega arith))
    go false e = e ∙ sym (le-ltb k n (past k l (ltb-false k r e)))
