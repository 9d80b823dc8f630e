-- Laws of the marks by the tables: what the tables say of a rule is what Idle says of it, and the words of the marks that
-- an edit leaves. Assumes nothing.
use Prim.Native.Nat.{ℕ, suc, ◌+◌, ◌-◌, ◌/◌, ◌%◌, ◌^◌, ◌≤◌, ◌<◌}
use native.Mathlib.Omega.{arith}
use mathlib.Core.Path.{◌≡◌, refl, sym, ap, ◌∙◌}
use mathlib.Core.Bool.{Bool, true, false, ◌&&◌, ◌||◌, not, cond, false≢true}
use mathlib.Core.List.{List}
use lib.Dec.{ltb}
use lib.Bits.{bit_and, bit_or, and_le_l}
use native.Mathlib.Nat.{lt_of_le_of_lt}
use native.Mathlib.Numerals.{add-one}
use borrow.Author.Tests.{lt-ltb, ltb-false, ltb-true}
use Rattle.std.specs.Prelude.{Option, Some, None, is_some}
use Rattle.book.specs.Sets.{has, WordOf}
use Rattle.book.specs.Blocks.{rule_at, rule_count}
use Rattle.book.specs.Rule.{reference_count}
use Rattle.book.specs.Refusals.{BookAccepted}
use Rattle.book.proofs.Lists.{and_end, and_false, or_end}
use Rattle.book.proofs.Members.{has_and, has_high, has_not, has_or, has_zero}
use Rattle.search.specs.Alone.{First, none, shown, first_alone}
use Rattle.search.specs.Choices.{Candidate}
use Rattle.search.specs.Inner.Search.{NeedsFirst, triple_before}
use Rattle.search.specs.Inner.First.{FirstNeeds, found_of}
use Rattle.search.specs.declared.tables.RuleTable.{RuleTable}
use Rattle.search.specs.declared.users.Witness.{Witness}
use Rattle.search.proofs.Lifting.{lifted, solved_some}
use Rattle.verdicts.proofs.Sound.{cut_word, few_rules_law}
use Rattle.editing.specs.Books.{number_before}
use Rattle.editing.specs.Marks.{arrival_marks, departure_marks, idle_at, is_none}
use Rattle.editing.specs.Inner.Marking.{IdleAmong, TablesOf}

-- What the search says of a rule of an accepted book: nobody found is an idle rule, and somebody a needed one

module _ (book : List ℕ) (accepted : BookAccepted book) (r : ℕ) (l : r < rule_count book) (t : List RuleTable) (had covered : List ℕ) (of : TablesOf book t had covered) where
  pub found_idle :
      (n : ℕ)
      → n ≡ reference_count (rule_at book r)
      → (found : Option Witness)
      → NeedsFirst triple_before t r n had covered found
      → (idle : Bool)
      → is_some found ≡ not idle
      → idle ≡ idle_at book r
  unfolding idle_at is_none FirstNeeds found_of NeedsFirst
  found_idle n e None h true s =
      let first : first_alone book r ≡ none =
      lifted book accepted of.sound r l t had covered of.tables of.hads of.covers None (rw e at h) in
      rw first
  found_idle n e None h false s = absurd (false≢true s)
  found_idle n e (Some w) h true s = absurd (false≢true (sym s))
  found_idle n e (Some w) h false s =
      let by = rw e at h in
      go (first_alone book r) refl
      (solved_some book accepted of.sound r l t had covered of.tables of.hads of.covers w.user w.places.first
      w.places.second w.places.third by.below by.found.solution)
    where
      go : (f : First Candidate) → first_alone book r ≡ f → (first_alone book r ≡ none → ⊥) → false ≡ is_none f
      go none e some = absurd (some e)
      go (shown c) e some = refl

-- The rules asked about

pub among_those :
    (f : ℕ → Bool) (n word : ℕ)
    → ((q : ℕ) → q < n → has word q ≡ f q)
    → ((q : ℕ) → n ≤ q → has word q ≡ false)
    → (q : ℕ)
    → has word q ≡ (ltb q n && f q)
among_those f n word below above q = go (ltb q n) refl
  where
    go : (b : Bool) → ltb q n ≡ b → has word q ≡ (b && f q)
    go true e = below q (ltb-true q n e)
    go false e = above q (ltb-false q n e)

pub among_none : (book : List ℕ) (asked n : ℕ) → asked ≡ 0 → IdleAmong book asked n 0
among_none book asked n e q = rw (e, has_zero q) (sym (and_false (ltb q n)))

-- The words of the marks

module _ (book : List ℕ) (accepted : BookAccepted book) (marks : ℕ) where
  -- set marks below n are kept, and of the others those are asked for
  pub arrival_word :
      (n low high found : ℕ)
      → rule_count book ≡ suc n
      → low < 2 ^ 64
      → WordOf (λ j. ltb j n) low
      → WordOf (λ j. ltb j (n + 1)) high
      → IdleAmong book (bit_and high ((2 ^ 64 - 1) - bit_and low marks)) (rule_count book) found
      → bit_or (bit_and low marks) found % 4294967296 ≡ arrival_marks book n marks
  unfolding arrival_marks
  arrival_word n low high found count fits lows highs among =
      let few = few_rules_law book accepted in
      cut_word (λ q. (ltb q n && has marks q) || idle_at book q) (suc n) (bit_or (bit_and low marks) found) (omega arith)
      (λ q l. bit q l)
    where
      choose : (a s m i : Bool) → (a ≡ true → s ≡ true) → ((a && m) || (s && ((s && not (a && m)) && i))) ≡ (s && ((a && m) || i))
      choose true true true i h = refl
      choose true true false i h = refl
      choose true false m i h = absurd (false≢true (h refl))
      choose false true m i h = refl
      choose false false m i h = refl

      bit :
          (q : ℕ)
          → q < 32
          → has (bit_or (bit_and low marks) found) q ≡ (ltb q (suc n) && ((ltb q n && has marks q) || idle_at book q))
      bit q l =
          let kept : bit_and low marks < 2 ^ 64 = lt_of_le_of_lt (and_le_l low marks) fits in
          let e : n + 1 ≡ suc n = add-one n in
          rw (
            has_or (bit_and low marks) found q,
            has_and low marks q,
            among q,
            has_and high ((2 ^ 64 - 1) - bit_and low marks) q,
            has_not 64 (bit_and low marks) q kept,
            has_and low marks q,
            lows q,
            highs q,
            lt-ltb q 64 (omega arith),
            e,
            count,
          )
          (choose (ltb q n) (ltb q (suc n)) (has marks q) (idle_at book q)
          (λ t.
          let k = ltb-true q n t in
          lt-ltb q (suc n) (omega arith)))

  -- marks behind r move down, and those that are set are asked for
  pub departure_word :
      (r before found : ℕ)
      → before < 2 ^ 64
      → WordOf (λ j. ltb j r) before
      → IdleAmong book (bit_or (bit_and marks before) (bit_and (marks / 2 ^ 1) ((2 ^ 64 - 1) - before))) (rule_count book)
      found
      → found % 4294967296 ≡ departure_marks book r marks
  unfolding departure_marks number_before
  departure_word r before found fits befores among =
      let few = few_rules_law book accepted in
      cut_word (λ q. has marks (number_before r q) && idle_at book q) (rule_count book) found few
      (λ q l. among q ∙ ap (λ (b : Bool). ltb q (rule_count book) && (b && idle_at book q)) (bit q l (ltb q r) refl))
    where
      bit :
          (q : ℕ)
          → q < 32
          → (b : Bool)
          → ltb q r ≡ b
          → has (bit_or (bit_and marks before) (bit_and (marks / 2 ^ 1) ((2 ^ 64 - 1) - before))) q
          ≡ has marks (number_before r q)
      bit q l b e =
          rw (
            has_or (bit_and marks before) (bit_and (marks / 2 ^ 1) ((2 ^ 64 - 1) - before)) q,
            has_and marks before q,
            has_and (marks / 2 ^ 1) ((2 ^ 64 - 1) - before) q,
            has_not 64 before q fits,
            befores q,
            lt-ltb q 64 (omega arith),
            e,
          )
          (go b)
        where
          go :
              (b : Bool)
              → ((has marks q && b) || (has (marks / 2 ^ 1) q && not b)) ≡ has marks (cond b q (suc q))
          go true = rw (and_end, and_false) (or_end (has marks q))
          go false = rw (and_false, and_end) (sym (has_high marks q))
