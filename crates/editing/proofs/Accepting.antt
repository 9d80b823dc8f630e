-- A book whose rules are among an accepted book's is accepted: the tests of a block pass at one number of a block
-- exactly when they pass at another. Assumes nothing.
use Prim.Native.Nat.{ℕ, zero, suc, ◌+◌, ◌*◌, ◌-◌, ◌/◌, ◌%◌, ◌≤◌, ◌<◌}
use native.Mathlib.Omega.{arith}
use mathlib.Core.Path.{◌≡◌, refl, sym, ap, ◌∙◌}
use mathlib.Core.Bool.{Bool, true, false}
use mathlib.Core.List.{List, [], ◌∷◌, ◌++◌}
use lib.ListN.{length, get_or, take, drop}
use lib.Seq.{take-take}
use lib.Dec.{eqb, ltb}
use borrow.Author.Tests.{eq-eqb, le-leb, ltb-true, ltb-false}
use Rattle.book.specs.Blocks.{head_of, rule_at, block_at, block_count, rule_count, check_holds}
use Rattle.book.specs.Tests.{Test, Passes, first_failing}
use Rattle.book.specs.Refusals.{BookAccepted, between, block_by_block, book_tests, check_tests, content_tests}
use Rattle.book.specs.Refusals.{kind_holds, kind_tests, length_holds, length_tests, rule_block_tests}
use Rattle.book.specs.declared.refusal.Refusal.{Refusal}
use Rattle.book.specs.declared.refusal.Refusal.TheVariants.{BookLength, BlockCheck, BlockKind}
use Rattle.book.proofs.Tests.{kind_rule, rule_passed, rule_tests_law}
use Rattle.book.proofs.Answers.{append_passed, first_append, flat_passed, last_passed, passed_flat}
use Rattle.book.proofs.Accepted.{accepted_length}
use Rattle.editing.proofs.Within.{Within}

-- a part of the front of a list
pub part_front : (a c n : ℕ) (l : List ℕ) → a + c ≤ n → take c (drop a (take n l)) ≡ take c (drop a l)
part_front zero c n l h = take-take c n l (omega arith)
part_front (suc a) c zero l h = absurd (omega arith)
part_front (suc a) c (suc n) [] h = refl
part_front (suc a) c (suc n) (x ∷ l) h = part_front a c n l (omega arith)

-- Lists of tests

pub one_passes : (refusal : Refusal) (passed : Bool) → passed ≡ true → Passes ((refusal, passed) ∷ [])
unfolding first_failing
one_passes refusal passed h = rw h

pub append_passes : (a b : List Test) → Passes a → Passes b → Passes (a ++ b)
append_passes a b p q = rw (first_append a b, p) q

-- Every test of an accepted book is passed, and a book that passes every test is accepted

pub record BlocksPass (book : List ℕ) : Type 0 where
  pub checks : (j : ℕ) → j < block_count book → Passes (check_tests book j)
  pub kinds : (j : ℕ) → j < block_count book → Passes (kind_tests book j)
  pub contents : (j : ℕ) → j < block_count book → Passes (content_tests book j)

pub accepted_blocks : (book : List ℕ) → BookAccepted book → BlocksPass book
unfolding book_tests block_by_block
accepted_blocks book accepted =
    let checks = block_by_block book (check_tests book) in
    let kinds = block_by_block book (kind_tests book) in
    let contents = block_by_block book (content_tests book) in
    let last = append_passed (length_tests book ++ checks ++ kinds) contents accepted in
    let before = append_passed (length_tests book ++ checks) kinds last.0 in
    let long = append_passed (length_tests book) checks before.0 in
    record {
      checks = passed_flat (check_tests book) (block_count book) long.1;
      kinds = passed_flat (kind_tests book) (block_count book) before.1;
      contents = passed_flat (content_tests book) (block_count book) last.1;
    }

long_enough : (n m : ℕ) → n ≡ 512 * (4 + m) → m ≤ 32 → length_holds n ≡ true
unfolding length_holds between
long_enough n m e l =
    let a : n % 512 ≡ 0 = omega arith in
    let b : 4 ≤ n / 512 = omega arith in
    let c : n / 512 ≤ 36 = omega arith in
    rw (eq-eqb (n % 512) 0 a, le-leb 4 (n / 512) b, le-leb (n / 512) 36 c)

pub blocks_accepted :
    (book : List ℕ) (m : ℕ) → length book ≡ 512 * (4 + m) → m ≤ 32 → BlocksPass book → BookAccepted book
unfolding book_tests block_by_block length_tests
blocks_accepted book m e l passed =
    let checks = block_by_block book (check_tests book) in
    let kinds = block_by_block book (kind_tests book) in
    let contents = block_by_block book (content_tests book) in
    append_passes (length_tests book ++ checks ++ kinds) contents
    (append_passes (length_tests book ++ checks) kinds
    (append_passes (length_tests book) checks
    (one_passes BookLength (length_holds (length book)) (long_enough (length book) m e l))
    (flat_passed (check_tests book) (block_count book) passed.checks))
    (flat_passed (kind_tests book) (block_count book) passed.kinds))
    (flat_passed (content_tests book) (block_count book) passed.contents)

-- The tests of a block, by the head and the block alone

-- a rule block that passes passes at every number
pub rule_elsewhere :
    (head rule : List ℕ) (i j : ℕ) → Passes (rule_block_tests head rule i) → Passes (rule_block_tests head rule j)
unfolding rule_block_tests first_failing
rule_elsewhere head rule i j h =
    let p = rule_passed head rule i h in
    rw (p.0, p.1, p.2, p.3)

module _ (small book : List ℕ) (head : head_of small ≡ head_of book) where
  -- a block of the head
  head_block : (j : ℕ) → j < 4 → block_at small j ≡ block_at book j
  head_block j l =
      sym (part_front (512 * j) 512 2048 small (omega arith))
      ∙ ap (λ (s : List ℕ). take 512 (drop (512 * j) s)) head
      ∙ part_front (512 * j) 512 2048 book (omega arith)

  module _ (j : ℕ) (l : j < 4) where
    head_checks : Passes (check_tests book j) → Passes (check_tests small j)
    unfolding check_tests
    head_checks h = rw (head_block j l) h

    head_kinds : Passes (kind_tests book j) → Passes (kind_tests small j)
    unfolding kind_tests
    head_kinds h = rw (head_block j l) h

    head_contents : Passes (content_tests book j) → Passes (content_tests small j)
    unfolding content_tests
    head_contents h = rw (head_block j l, head) h

  -- a rule, whatever its number
  module _ (i j : ℕ) (li : 4 ≤ i) (lj : 4 ≤ j) (e : block_at small i ≡ block_at book j) where
    rule_checks : Passes (check_tests book j) → Passes (check_tests small i)
    unfolding check_tests
    rule_checks h =
        one_passes (BlockCheck i) (check_holds (block_at small i))
        (rw e (last_passed (BlockCheck j) (check_holds (block_at book j)) h))

    rule_kinds : Passes (kind_tests book j) → Passes (kind_tests small i)
    unfolding kind_tests
    rule_kinds h =
        let kind = get_or (block_at book j) 0 0 in
        let five : eqb kind 5 ≡ true = kind_rule j kind lj ∙ last_passed (BlockKind j) (kind_holds j kind) h in
        one_passes (BlockKind i) (kind_holds i (get_or (block_at small i) 0 0)) (rw e (sym (kind_rule i kind li) ∙ five))

    rule_contents : Passes (content_tests book j) → Passes (content_tests small i)
    unfolding content_tests
    rule_contents h =
        rw (rule_tests_law (head_of small) (block_at small i) i li, e, head)
        (rule_elsewhere (head_of book) (block_at book j) j i
        (rw (rule_tests_law (head_of book) (block_at book j) j lj) at h))

pub accepted_within :
    (small book : List ℕ) (place : ℕ → ℕ)
    → Within small book place
    → (m : ℕ)
    → length small ≡ 512 * (4 + m)
    → m ≤ 32
    → BookAccepted book
    → BookAccepted small
accepted_within small book place w m e few accepted =
    let whole = (accepted_length book accepted).0 in
    let passed = accepted_blocks book accepted in
    blocks_accepted small m e few
    (record {
      checks =
          λ j k.
          each (check_tests small) (check_tests book) whole passed.checks (head_checks small book w.head)
          (rule_checks small book w.head) j k (ltb j 4) refl;
      kinds =
          λ j k.
          each (kind_tests small) (kind_tests book) whole passed.kinds (head_kinds small book w.head)
          (rule_kinds small book w.head) j k (ltb j 4) refl;
      contents =
          λ j k.
          each (content_tests small) (content_tests book) whole passed.contents (head_contents small book w.head)
          (rule_contents small book w.head) j k (ltb j 4) refl;
    })
  where
    -- block by block: those of the head at their own number, the rules at the number in the other book
    each :
        (here there : ℕ → List Test)
        → length book ≡ 512 * (4 + rule_count book)
        → ((j : ℕ) → j < block_count book → Passes (there j))
        → ((j : ℕ) → j < 4 → Passes (there j) → Passes (here j))
        → ((i j : ℕ) → 4 ≤ i → 4 ≤ j → block_at small i ≡ block_at book j → Passes (there j) → Passes (here i))
        → (j : ℕ)
        → j < block_count small
        → (b : Bool)
        → ltb j 4 ≡ b
        → Passes (here j)
    each here there whole passed at_head at_rule j k true t =
        let f = ltb-true j 4 t in
        at_head j f (passed j (omega arith))
    each here there whole passed at_head at_rule j k false t =
        let f = ltb-false j 4 t in
        let q = j - 4 in
        let number : 4 + q ≡ j = omega arith in
        let in_small : q < rule_count small = omega arith in
        let in_book = w.below q in_small in
        let s : block_at small j ≡ rule_at book (place q) = rw number at (w.same q in_small) in
        at_rule j (4 + place q) f (omega arith) s (passed (4 + place q) (omega arith))
