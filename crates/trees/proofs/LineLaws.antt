-- Laws of a line's text: its decimal number, its word, its length, its line feed. Assumes nothing.
use Prim.Native.Nat.{ℕ, zero, suc, ◌+◌, ◌-◌, ◌*◌, ◌/◌, ◌%◌, ◌≤◌, ◌<◌}
use native.Mathlib.Nat.{zero-add}
use native.Mathlib.Omega.{arith}
use mathlib.Core.Path.{◌≡◌, refl, sym, ap, ◌∙◌}
use mathlib.Core.Bool.{Bool, true, false, cond}
use mathlib.Core.List.{List, [], ◌∷◌, ◌++◌, append_assoc}
use lib.ListN.{length, take, drop, length-append, replicate, length-replicate}
use lib.Dec.{ltb}
use borrow.Author.Tests.{lt-ltb, le-ltb, ltb-true, ne_eqb}
use Rattle.lineage.specs.Rows.{Kind, Column, Apply, Choose, Output, Condition, Unknown, kind_at}
use Rattle.trees.specs.declared.walking.Node.{Node}
use Rattle.trees.specs.Text.{decimal, kind_word, row_text, line_text, line_count}
use Rattle.trees.specs.Answers.{written}
use Rattle.trees.proofs.Writing.{with_part, written_part}

-- Digits

pub decimal_one : (n : ℕ) → n < 10 → decimal n ≡ (48 + n) ∷ []
unfolding decimal
decimal_one n h = rw (lt-ltb n 10 h)

pub decimal_two : (n : ℕ) → 10 ≤ n → decimal n ≡ (48 + n / 10) ∷ (48 + n % 10) ∷ []
unfolding decimal
decimal_two n h = rw (le-ltb n 10 h)

-- a line in three parts
pub line_parts :
    (plan : List ℕ) (n : Node)
    → line_text plan n
    ≡ replicate (2 * n.level) 32 ++ (decimal n.row ++ (32 ∷ kind_word (kind_at plan n.row) ++ 10 ∷ []))
unfolding line_text row_text
line_parts plan n =
    ap (λ t. replicate (2 * n.level) 32 ++ t)
    (append_assoc (decimal n.row) (32 ∷ kind_word (kind_at plan n.row)) (10 ∷ []))

-- Lengths

pub decimal_length_one : (n : ℕ) → n < 10 → length (decimal n) ≡ 1
decimal_length_one n h = rw (decimal_one n h)

pub decimal_length_two : (n : ℕ) → 10 ≤ n → length (decimal n) ≡ 2
decimal_length_two n h = rw (decimal_two n h)

-- the last digits of two: all that a number below 100 has
pub decimal_last :
    (n d : ℕ)
    → d ≡ length (decimal n)
    → take (2 - (2 - d)) (drop (2 - d) ((48 + n / 10) ∷ (48 + n % 10) ∷ [])) ≡ decimal n
unfolding decimal
decimal_last n d e = by (ltb n 10) refl e
  where
    by :
        (b : Bool)
        → ltb n 10 ≡ b
        → d ≡ length (cond b ((48 + n) ∷ []) ((48 + n / 10) ∷ (48 + n % 10) ∷ []))
        → take (2 - (2 - d)) (drop (2 - d) ((48 + n / 10) ∷ (48 + n % 10) ∷ []))
        ≡ cond b ((48 + n) ∷ []) ((48 + n / 10) ∷ (48 + n % 10) ∷ [])
    by true t f =
        let l = ltb-true n 10 t in
        let m : n % 10 ≡ n = omega arith in
        rw (f, m)
    by false t f = rw f

-- a line is spaces, digits, and the word with what stands around it
module _ (plan : List ℕ) (n : Node) (spaces digits : ℕ) (word : List ℕ) (es : spaces ≡ 2 * n.level)
    (ed : digits ≡ length (decimal n.row)) (ew : word ≡ 32 ∷ kind_word (kind_at plan n.row) ++ 10 ∷ [])
  where
    pub line_length : spaces + (digits + length word) ≡ length (line_text plan n)
    line_length =
        let s = length-replicate {A = ℕ} (2 * n.level) 32 in
        let f = length-append {A = ℕ} (decimal n.row) word in
        let g = length-append {A = ℕ} (replicate (2 * n.level) 32) (decimal n.row ++ word) in
        rw (line_parts plan n, ← ew) (omega arith)

    -- the three parts put into a text one after another
    pub line_laid :
        (text f d : List ℕ) (j k : ℕ)
        → f ≡ replicate spaces 32
        → d ≡ decimal n.row
        → j ≡ digits
        → k ≡ length word
        → with_part (spaces + digits) k (with_part spaces j (f ++ drop spaces text) d) word ≡ written (line_text plan n) text
    unfolding written
    line_laid text f d j k ef edd ej ek =
        let s = length-replicate {A = ℕ} spaces 32 in
        let g = length-append {A = ℕ} (replicate spaces 32) (decimal n.row) in
        let both = replicate spaces 32 ++ decimal n.row in
        let front : f ++ drop spaces text ≡ written (replicate spaces 32) text = rw (ef, s) in
        let middle = written_part (replicate spaces 32) (decimal n.row) text spaces j (sym s) (ej ∙ ed) in
        let line = written_part both word text (spaces + digits) k (omega arith) ek in
        let parts : both ++ word ≡ line_text plan n =
        rw (line_parts plan n, es, ew) (append_assoc (replicate (2 * n.level) 32) (decimal n.row) _) in
        rw (front, edd, middle) (line ∙ ap (λ t. written t text) parts)

decimal_short : (n : ℕ) → length (decimal n) ≤ 2
unfolding decimal
decimal_short n = by (ltb n 10)
  where
    by : (b : Bool) → length (cond b ((48 + n) ∷ []) ((48 + n / 10) ∷ (48 + n % 10) ∷ [])) ≤ 2
    by true = omega arith
    by false = omega arith

word_short : (kind : Kind) → length (kind_word kind) ≤ 6
unfolding kind_word
word_short Column = omega arith
word_short Apply = omega arith
word_short Choose = omega arith
word_short Output = omega arith
word_short Condition = omega arith
word_short Unknown = omega arith

-- the spaces, two digits, a space, six letters and the line feed
pub line_short : (plan : List ℕ) (n : Node) → length (line_text plan n) ≤ 2 * n.level + 10
line_short plan n =
    let word = kind_word (kind_at plan n.row) in
    let e = line_length plan n (2 * n.level) (length (decimal n.row)) (32 ∷ word ++ 10 ∷ []) refl refl refl in
    let g = length-append {A = ℕ} (32 ∷ word) (10 ∷ []) in
    let d = decimal_short n.row in
    let w = word_short (kind_at plan n.row) in
    omega arith

-- Line feeds

pub feeds_append : (xs ys : List ℕ) → line_count (xs ++ ys) ≡ line_count xs + line_count ys
unfolding line_count
feeds_append [] ys = sym (zero-add (line_count ys))
feeds_append (x ∷ xs) ys =
    let e = feeds_append xs ys in
    omega arith

feeds_spaces : (n : ℕ) → line_count (replicate n 32) ≡ 0
unfolding line_count
feeds_spaces zero = refl
feeds_spaces (suc n) = rw (feeds_spaces n)

feeds_decimal : (n : ℕ) → line_count (decimal n) ≡ 0
unfolding line_count decimal
feeds_decimal n = by (ltb n 10)
  where
    by : (b : Bool) → line_count (cond b ((48 + n) ∷ []) ((48 + n / 10) ∷ (48 + n % 10) ∷ [])) ≡ 0
    by true = rw (ne_eqb (48 + n) 10 (omega arith))
    by false = rw (ne_eqb (48 + n / 10) 10 (omega arith), ne_eqb (48 + n % 10) 10 (omega arith))

feeds_word : (kind : Kind) → line_count (32 ∷ kind_word kind ++ 10 ∷ []) ≡ 1
unfolding line_count kind_word
feeds_word Column = refl
feeds_word Apply = refl
feeds_word Choose = refl
feeds_word Output = refl
feeds_word Condition = refl
feeds_word Unknown = refl

pub feeds_line : (plan : List ℕ) (n : Node) → line_count (line_text plan n) ≡ 1
feeds_line plan n =
    let word = 32 ∷ kind_word (kind_at plan n.row) ++ 10 ∷ [] in
    let e = feeds_append (replicate (2 * n.level) 32) (decimal n.row ++ word) in
    let f = feeds_append (decimal n.row) word in
    let g = feeds_spaces (2 * n.level) in
    let h = feeds_decimal n.row in
    let k = feeds_word (kind_at plan n.row) in
    rw (line_parts plan n) (omega arith)
