-- The blocks of a book and the check of a block. Document 01, "The book and its blocks", its first paragraph.
-- Assumes nothing.
use Rattle.std.specs.Prelude.{ℕ, suc, ◌+◌, ◌-◌, ◌*◌, ◌/◌, ◌%◌, Bool, List, [], ◌∷◌, length, get_or, take, drop, eqb}

-- the bytes of a book, of its four head blocks, of one block, of a rule block: any list of numbers, and the tests say
-- which are accepted
abbrev pub Book : Type 0
Book = List ℕ

abbrev pub Head : Type 0
Head = List ℕ

abbrev pub Block : Type 0
Block = List ℕ

abbrev pub Rule : Type 0
Rule = List ℕ

-- block i of a book
abbrev pub block_at : Book → ℕ → Block
block_at book i = take 512 (drop (512 * i) book)

-- the four head blocks
abbrev pub head_of : Book → Head
head_of book = take 2048 book

-- rule r: "Further blocks, kind 5, one rule each, rule 0 first."
abbrev pub rule_at : Book → ℕ → Rule
rule_at book r = block_at book (4 + r)

-- the number of blocks, and of rules, of a book whose length holds
abbrev pub block_count : Book → ℕ
block_count book = length book / 512

abbrev pub rule_count : Book → ℕ
rule_count book = block_count book - 4

-- the first byte times w, the next times w + 1, and so on, added up
unfoldable pub weighted : ℕ → List ℕ → ℕ
weighted w [] = 0
weighted w (x ∷ xs) = w * x + weighted (suc w) xs

-- "the sum of (i + 1) × byte i, for i from 0 to 509, modulo 65,521"
unfoldable pub check_sum : Block → ℕ
check_sum block = weighted 1 (take 510 block) % 65521

-- "Bytes 510 and 511 hold the check, high byte first"
unfoldable pub check_holds : Block → Bool
check_holds block = eqb (256 * get_or block 510 0 + get_or block 511 0) (check_sum block)
