-- The small shop of document 01, as a book of seven blocks. Assumes nothing.
use Rattle.std.specs.Prelude.{ℕ, List, [], ◌∷◌, ◌++◌, take, replicate}
use Rattle.book.specs.Answers.{seal_bytes}

-- n bytes: the given ones, then zeros
unfoldable pub padded : ℕ → List ℕ → List ℕ
padded n bytes = take n (bytes ++ replicate n 0)

unfoldable pub block : List ℕ → List ℕ
block bytes = seal_bytes (padded 512 bytes)

-- "Users 0 Analyst, 1 Report, 2 Marketing (parents 0, 0, 0)."
unfoldable pub users : List ℕ
users = block (1 ∷ 3 ∷ 0 ∷ 0 ∷ 0 ∷ [])

-- "Data 0 All, 1 Address, 2 State, 3 City, 4 Price (parents 0, 0, 1, 1, 0). Price owns 1 avg and 2 sum."
unfoldable pub categories : List ℕ
categories =
    block (2 ∷ 5 ∷ 0 ∷ 0 ∷ 0 ∷ 0 ∷ 0 ∷ 0 ∷ 1 ∷ 0 ∷ 0 ∷ 1 ∷ 0 ∷ 0 ∷ 0 ∷ 0 ∷ 6 ∷ [])

-- "Columns 2, 3, 4, 255."
unfoldable pub columns : List ℕ
columns = block (3 ∷ 4 ∷ 2 ∷ 3 ∷ 4 ∷ 255 ∷ [])

-- "Functions 0, 1, 2 (concat, avg, sum)."
unfoldable pub functions : List ℕ
functions = block (4 ∷ 3 ∷ 0 ∷ 1 ∷ 2 ∷ [])

-- a rule with no exclusions and one restriction: references, user category, three references, three masks
unfoldable pub rule : ℕ → ℕ → List ℕ → List ℕ → List ℕ → List ℕ → List ℕ
rule n user first second third masks =
    block
    (padded 16 (5 ∷ n ∷ user ∷ 0 ∷ 0 ∷ 0 ∷ 0 ∷ 0 ∷ 1 ∷ [])
    ++ (padded 16 first ++ (padded 16 second ++ (padded 16 third ++ masks))))

-- "Analyst, projection Address, projection Price, [none, {avg, sum}]"
unfoldable pub rule0 : List ℕ
rule0 = rule 2 0 (1 ∷ 1 ∷ []) (4 ∷ 1 ∷ []) [] (0 ∷ 0 ∷ 0 ∷ 6 ∷ [])

-- "Analyst, access Price, [{avg}]"
unfoldable pub rule1 : List ℕ
rule1 = rule 1 0 (4 ∷ 3 ∷ []) [] [] (0 ∷ 2 ∷ [])

-- "Report, projection Address, projection Price, [none, {avg}]"
unfoldable pub rule2 : List ℕ
rule2 = rule 2 1 (1 ∷ 1 ∷ []) (4 ∷ 1 ∷ []) [] (0 ∷ 0 ∷ 0 ∷ 2 ∷ [])

unfoldable pub shop : List ℕ
shop = users ++ (categories ++ (columns ++ (functions ++ (rule0 ++ (rule1 ++ rule2)))))
