-- Document 02, N9: "Truncation suits addresses in general but shows too much of a street." A book in which Address owns
-- truncation, Street withdraws it, and House, below Street, has it back. Assumes nothing.
use Rattle.std.specs.Prelude.{ℕ, List, [], ◌∷◌, ◌++◌}
use Rattle.book.specs.Shop.{block, rule}

-- one user
unfoldable pub reader : List ℕ
reader = block (1 ∷ 1 ∷ 0 ∷ [])

-- five bytes a category: parent, own mask, withdrawn mask; truncation is operation 1
unfoldable pub addresses : List ℕ
addresses =
    block
    (6 ∷ 6 ∷
    -- 0 All
    0 ∷ 0 ∷ 0 ∷ 0 ∷ 0 ∷
    -- 1 Address, below All, owns truncation
    0 ∷ 0 ∷ 2 ∷ 0 ∷ 0 ∷
    -- 2 Street, below Address, withdraws it
    1 ∷ 0 ∷ 0 ∷ 0 ∷ 2 ∷
    -- 3 House, below Street, owns it
    2 ∷ 0 ∷ 2 ∷ 0 ∷ 0 ∷
    -- 4 Lane, below Street
    2 ∷ 0 ∷ 0 ∷ 0 ∷ 0 ∷
    -- 5 City, below Address
    1 ∷ 0 ∷ 0 ∷ 0 ∷ 0 ∷ [])

-- a column for each of House, Lane and City
unfoldable pub labelled : List ℕ
labelled = block (3 ∷ 3 ∷ 3 ∷ 4 ∷ 5 ∷ [])

unfoldable pub truncation : List ℕ
truncation = block (4 ∷ 1 ∷ 1 ∷ [])

-- projection Address, [{truncation}]
unfoldable pub truncated : List ℕ
truncated = rule 1 0 (1 ∷ 1 ∷ []) [] [] (0 ∷ 2 ∷ [])

unfoldable pub streets : List ℕ
streets = reader ++ (addresses ++ (labelled ++ (truncation ++ truncated)))
