-- The four head blocks, byte by byte. `head` is the first 2048 bytes of a book: users from byte 0, data from 512,
-- columns from 1024, functions from 1536. Assumes nothing.
use Rattle.std.specs.Prelude.{ℕ, ◌+◌, ◌*◌, Bool, cond, get_or, eqb}
use Rattle.book.specs.Sets.{has}
use Rattle.book.specs.Hierarchies.{leaf, support}
use Rattle.book.specs.Blocks.{Head}

-- "Block 0, kind 1, users: 1 to 32 categories. Byte 2 + i is the parent of category i"
abbrev pub user_count : Head → ℕ
user_count head = get_or head 1 0

abbrev pub user_parent : Head → ℕ → ℕ
user_parent head i = get_or head (2 + i) 0

-- "Block 1, kind 2, data: 1 to 64 categories, three bytes each from byte 2: parent (same law), then the mask of own
-- operations". N9: "A block of kind 6 may stand where kind 2 stood, with five bytes a category: parent, own mask,
-- withdrawn mask."
abbrev pub has_withdrawn : Head → Bool
has_withdrawn head = eqb (get_or head 512 0) 6

abbrev pub data_count : Head → ℕ
data_count head = get_or head 513 0

-- the first byte of data category i; after the last category, the first that is unused
unfoldable pub category_start : Head → ℕ → ℕ
category_start head i = cond (has_withdrawn head) (514 + 5 * i) (514 + 3 * i)

abbrev pub data_parent : Head → ℕ → ℕ
data_parent head i = get_or head (category_start head i) 0

abbrev pub own_operations : Head → ℕ → ℕ
own_operations head i = 256 * get_or head (category_start head i + 1) 0 + get_or head (category_start head i + 2) 0

-- "Kind 2 reads as nothing withdrawn."
unfoldable pub withdrawn_operations : Head → ℕ → ℕ
withdrawn_operations head i =
    cond (has_withdrawn head) (256 * get_or head (category_start head i + 3) 0 + get_or head (category_start head i + 4) 0) 0

-- "Block 2, kind 3, columns: 0 to 128. Byte 2 + i is the label of column i"
abbrev pub column_count : Head → ℕ
column_count head = get_or head 1025 0

abbrev pub label : Head → ℕ → ℕ
label head i = get_or head (1026 + i) 0

-- "Block 3, kind 4, functions: 0 to 64. Byte 2 + i is the operation 0 to 15 of function i."
abbrev pub function_count : Head → ℕ
function_count head = get_or head 1537 0

abbrev pub operation : Head → ℕ → ℕ
operation head i = get_or head (1538 + i) 0

-- "A user is a leaf of block 0."
unfoldable pub is_user : Head → ℕ → Bool
is_user head u = leaf (user_count head) (user_parent head) u

unfoldable pub is_data_leaf : Head → ℕ → Bool
is_data_leaf head d = leaf (data_count head) (data_parent head) d

-- the operations that data category d supports, as a mask
unfoldable pub support_of : Head → ℕ → ℕ
support_of head d = support (data_parent head) (own_operations head) (withdrawn_operations head) d

unfoldable pub supports : Head → ℕ → ℕ → Bool
supports head d k = has (support_of head d) k
