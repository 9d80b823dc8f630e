-- A rule block, byte by byte, and what its references and its users are. `rule` is the block's 512 bytes.
-- Assumes nothing.
use Rattle.std.specs.Prelude.{ℕ, zero, suc, ◌+◌, ◌*◌, Bool, ◌&&◌, List, get_or, take, drop, Option, Some, None}
use Rattle.book.specs.Hierarchies.{covers}
use Rattle.book.specs.Blocks.{Head, Rule}
use Rattle.book.specs.Head.{user_parent, data_parent, is_user, is_data_leaf}
use Rattle.book.specs.declared.Action.TheVariants.{Projection, Condition, Access}
use Rattle.book.specs.declared.Action.{Action}

-- "Byte 1: references n, 1 to 3."
abbrev pub reference_count : Rule → ℕ
reference_count rule = get_or rule 1 0

-- "Byte 2: user category."
abbrev pub user_category : Rule → ℕ
user_category rule = get_or rule 2 0

-- "Byte 3: excluded users, 0 to 4, listed from byte 4."
abbrev pub excluded_user_count : Rule → ℕ
excluded_user_count rule = get_or rule 3 0

abbrev pub excluded_users : Rule → List ℕ
excluded_users rule = take (excluded_user_count rule) (drop 4 rule)

-- "Byte 8: restrictions m, 0 to 8; 0 forbids."
abbrev pub restriction_count : Rule → ℕ
restriction_count rule = get_or rule 8 0

-- "Reference i starts at 16 + 16 × i: data category, action [..], excluded categories 0 to 8, then their list."
abbrev pub data_category : Rule → ℕ → ℕ
data_category rule i = get_or rule (16 + 16 * i) 0

abbrev pub action_number : Rule → ℕ → ℕ
action_number rule i = get_or rule (17 + 16 * i) 0

-- "action (1 projection, 2 condition, 3 access, meaning either)"; every other number names none
unfoldable pub action_of : ℕ → Option Action
action_of zero = None
action_of (suc zero) = Some Projection
action_of (suc (suc zero)) = Some Condition
action_of (suc (suc (suc zero))) = Some Access
action_of (suc (suc (suc (suc n)))) = None

abbrev pub action : Rule → ℕ → Option Action
action rule i = action_of (action_number rule i)

abbrev pub exclusion_count : Rule → ℕ → ℕ
exclusion_count rule i = get_or rule (18 + 16 * i) 0

abbrev pub exclusions : Rule → ℕ → List ℕ
exclusions rule i = take (exclusion_count rule i) (drop (19 + 16 * i) rule)

-- "Restriction j starts at 64 + 6 × j: three masks, for references 0, 1, 2"; "Two-byte masks are high byte first"
abbrev pub restriction_mask : Rule → ℕ → ℕ → ℕ
restriction_mask rule j i = 256 * get_or rule (64 + 6 * j + 2 * i) 0 + get_or rule (65 + 6 * j + 2 * i) 0

-- the users that the rule covers
unfoldable pub covers_user : (head : Head) (rule : Rule) (user : ℕ) → Bool
covers_user head rule u = is_user head u && covers (user_parent head) (user_category rule) (excluded_users rule) u

-- the leaf set of reference i
unfoldable pub in_leaf_set : (head : Head) (rule : Rule) (reference leaf : ℕ) → Bool
in_leaf_set head rule i d = is_data_leaf head d && covers (data_parent head) (data_category rule i) (exclusions rule i) d
