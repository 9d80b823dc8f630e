-- Theorems about the definitions, by computation: the accesses of small plans for the small shop, one for each mistake
-- near at hand. Assumes nothing.
use Prim.Native.Nat.{ℕ, ◌/◌, ◌%◌}
use mathlib.Core.Path.{◌≡◌, refl}
use mathlib.Core.List.{List, [], ◌∷◌, ◌++◌, map}
use lib.ListN.{get_or, take, replicate}
use Rattle.book.specs.Lists.{flat, any, keep, up_to, from}
use Rattle.book.specs.Sets.{has, less}
use Rattle.book.specs.Hierarchies.{upward_in, upward, support_along, support}
use Rattle.book.specs.Head.{category_start, withdrawn_operations, support_of, supports}
use Rattle.book.specs.Blocks.{head_of, weighted, check_sum}
use Rattle.book.specs.Tests.{first_failing, refused_or, answered}
use Rattle.book.specs.Refusals.{seal_tests}
use Rattle.book.specs.Answers.{with_check, seal_bytes}
use Rattle.book.specs.Shop.{padded, block, users, categories, columns, functions, shop}
use Rattle.std.specs.Prelude.{Ok}
use Rattle.book.specs.Tests.{Outcome}
use Rattle.lineage.specs.Rows.{kind_of, kind_at, is_value, names, sound_as, row_holds}
use Rattle.lineage.specs.Paths.{applied_as, through, paths_by, paths_in, paths, labels, takes, counting}
use Rattle.lineage.specs.Paths.{first_operation, operation_of, carries}
use Rattle.lineage.specs.Accesses.{reaches, gives, is_access, word_of, access_words}
use Rattle.lineage.specs.Answers.{plan_length_holds, row_tests, plan_tests}

-- Rows of a plan

abbrev pub column : ℕ → List ℕ
column c = 1 ∷ c ∷ 0 ∷ 0 ∷ []

abbrev pub apply : ℕ → ℕ → List ℕ
apply f b = 2 ∷ f ∷ b ∷ 255 ∷ []

abbrev pub apply_both : ℕ → ℕ → ℕ → List ℕ
apply_both f b c = 2 ∷ f ∷ b ∷ c ∷ []

abbrev pub choose : ℕ → ℕ → ℕ → List ℕ
choose a b c = 3 ∷ a ∷ b ∷ c ∷ []

abbrev pub output : ℕ → List ℕ
output a = 4 ∷ a ∷ 0 ∷ 0 ∷ []

abbrev pub condition : ℕ → List ℕ
condition a = 5 ∷ a ∷ 0 ∷ 0 ∷ []

unfoldable pub plan : List (List ℕ) → List ℕ
plan [] = []
plan (row ∷ rows) = row ++ plan rows

-- the shop's columns and functions
abbrev pub state : List ℕ
state = column 0

abbrev pub city : List ℕ
city = column 1

abbrev pub price : List ℕ
price = column 2

abbrev pub unlabelled : List ℕ
unlabelled = column 3

abbrev pub concat : ℕ → List ℕ
concat = apply 0

abbrev pub concat_both : ℕ → ℕ → List ℕ
concat_both = apply_both 0

abbrev pub avg_both : ℕ → ℕ → List ℕ
avg_both = apply_both 1

abbrev pub avg : ℕ → List ℕ
avg = apply 1

abbrev pub sum : ℕ → List ℕ
sum = apply 2

-- The accesses of a plan

-- action, label, operation
abbrev pub Access : Type 0
Access = ℕ × ℕ × ℕ

-- both actions, the shop's five categories and 255, every operation
unfoldable pub triples : List Access
triples = map (λ n. (n / 96, get_or (0 ∷ 1 ∷ 2 ∷ 3 ∷ 4 ∷ 255 ∷ []) (n / 16 % 6) 0, n % 16)) (up_to 192)

-- those that are accesses
unfoldable pub accesses : List ℕ → List (List ℕ) → List Access
accesses head rows = keep (λ a. is_access head (plan rows) a.0 a.1 a.2) triples

-- the rows of a plan, and all its accesses
unfoldable pub cases : List (List (List ℕ) × List Access)
cases =
    -- the empty plan
    ([], [])
    -- no row that gives: a value alone is no access
    ∷ (price ∷ avg 0 ∷ [], [])
    -- the first operation of a path, and not its last: sum(avg(Price)), avg(sum(Price))
    ∷ (price ∷ avg 0 ∷ sum 1 ∷ output 2 ∷ [], (0, 4, 1) ∷ [])
    ∷ (price ∷ sum 0 ∷ avg 1 ∷ output 2 ∷ [], (0, 4, 2) ∷ [])
    -- an operation that the label does not support: avg(State)
    ∷ (state ∷ avg 0 ∷ output 1 ∷ [], (0, 2, 0) ∷ [])
    -- an operation 0 does not stop the count: avg(concat(Price))
    ∷ (price ∷ concat 0 ∷ avg 1 ∷ output 2 ∷ [], (0, 4, 1) ∷ [])
    -- each path has its own operation: avg(Choose on City between State and Price)
    ∷ (state ∷ price ∷ city ∷ choose 2 0 1 ∷ avg 3 ∷ output 4 ∷ [], (0, 2, 0) ∷ (0, 4, 1) ∷ (1, 3, 0) ∷ [])
    -- a of Choose is no path but a condition: Choose on Price between State and City
    ∷ (price ∷ state ∷ city ∷ choose 0 1 2 ∷ output 3 ∷ [], (0, 2, 0) ∷ (0, 3, 0) ∷ (1, 4, 0) ∷ [])
    -- the same, unused
    ∷ (price ∷ state ∷ city ∷ choose 0 1 2 ∷ [], (1, 4, 0) ∷ [])
    -- what is applied to a Choose is on the paths of b and c alone: sum(Choose on Price between State and Price)
    ∷ (price ∷ state ∷ choose 0 1 0 ∷ sum 2 ∷ output 3 ∷ [], (0, 2, 0) ∷ (0, 4, 2) ∷ (1, 4, 0) ∷ [])
    -- a condition is no projection
    ∷ (state ∷ price ∷ output 0 ∷ condition 1 ∷ [], (0, 2, 0) ∷ (1, 4, 0) ∷ [])
    -- nor does it take one's place
    ∷ (price ∷ output 0 ∷ condition 0 ∷ [], (0, 4, 0) ∷ (1, 4, 0) ∷ [])
    -- an unlabelled column
    ∷ (unlabelled ∷ output 0 ∷ condition 0 ∷ [], [])
    -- one row used twice: Price output twice
    ∷ (price ∷ output 0 ∷ output 0 ∷ [], (0, 4, 0) ∷ [])
    -- an operation does not take the raw value's access away: Price and avg(Price)
    ∷ (price ∷ avg 0 ∷ output 0 ∷ output 1 ∷ [], (0, 4, 0) ∷ (0, 4, 1) ∷ [])
    ∷ []

-- the same for plans that have an Apply with two rows
unfoldable pub mixing : List (List (List ℕ) × List Access)
mixing =
    -- nothing above it counts: avg(concat(State, Price)), sum(avg(concat(State, Price)))
    (state ∷ price ∷ concat_both 0 1 ∷ avg 2 ∷ output 3 ∷ [], (0, 2, 0) ∷ (0, 4, 0) ∷ [])
    ∷ (state ∷ price ∷ concat_both 0 1 ∷ avg 2 ∷ sum 3 ∷ output 4 ∷ [], (0, 2, 0) ∷ (0, 4, 0) ∷ [])
    -- also through a Choose: avg(Choose on City between City and concat(State, Price))
    ∷ (
      state ∷ price ∷ city ∷ concat_both 0 1 ∷ choose 2 2 3 ∷ avg 4 ∷ output 5 ∷ [],
      (0, 2, 0) ∷ (0, 3, 0) ∷ (0, 4, 0) ∷ (1, 3, 0) ∷ [],
    )
    -- what counted below it still counts, on either side: concat(avg(Price), State), sum(concat(State, avg(Price)))
    ∷ (price ∷ avg 0 ∷ state ∷ concat_both 1 2 ∷ output 3 ∷ [], (0, 2, 0) ∷ (0, 4, 1) ∷ [])
    ∷ (price ∷ avg 0 ∷ state ∷ concat_both 2 1 ∷ sum 3 ∷ output 4 ∷ [], (0, 2, 0) ∷ (0, 4, 1) ∷ [])
    -- below two of them: concat(concat(avg(Price), State), City)
    ∷ (
      price ∷ avg 0 ∷ state ∷ city ∷ concat_both 1 2 ∷ concat_both 4 3 ∷ output 5 ∷ [],
      (0, 2, 0) ∷ (0, 3, 0) ∷ (0, 4, 1) ∷ [],
    )
    -- but not between them: concat(avg(concat(State, Price)), City)
    ∷ (
      state ∷ price ∷ city ∷ concat_both 0 1 ∷ avg 3 ∷ concat_both 4 2 ∷ output 5 ∷ [],
      (0, 2, 0) ∷ (0, 3, 0) ∷ (0, 4, 0) ∷ [],
    )
    -- it does not count itself, though its operation is supported: avg(Price, State); avg(Price, Price), where c = b
    ∷ (price ∷ state ∷ avg_both 0 1 ∷ output 2 ∷ [], (0, 2, 0) ∷ (0, 4, 0) ∷ [])
    ∷ (price ∷ avg_both 0 0 ∷ output 1 ∷ [], (0, 4, 0) ∷ [])
    -- c = b has two rows: avg(concat(Price, Price))
    ∷ (price ∷ concat_both 0 0 ∷ avg 1 ∷ output 2 ∷ [], (0, 4, 0) ∷ [])
    -- as a of Choose, whose own paths are those of b and c: Choose on concat(State, Price) between City and avg(Price)
    ∷ (
      state ∷ price ∷ concat_both 0 1 ∷ city ∷ avg 1 ∷ choose 2 3 4 ∷ output 5 ∷ [],
      (0, 3, 0) ∷ (0, 4, 1) ∷ (1, 2, 0) ∷ (1, 4, 0) ∷ [],
    )
    -- a label on two paths to a row, mixed on one: avg(Choose on State between Price and concat(State, Price))
    ∷ (
      state ∷ price ∷ concat_both 0 1 ∷ choose 0 1 2 ∷ avg 3 ∷ output 4 ∷ [],
      (0, 2, 0) ∷ (0, 4, 0) ∷ (0, 4, 1) ∷ (1, 2, 0) ∷ [],
    )
    -- each path counts its own rows: sum(concat(Price, avg(Price))) output, and the concat as condition
    ∷ (
      price ∷ avg 0 ∷ concat_both 0 1 ∷ sum 2 ∷ output 3 ∷ condition 2 ∷ [],
      (0, 4, 0) ∷ (0, 4, 1) ∷ (1, 4, 0) ∷ (1, 4, 1) ∷ [],
    )
    ∷ []

pub shop_accesses :
    ◌≡◌ {A = List (List Access)} (map (λ c. accesses (head_of shop) c.0) cases) (map (λ c. c.1) cases)
unfolding plan triples keep accesses cases any up_to from has upward_in upward support_along support less
    category_start withdrawn_operations support_of supports weighted check_sum with_check seal_bytes answered refused_or
    seal_tests first_failing padded block users categories columns functions shop kind_of kind_at applied_as through
    paths_by paths_in paths labels takes counting first_operation operation_of carries reaches gives is_access
shop_accesses = refl

pub mixing_accesses :
    ◌≡◌ {A = List (List Access)} (map (λ c. accesses (head_of shop) c.0) mixing) (map (λ c. c.1) mixing)
unfolding plan triples keep accesses mixing any up_to from has upward_in upward support_along support less
    category_start withdrawn_operations support_of supports weighted check_sum with_check seal_bytes answered refused_or
    seal_tests first_failing padded block users categories columns functions shop kind_of kind_at applied_as through
    paths_by paths_in paths labels takes counting first_operation operation_of carries reaches gives is_access
mixing_accesses = refl

-- an unsupported operation does not stop the count either: a fourth function, of operation 3, below avg
pub passed_over :
    ◌≡◌ {A = List Access}
    (accesses (take 1536 shop ++ (4 ∷ 4 ∷ 0 ∷ 1 ∷ 2 ∷ 3 ∷ [])) (price ∷ apply 3 0 ∷ avg 1 ∷ output 2 ∷ []))
    ((0, 4, 1) ∷ [])
unfolding plan triples keep accesses any up_to from has upward_in upward support_along support less category_start
    withdrawn_operations support_of supports weighted check_sum with_check seal_bytes answered refused_or seal_tests
    first_failing padded block users categories columns functions shop kind_of kind_at applied_as through paths_by paths_in
    paths labels takes counting first_operation operation_of carries reaches gives is_access
passed_over = refl

-- each of the cases' plans is accepted
pub shop_plans :
    ◌≡◌ {A = List Outcome}
    (map (λ c. first_failing (plan_tests (head_of shop) (plan c.0))) cases)
    (map (λ c. Ok tt) cases)
unfolding plan cases up_to from weighted check_sum with_check seal_bytes answered refused_or seal_tests first_failing padded
    block users categories columns functions shop kind_of kind_at is_value names sound_as row_holds flat plan_length_holds
    row_tests plan_tests
shop_plans = refl

pub mixing_plans :
    ◌≡◌ {A = List Outcome}
    (map (λ c. first_failing (plan_tests (head_of shop) (plan c.0))) mixing)
    (map (λ c. Ok tt) mixing)
unfolding plan mixing up_to from weighted check_sum with_check seal_bytes answered refused_or seal_tests first_failing padded
    block users categories columns functions shop kind_of kind_at is_value names sound_as row_holds flat plan_length_holds
    row_tests plan_tests
mixing_plans = refl

-- bit d of word 16 × s + k: avg(Price) output, and Choose on sum(Price) between State and City output
pub shop_words :
    ◌≡◌ {A = List ℕ}
    (access_words (head_of shop)
    (plan (price ∷ avg 0 ∷ sum 0 ∷ state ∷ city ∷ choose 2 3 4 ∷ output 1 ∷ output 5 ∷ [])))
    (12 ∷ 16 ∷ (replicate 16 0 ++ (16 ∷ replicate 13 0)))
unfolding plan any up_to from has upward_in upward support_along support less category_start withdrawn_operations
    support_of supports weighted check_sum with_check seal_bytes answered refused_or seal_tests first_failing padded block
    users categories columns functions shop kind_of kind_at applied_as through paths_by paths_in paths labels takes
    counting first_operation operation_of carries reaches gives is_access word_of access_words
shop_words = refl
