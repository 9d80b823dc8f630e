-- Choices by the number of their functions, in the tables' terms. No call's promise leans on this file. Assumes nothing.
use Rattle.std.specs.Prelude.{ℕ, ◌+◌, ◌*◌, ◌/◌, ◌%◌, ◌≤◌, ◌<◌, ◌≡◌, Bool, false, ◌&&◌, ◌||◌, cond, List, Option, Some, None, eqb, ltb}
use Rattle.book.specs.Sets.{has}
use Rattle.search.specs.Inner.Places.{in_places}
use Rattle.search.specs.Inner.Search.{Earliest, Solved, solves, solves_in, triple_before}
use Rattle.search.specs.declared.places.Places.{Places}
use Rattle.search.specs.declared.weighing.Sets.{Sets}
use Rattle.search.specs.declared.tables.RuleTable.{RuleTable}

-- the functions of the access at a place: none for operation 0, nor for an absent reference
unfoldable pub functions_at : ℕ → ℕ
functions_at p = cond (eqb (p % 16) 0) 0 1

-- those of three places
unfoldable pub weight_at : ℕ → ℕ → ℕ → ℕ
weight_at a y x = functions_at a + (functions_at y + functions_at x)

-- fewer functions first, then document 01's order
unfoldable pub lighter_places : ℕ → ℕ → ℕ → ℕ → ℕ → ℕ → Bool
lighter_places a y x b z w =
    ltb (weight_at a y x) (weight_at b z w) || (eqb (weight_at a y x) (weight_at b z w) && triple_before a y x b z w)

-- which of three places take a function, as bits 2, 1 and 0
unfoldable pub pattern_at : ℕ → ℕ → ℕ → ℕ
pattern_at a y x = 4 * functions_at a + (2 * functions_at y + functions_at x)

-- how many of them
abbrev pub pattern_weight : ℕ → ℕ
pattern_weight k = k / 4 % 2 + (k / 2 % 2 + k % 2)

-- the places of a set with a function where a pattern's lowest bit is set, or else those without
abbrev pub PartOf : List ℕ → ℕ → List ℕ → Type 0
PartOf set pattern part =
    (p : ℕ) → in_places part p ≡ (in_places set p && eqb (functions_at p) (pattern % 2))

-- three places in three sets break r and no rule of a set
unfoldable pub solves_among : List RuleTable → ℕ → ℕ → ℕ → Sets → ℕ → ℕ → ℕ → Bool
solves_among t r n rules sets = solves_in t r n sets.firsts sets.seconds sets.thirds (has rules)

-- they do so as they do among all candidates
abbrev pub SetsFor : List RuleTable → ℕ → ℕ → List ℕ → ℕ → Sets → Type 0
SetsFor t r n had rules sets =
    (a y x : ℕ) → solves t r n had (has rules) a y x ≡ solves_among t r n rules sets a y x

-- the first three places that pass a test, or that none do
unfoldable pub FirstOf : (ℕ → ℕ → ℕ → Bool) → Option Places → Type 0
FirstOf test None = (a y x : ℕ) → test a y x ≡ false
FirstOf test (Some p) = Solved test p.first p.second p.third

-- of those with a pattern
abbrev pub FirstOfPattern : List RuleTable → ℕ → ℕ → ℕ → Sets → ℕ → Option Places → Type 0
FirstOfPattern t r n rules sets pattern found =
    pattern ≤ 7 → FirstOf (λ a y x. solves_among t r n rules sets a y x && eqb (pattern_at a y x) pattern) found

-- of those with so many functions
abbrev pub FirstOfWeight : List RuleTable → ℕ → ℕ → ℕ → Sets → ℕ → Option Places → Type 0
FirstOfWeight t r n rules sets weight =
    FirstOf (λ a y x. solves_among t r n rules sets a y x && eqb (weight_at a y x) weight)

-- the earlier of two answers to two tests answers both
abbrev pub Earlier : Option Places → Option Places → Option Places → Type 0
Earlier one other both =
    (p q : ℕ → ℕ → ℕ → Bool) → FirstOf p one → FirstOf q other → FirstOf (λ a y x. p a y x || q a y x) both

-- the first three places with as few functions as any, or that none have fewer than so many
unfoldable pub LightestOf : (ℕ → ℕ → ℕ → Bool) → ℕ → Option Places → Type 0
LightestOf test most None = (a y x : ℕ) → weight_at a y x < most → test a y x ≡ false
LightestOf test most (Some p) = Earliest lighter_places test p.first p.second p.third
