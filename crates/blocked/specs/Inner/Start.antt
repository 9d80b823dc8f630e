-- What a search starts from: the tables hold what the book says. No call's promise leans on this file. Assumes nothing.
use Rattle.std.specs.Prelude.{ℕ, ◌≡◌, ◌<◌, List, ltb, replicate}
use Rattle.book.specs.Sets.{WordOf}
use Rattle.book.specs.Blocks.{Book, head_of, rule_at, rule_count}
use Rattle.book.specs.Rule.{reference_count}
use Rattle.verdicts.specs.Inner.Words.{RuleSound}
use Rattle.search.specs.Inner.Places.{PlacesOf}
use Rattle.search.specs.Inner.Table.{CoversHold, HadHolds, TableHolds}
use Rattle.search.specs.Inner.Search.{candidate}
use Rattle.blocked.specs.Inner.Pairs.{MetHolds}
use Rattle.blocked.specs.declared.tables.Tables.{Tables}

-- tables that say nothing yet: there is no rule, none covers a user, and nothing can be chosen
pub record Blank (s : Tables) : Type 0 where
  pub all_rules : s.all ≡ 0
  pub covers : s.covered ≡ replicate 32 0
  pub first : s.scope.firsts ≡ replicate 33 0
  pub second : s.scope.seconds ≡ replicate 33 0
  pub third : s.scope.thirds ≡ replicate 33 0

pub record Started (book : Book) (r : ℕ) (s : Tables) : Type 0 where
  pub sound : (q : ℕ) → q < rule_count book → RuleSound (head_of book) (rule_at book q)
  pub tables : TableHolds book (rule_count book) s.rules
  pub met_holds : MetHolds s.rules s.met
  pub all_rules : WordOf (λ q. ltb q (rule_count book)) s.all
  pub covers : CoversHold book (rule_count book) s.covered
  -- the operations that can be had, and the places of each reference
  pub had : List ℕ
  pub hads : HadHolds (head_of book) had
  pub first : PlacesOf (candidate s.rules r (reference_count (rule_at book r)) had 0) s.scope.firsts
  pub second : PlacesOf (candidate s.rules r (reference_count (rule_at book r)) had 1) s.scope.seconds
  pub third : PlacesOf (candidate s.rules r (reference_count (rule_at book r)) had 2) s.scope.thirds
