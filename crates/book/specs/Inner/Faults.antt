-- What a faulty rule block is refused for, as a refusal of block i. Assumes nothing.
use Rattle.std.specs.Prelude.{ℕ, Result, Ok, Err}
use Rattle.book.specs.Tests.{Outcome}
use Rattle.book.specs.declared.refusal.Refusal.{Refusal}
use Rattle.book.specs.declared.refusal.Refusal.TheVariants as refusal
use Rattle.book.specs.declared.rule_tests.RuleFault.{RuleFault}
use Rattle.book.specs.declared.rule_tests.RuleFault.TheVariants.{CountOrZero, RuleNumber, SharedLeaf, MaskOperation}

abbrev pub refusal_at : (i : ℕ) → RuleFault → Refusal
refusal_at i CountOrZero = refusal.CountOrZero i
refusal_at i RuleNumber = refusal.RuleNumber i
refusal_at i SharedLeaf = refusal.SharedLeaf i
refusal_at i MaskOperation = refusal.MaskOperation i

abbrev pub outcome_at : (i : ℕ) → Result (Unit {0}) RuleFault → Outcome
outcome_at i (Ok done) = Ok done
outcome_at i (Err fault) = Err (refusal_at i fault)
