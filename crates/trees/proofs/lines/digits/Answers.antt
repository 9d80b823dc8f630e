-- One digit below 10, two from 10 on. Assumes nothing.
use Rattle.trees.proofs.LineLaws.{decimal_length_one, decimal_length_two}
use mathlib.Core.Path.{sym}
use borrow.Author.Rules.{rules}
use Rattle.trees.proofs.lines.digits.Goals as goal

pub returns-then-row-lt10 : goal.returns-then-row-lt10
returns-then-row-lt10 c = (sym (decimal_length_one _ c.if-row-lt10.true), search rules)

pub returns-else-row-lt10 : goal.returns-else-row-lt10
returns-else-row-lt10 c = (sym (decimal_length_two _ c.if-row-lt10.false), search rules)
