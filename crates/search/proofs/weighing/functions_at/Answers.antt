-- By the operation. Assumes nothing.
use native.Mathlib.Omega.{arith}
use mathlib.Core.Path.{sym}
use Rattle.search.proofs.WeightLaws.{functions_none, functions_one}
use Rattle.search.proofs.weighing.functions_at.Goals as goal

pub returns-then-p-eq0 : goal.returns-then-p-eq0
returns-then-p-eq0 c = (sym (functions_none c.args.p c.if-p-eq0.true), omega arith)

pub returns-else-p-eq0 : goal.returns-else-p-eq0
returns-else-p-eq0 c = (sym (functions_one c.args.p c.if-p-eq0.false), omega arith)
