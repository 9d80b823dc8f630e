-- A row for the column, one for an operation that is not 0, and the last. Assumes nothing.
use native.Mathlib.Omega.{arith}
use Rattle.search.proofs.PlaceLaws.{rows_nowhere, rows_plain, rows_applied}
use borrow.Author.Rules.{rules}
use Rattle.search.proofs.places.rows_at.Goals as goal

pub returns-then-p-ge-NOWHERE : goal.returns-then-p-ge-NOWHERE
returns-then-p-ge-NOWHERE c = (rows_nowhere c.args.p (omega arith), omega arith)

pub returns-then-p-eq0 : goal.returns-then-p-eq0
returns-then-p-eq0 c = (rows_plain c.args.p (omega arith) (omega arith), omega arith)

pub returns : goal.returns
returns c = (rows_applied c.args.p (omega arith) (search rules), omega arith)
