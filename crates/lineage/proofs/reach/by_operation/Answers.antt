-- The first sixteen words are the row's, and word 16 is joined to word 0. Assumes nothing.
use Rattle.std.proofs.Common.{sym, []}
use Rattle.lineage.proofs.Steps.{by_operation_of}
use Rattle.lineage.proofs.reach.by_operation.Goals as goal

pub returns-in-Some : goal.returns-in-Some
returns-in-Some c =
    let row = c.in-Some.row.now in
    by_operation_of c.args.reach.now row c.copy_from_slice.new.self c.args.r
    (rw c.from.ensures at (sym (c.in-Some.ensures.lookup.3.1 [])))
    c.copy_from_slice.ensures.len c.copy_from_slice.ensures.after
