-- The tables say what the book says, so what the search finds is the first (`needs_first`). Assumes nothing.
use native.Mathlib.Omega.{arith}
use Rattle.std.proofs.Common.{rules}
use Rattle.verdicts.proofs.Sound.{few_rules_law}
use Rattle.search.proofs.IdleLaws.{needs_first}
use Rattle.search.proofs.idling.needs.Goals as goal

pub returns : goal.returns
returns c l =
    let a = c.args in
    let book = a.book.now in
    let few = few_rules_law book.bytes.now book.accepted in
    let count = c.rule_count-n.ensures in
    let filled = c.fill_table in
    let references = c.reference_count in
    let had = c.obtainable-had in
    let covered = c.covered_by-covered in
    let found = c.first_user-found in
    needs_first book.bytes.now book.accepted (filled.ensures.sound book.accepted) a.rule l
    c.rule.result.now c.head.result.now c.rule.ensures c.head.ensures references.result references.ensures.0
    filled.new.tables had.result covered.result
    (rw count at (filled.ensures.tables book.told (omega (arith, count, few)) (search rules)))
    had.ensures (rw count at (covered.ensures book.told))
    c.fewest.result (c.fewest.ensures found.ensures)
