-- The tables say what the book says (`started`). Assumes nothing.
use native.Mathlib.Omega.{arith}
use Rattle.std.proofs.Common.{rules}
use Rattle.verdicts.proofs.Sound.{few_rules_law}
use Rattle.blocked.proofs.CallLaws.{started}
use Rattle.blocked.proofs.tables.fill.Goals as goal

pub returns : goal.returns
returns c l =
    let a = c.args in
    let book = a.book.now in
    let few = few_rules_law book.bytes.now book.accepted in
    let count = c.rule_count-n.ensures in
    let filled = c.fill_table.ensures in
    started book.bytes.now (filled.sound book.accepted) a.rule c.rule.result.now c.head.result.now
    c.rule.ensures c.head.ensures c.reference_count-references.result
    c.reference_count-references.ensures.0 c.fill_table.new.tables c.fill_met.new.met
    c.obtainable-had.result c.covered_by-tables.result c.candidates-firsts.result
    c.candidates-seconds.result c.candidates-thirds.result
    c.below-tables.result (rw count at (filled.tables book.told (omega (arith, count, few)) (search rules))) c.obtainable-had.ensures
    (rw count at (c.covered_by-tables.ensures book.told)) c.candidates-firsts.ensures c.candidates-seconds.ensures
    c.candidates-thirds.ensures
    c.fill_met.ensures (rw (c.from.ensures, count) at c.below-tables.ensures)
