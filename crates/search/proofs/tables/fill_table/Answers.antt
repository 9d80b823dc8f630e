-- One rule a turn; a caller's tables have room for the first 32. The rules of an accepted book are sound, as its bytes are
-- bytes (`rules_sound`). Assumes nothing.
use native.Mathlib.Omega.{arith}
use Rattle.std.proofs.Common.{Fits, w8, get_or}
use borrow.Author.Rules.{rules}
use Rattle.book.specs.Blocks.{head_of}
use Rattle.verdicts.proofs.Sound.{rules_sound}
use Rattle.search.proofs.RuleWords.{rules_none, rules_more, table_holds}
use Rattle.search.proofs.tables.fill_table.Goals as goal

pub loop-q-init : goal.loop-q-init
loop-q-init c held few size = rules_none c.args.book.now c.args.tables.now size

pub loop-q-preserved : goal.loop-q-preserved
loop-q-preserved c held few size =
    let book = c.args.book.now in
    let loop = c.loop-q in
    rw c.from-in-loop-q.ensures
    (rules_more book loop.tables loop.q c.rule_table.result (omega (arith, c.loop-q-test.true))
    (rw c.rule_at.ensures at (c.rule_table.ensures (head_of book) held)) (loop.invariant held few size))

pub returns-clause-tables : goal.returns-clause-tables
returns-clause-tables c held few size =
    let a = c.args in
    let loop = c.loop-q in
    table_holds a.book.now a.n loop.tables loop.q (loop.invariant held few size) (omega (arith, c.loop-q-test.false))

pub returns-clause-sound : goal.returns-clause-sound
returns-clause-sound c accepted q l =
    let book = c.args.book.now in
    rules_sound book accepted (λ i. let f : Fits w8 (get_or book i 0) = search rules in f.fits) q l

pub returns-then-tables-from-clause-sound : goal.returns-then-tables-from-clause-sound
returns-then-tables-from-clause-sound c accepted q l =
    let book = c.args.book.now in
    rules_sound book accepted (λ i. let f : Fits w8 (get_or book i 0) = search rules in f.fits) q l
