-- The tables are those of the book. Assumes nothing.
use native.Mathlib.Omega.{arith}
use borrow.Author.Rules.{rules}
use Rattle.verdicts.proofs.Sound.{few_rules_law}
use Rattle.editing.proofs.MarkingLaws.{among_none}
use Rattle.editing.proofs.marking.idle_among.Goals as goal

pub returns-then-asked-eq0 : goal.returns-then-asked-eq0
returns-then-asked-eq0 c held accepted = among_none c.args.book.now c.args.asked _ c.if-asked-eq0.true

pub invariant_of-tables : goal.invariant_of-tables
invariant_of-tables c =
    record {
      of = λ words.
          let few = few_rules_law c.args.book.now words.accepted in
          let count = c.rule_count-n.ensures.0 few in
          record {
            sound = c.fill_table.ensures.sound words.accepted;
            tables = rw count at (c.fill_table.ensures.tables words.held (omega (arith, count, few)) (search rules));
            hads = rw c.head_of.ensures at c.obtainable-had.ensures;
            covers = rw count at (c.covered_by-covered.ensures words.held);
          };
    }

pub returns : goal.returns
returns c held accepted = c.idle_by.ensures (record { held = held; accepted = accepted })
