-- One reference a turn. Assumes nothing.
use Rattle.search.proofs.RuleWords.{references_more, reference_meets}
use Rattle.search.proofs.tables.rule_table.Goals as goal

pub loop-i-preserved : goal.loop-i-preserved
loop-i-preserved c head held =
    let a = c.args in
    let loop = c.loop-i in
    rw (c.from.ensures, c.from-in-loop-i.ensures)
    (references_more head a.rule.now loop.table loop.i c.reference_words.result c.restriction_words.result
    (loop.invariant head held) c.loop-i-test.true
    (record {
      meeting =
          reference_meets head a.rule.now loop.i c.leaf_set.result c.reference_words.result
          (c.leaf_set.ensures head held) c.reference_words.ensures;
      taking = c.restriction_words.ensures;
    }))
