-- The words of a cell's places, four in each: the law `pair_words`. Assumes nothing.
use Rattle.blocked.proofs.CellLaws.{pair_words}
use Rattle.blocked.proofs.rows.second_pairs.Goals as goal

pub returns : goal.returns
returns c l =
    let args = c.args in
    let word = c.cell_word-word in
    let first = c.spread in
    let second = c.spread-2 in
    let third = c.spread-3 in
    pair_words args.seconds.now args.m word.result
    first.result second.result third.result c.spread-4.result
    (word.ensures.members l) first.ensures second.ensures third.ensures c.spread-4.ensures
