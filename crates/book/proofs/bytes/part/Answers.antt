-- Past the end the part is empty; where fewer than count bytes are left it is all of them. Assumes nothing.
use Rattle.book.proofs.Lists.{part_past, part_rest, part_whole}
use Rattle.book.proofs.bytes.part.Goals as goal

pub returns-then-s-start : goal.returns-then-s-start
returns-then-s-start c = let a = c.args in part_past a.s.now a.start a.count c.if-s-start.true

pub returns-then-s-start-2 : goal.returns-then-s-start-2
returns-then-s-start-2 c =
    let a = c.args in
    part_rest a.s.now a.start a.count c.if-s-start-2.true

pub returns : goal.returns
returns c = let a = c.args in part_whole a.s.now a.start a.count
