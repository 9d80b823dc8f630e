-- One, two or three references. Assumes nothing.
use Rattle.blocked.proofs.CallLaws.{answer_one, answer_two, answer_three}
use Rattle.blocked.proofs.calls.closed.Goals as goal

pub returns-then-denial-ge128 : goal.returns-then-denial-ge128
returns-then-denial-ge128 c stands =
    let d = c.args.denial in
    rw c.from-user.ensures
    (answer_one d.user d.first d.second d.third stands c.if-denial-ge128.true c.datum_byte.result c.datum_byte.ensures)

pub returns-then-denial-ge128-2 : goal.returns-then-denial-ge128-2
returns-then-denial-ge128-2 c stands =
    let d = c.args.denial in
    let first = c.datum_byte-then-denial-ge128-2 in
    let second = c.datum_byte-then-denial-ge128-2-2 in
    rw c.from-user.ensures
    (answer_two d.user d.first d.second d.third stands c.if-denial-ge128.false c.if-denial-ge128-2.true
    first.result second.result first.ensures second.ensures)

pub returns : goal.returns
returns c stands =
    let d = c.args.denial in
    rw c.from-user.ensures
    (answer_three d.user d.first d.second d.third stands c.if-denial-ge128.false c.if-denial-ge128-2.false
    c.datum_byte-2.result c.datum_byte-3.result c.datum_byte-4.result c.datum_byte-2.ensures c.datum_byte-3.ensures
    c.datum_byte-4.ensures)
