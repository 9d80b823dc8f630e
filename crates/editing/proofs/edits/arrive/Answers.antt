-- A refusal changes nothing (`arrive_refused`); where the tests pass, the mask is that of the new book (`arrive_marked`).
-- The rest is what the equations promise. Assumes nothing.
use Rattle.std.proofs.Common.{rules, ◌+◌, ◌∙◌, sym, Ok, Err}
use Rattle.editing.proofs.CallLaws.{arrive_continues, arrive_marked, arrive_passed, arrive_refused, arrive_says, ArriveEquals}
use Rattle.editing.proofs.CallLaws.{early_refused, late_passed, late_refused}
use Rattle.editing.proofs.edits.arrive.Goals as goal
use Rattle.editing.proofs.edits.arrive.Goals.{After-from_residual, After-from_residual-in_err-book, After-copy_from_slice}

-- the four equations, where a test before the book refuses
early :
    (c : After-from_residual)
    → let a = c.args in
    ArriveEquals a.blocks.now a.rules.now a.marks.now a.block.now (Err c.in_err-lay_with.field-0.0) a.blocks.now a.rules.now a.marks.now
early c =
    let a = c.args in
    arrive_refused a.blocks.now a.rules.now a.marks.now a.block.now _
    (early_refused a.blocks.now a.rules.now a.marks.now a.block.now _ (sym c.lay_with.ensures.tested ∙ c.in_err-lay_with.was))

pub returns-in_err-lay_with-clause-answer : goal.returns-in_err-lay_with-clause-answer
returns-in_err-lay_with-clause-answer c =
    let e = (early c).0 in
    search rules

pub returns-in_err-lay_with-clause-blocks : goal.returns-in_err-lay_with-clause-blocks
returns-in_err-lay_with-clause-blocks c =
    let e = (early c).1 in
    search rules

pub returns-in_err-lay_with-clause-rules : goal.returns-in_err-lay_with-clause-rules
returns-in_err-lay_with-clause-rules c =
    let e = (early c).2 in
    search rules

pub returns-in_err-lay_with-clause-marks : goal.returns-in_err-lay_with-clause-marks
returns-in_err-lay_with-clause-marks c =
    let e = (early c).3 in
    search rules

pub returns-in_err-lay_with-clause-says : goal.returns-in_err-lay_with-clause-says
returns-in_err-lay_with-clause-says c =
    let a = c.args in
    arrive_says a.blocks.now a.rules.now a.marks.now a.block.now (search rules) _ (returns-in_err-lay_with-clause-marks c)

pub returns-in_err-lay_with-clause-continues : goal.returns-in_err-lay_with-clause-continues
returns-in_err-lay_with-clause-continues c =
    let a = c.args in
    arrive_continues a.blocks.now a.rules.now a.marks.now a.block.now _ _ _ (returns-in_err-lay_with-clause-blocks c) (returns-in_err-lay_with-clause-rules c) (returns-in_err-lay_with-clause-marks c)

-- where one of the new book does
late :
    (c : After-from_residual-in_err-book)
    → let a = c.args in
    ArriveEquals a.blocks.now a.rules.now a.marks.now a.block.now (Err c.in_err-book.field-0.0) a.blocks.now a.rules.now a.marks.now
late c =
    let a = c.args in
    arrive_refused a.blocks.now a.rules.now a.marks.now a.block.now _
    (late_refused a.blocks.now a.rules.now a.marks.now a.block.now (search rules)
    (sym c.lay_with.ensures.tested ∙ c.in_ok-lay_with.was) _ (c.lay_with.ensures.lies c.in_ok-lay_with.was) _
    c.in_err-book.ensures.refused)

pub returns-in_err-book-clause-answer : goal.returns-in_err-book-clause-answer
returns-in_err-book-clause-answer c =
    let e = (late c).0 in
    search rules

pub returns-in_err-book-clause-blocks : goal.returns-in_err-book-clause-blocks
returns-in_err-book-clause-blocks c =
    let e = (late c).1 in
    search rules

pub returns-in_err-book-clause-rules : goal.returns-in_err-book-clause-rules
returns-in_err-book-clause-rules c =
    let e = (late c).2 in
    search rules

pub returns-in_err-book-clause-marks : goal.returns-in_err-book-clause-marks
returns-in_err-book-clause-marks c =
    let e = (late c).3 in
    search rules

pub returns-in_err-book-clause-says : goal.returns-in_err-book-clause-says
returns-in_err-book-clause-says c =
    let a = c.args in
    arrive_says a.blocks.now a.rules.now a.marks.now a.block.now (search rules) _ (returns-in_err-book-clause-marks c)

pub returns-in_err-book-clause-continues : goal.returns-in_err-book-clause-continues
returns-in_err-book-clause-continues c =
    let a = c.args in
    arrive_continues a.blocks.now a.rules.now a.marks.now a.block.now _ _ _ (returns-in_err-book-clause-blocks c) (returns-in_err-book-clause-rules c) (returns-in_err-book-clause-marks c)

-- where none does
passed :
    (c : After-copy_from_slice)
    → let a = c.args in
    ArriveEquals a.blocks.now a.rules.now a.marks.now a.block.now (Ok c.arrival_marks-mask.result) c.lay_with.new.next (a.rules.now + 1) c.arrival_marks-mask.result
passed c =
    let a = c.args in
    let early = sym c.lay_with.ensures.tested ∙ c.in_ok-lay_with.was in
    let lies = c.lay_with.ensures.lies c.in_ok-lay_with.was in
    let book = c.in_ok-book in
    let passes =
    late_passed a.blocks.now a.rules.now a.marks.now a.block.now (search rules) early _ lies (rw book.ensures.bytes at book.book.accepted) in
    let mask =
    arrive_marked a.blocks.now a.rules.now a.marks.now a.block.now (search rules) early _ lies _
    (rw book.ensures.bytes at (c.arrival_marks-mask.ensures book.book.told book.book.accepted)) in
    let e = arrive_passed a.blocks.now a.rules.now a.marks.now a.block.now passes in
    (rw mask e.0, lies ∙ e.1, e.2, rw mask e.3)

pub returns-clause-answer : goal.returns-clause-answer
returns-clause-answer c =
    let e = (passed c).0 in
    search rules

pub returns-clause-blocks : goal.returns-clause-blocks
returns-clause-blocks c =
    let e = (passed c).1 in
    search rules

pub returns-clause-rules : goal.returns-clause-rules
returns-clause-rules c =
    let e = (passed c).2 in
    search rules

pub returns-clause-marks : goal.returns-clause-marks
returns-clause-marks c =
    let e = (passed c).3 in
    search rules

pub returns-clause-says : goal.returns-clause-says
returns-clause-says c =
    let a = c.args in
    arrive_says a.blocks.now a.rules.now a.marks.now a.block.now (search rules) _ (returns-clause-marks c)

pub returns-clause-continues : goal.returns-clause-continues
returns-clause-continues c =
    let a = c.args in
    arrive_continues a.blocks.now a.rules.now a.marks.now a.block.now _ _ _ (returns-clause-blocks c) (returns-clause-rules c) (returns-clause-marks c)
