-- A refusal changes nothing (`depart_refused`). Where the tests pass, the book without the rule is accepted and has the old
-- head (`departure_told`), and the mask is its own (`depart_marked`). The rest is what the equations promise.
-- Assumes nothing.
use Rattle.std.proofs.Common.{rules, arith, ◌≡◌, ◌-◌, ◌∙◌, sym, length, Ok, Err}
use lib.Seq.{length-take-le}
use Rattle.editing.proofs.CallLaws.{depart_continues, depart_marked, depart_passed, depart_refused, depart_says, DepartEquals}
use Rattle.editing.proofs.CallLaws.{depart_there, departure_accepted, departure_told}
use Rattle.editing.proofs.edits.depart.Goals as goal
use Rattle.editing.proofs.edits.depart.Goals.{After-from_residual, After-copy_from_slice}

-- the four equations, where a test refuses
refused :
    (c : After-from_residual)
    → let a = c.args in
    DepartEquals a.blocks.now a.rules.now a.marks.now a.rule (Err c.in_err-words.field-0.0) a.blocks.now a.rules.now a.marks.now
refused c =
    let a = c.args in
    depart_refused a.blocks.now a.rules.now a.marks.now a.rule _ c.in_err-words.ensures.refused

pub returns-in_err-words-clause-answer : goal.returns-in_err-words-clause-answer
returns-in_err-words-clause-answer c =
    let e = (refused c).0 in
    search rules

pub returns-in_err-words-clause-blocks : goal.returns-in_err-words-clause-blocks
returns-in_err-words-clause-blocks c =
    let e = (refused c).1 in
    search rules

pub returns-in_err-words-clause-rules : goal.returns-in_err-words-clause-rules
returns-in_err-words-clause-rules c =
    let e = (refused c).2 in
    search rules

pub returns-in_err-words-clause-marks : goal.returns-in_err-words-clause-marks
returns-in_err-words-clause-marks c =
    let e = (refused c).3 in
    search rules

pub returns-in_err-words-clause-says : goal.returns-in_err-words-clause-says
returns-in_err-words-clause-says c =
    let a = c.args in
    depart_says a.blocks.now a.rules.now a.marks.now a.rule _ (returns-in_err-words-clause-marks c)

pub returns-in_err-words-clause-continues : goal.returns-in_err-words-clause-continues
returns-in_err-words-clause-continues c =
    let a = c.args in
    depart_continues a.blocks.now a.rules.now a.marks.now a.rule _ _ _ (returns-in_err-words-clause-blocks c) (returns-in_err-words-clause-rules c) (returns-in_err-words-clause-marks c)

-- what is accepted has a rule to leave
pub slice_bounds-next-end : goal.slice_bounds-next-end
slice_bounds-next-end c =
    let a = c.args in
    let there = depart_there a.blocks.now a.rules.now a.marks.now a.rule (search rules) c.in_ok-words.ensures.passed in
    omega (arith, there.0, there.1)

pub slice_bounds-book-end : goal.slice_bounds-book-end
slice_bounds-book-end c =
    let a = c.args in
    let there = depart_there a.blocks.now a.rules.now a.marks.now a.rule (search rules) c.in_ok-words.ensures.passed in
    let long : length c.lay_without.new.next ≡ 18432 = search rules in
    sym (length-take-le _ c.lay_without.new.next (omega (arith, there.0, there.1)))

pub overflow_sub-record : goal.overflow_sub-record
overflow_sub-record c =
    let a = c.args in
    let there = depart_there a.blocks.now a.rules.now a.marks.now a.rule (search rules) c.in_ok-words.ensures.passed in
    omega (arith, there.0, there.1)

-- the book without the rule
pub invariant_of-book : goal.invariant_of-book
invariant_of-book c =
    let a = c.args in
    let passes = c.in_ok-words.ensures.passed in
    let size : length a.blocks.now ≡ 18432 = search rules in
    let there = depart_there a.blocks.now a.rules.now a.marks.now a.rule size passes in
    let lies = c.lay_without.ensures there.0 there.1 in
    record {
      told = departure_told a.blocks.now a.rules.now a.marks.now a.rule size passes _ lies _ c.in_ok-words.ensures.words;
      accepted = departure_accepted a.blocks.now a.rules.now a.marks.now a.rule size passes _ lies;
    }

-- where none does
passed :
    (c : After-copy_from_slice)
    → let a = c.args in
    DepartEquals a.blocks.now a.rules.now a.marks.now a.rule (Ok c.departure_marks-mask.result) c.lay_without.new.next (a.rules.now - 1) c.departure_marks-mask.result
passed c =
    let a = c.args in
    let passes = c.in_ok-words.ensures.passed in
    let there = depart_there a.blocks.now a.rules.now a.marks.now a.rule (search rules) passes in
    let lies = c.lay_without.ensures there.0 there.1 in
    let size : length a.blocks.now ≡ 18432 = search rules in
    let told = departure_told a.blocks.now a.rules.now a.marks.now a.rule size passes _ lies _ c.in_ok-words.ensures.words in
    let accepted = departure_accepted a.blocks.now a.rules.now a.marks.now a.rule size passes _ lies in
    let mask =
    depart_marked a.blocks.now a.rules.now a.marks.now a.rule size passes _ lies _ (c.departure_marks-mask.ensures told accepted) in
    let e = depart_passed a.blocks.now a.rules.now a.marks.now a.rule passes in
    (rw mask e.0, lies ∙ e.1, e.2, rw mask e.3)

pub returns-clause-answer : goal.returns-clause-answer
returns-clause-answer c =
    let e = (passed c).0 in
    search rules

pub returns-clause-blocks : goal.returns-clause-blocks
returns-clause-blocks c =
    let e = (passed c).1 in
    search rules

pub returns-clause-rules : goal.returns-clause-rules
returns-clause-rules c =
    let e = (passed c).2 in
    search rules

pub returns-clause-marks : goal.returns-clause-marks
returns-clause-marks c =
    let e = (passed c).3 in
    search rules

pub returns-clause-says : goal.returns-clause-says
returns-clause-says c =
    let a = c.args in
    depart_says a.blocks.now a.rules.now a.marks.now a.rule _ (returns-clause-marks c)

pub returns-clause-continues : goal.returns-clause-continues
returns-clause-continues c =
    let a = c.args in
    depart_continues a.blocks.now a.rules.now a.marks.now a.rule _ _ _ (returns-clause-blocks c) (returns-clause-rules c) (returns-clause-marks c)
