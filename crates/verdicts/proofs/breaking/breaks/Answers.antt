-- A word of offers that is empty leaves no choice; otherwise the law `refused_by_words`. Assumes nothing.
use native.Mathlib.Omega.{arith}
use mathlib.Core.Path.{sym, ◌∙◌}
use Rattle.verdicts.specs.Accesses.{held_by}
use Rattle.verdicts.proofs.ChoiceWords.{none_first, none_second, none_third, refused_by_words}
use Rattle.verdicts.proofs.breaking.breaks.Goals as goal

pub returns-then-first-eq0 : goal.returns-then-first-eq0
returns-then-first-eq0 c head held sound =
    let first = c.offered-first in
    let a = c.args in
    sym
    (none_first head a.rule.now (held_by a.accesses.now) sound first.result (first.ensures head held sound)
    c.if-first-eq0.true)

pub returns-then-second-eq0 : goal.returns-then-second-eq0
returns-then-second-eq0 c head held sound =
    let second = c.offered-second in
    let a = c.args in
    sym
    (none_second head a.rule.now (held_by a.accesses.now) sound second.result (second.ensures head held sound)
    c.if-second-eq0.true)

pub returns-then-third-eq0 : goal.returns-then-third-eq0
returns-then-third-eq0 c head held sound =
    let third = c.offered-third in
    let a = c.args in
    sym
    (none_third head a.rule.now (held_by a.accesses.now) sound third.result (third.ensures head held sound)
    c.if-third-eq0.true)

pub returns : goal.returns
returns c head held sound =
    let masks = c.taken in
    let third = c.offered-third in
    let second = c.offered-second in
    let first = c.offered-first in
    let a = c.args in
    c.some_refused.ensures
    ∙ refused_by_words head a.rule.now (held_by a.accesses.now) sound masks.result first.result
    second.result third.result (masks.ensures (omega (arith, sound.whole)) sound.restrictions)
    (first.ensures head held sound) (second.ensures head held sound) (third.ensures head held sound)
