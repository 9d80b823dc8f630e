-- The table is right for an accepted plan, and the words are determined by their members (`access_words_law`). Assumes
-- nothing.
use Rattle.std.proofs.Common.{refl, arith, get_or, Fits, w64}
use borrow.Author.Rules.{rules}
use Rattle.book.specs.Blocks.{head_of}
use Rattle.book.proofs.Accepted.{accepted_head}
use Rattle.lineage.specs.Rows.{row_count}
use Rattle.lineage.specs.Accesses.{is_access}
use Rattle.lineage.specs.Inner.Table.{Reached}
use Rattle.lineage.proofs.Accepted.{accepted_plan, plan_sound, plan_given}
use Rattle.lineage.proofs.Words.{access_words_law}
use Rattle.lineage.proofs.accesses.accesses.Goals as goal

pub returns-in_default : goal.returns-in_default
returns-in_default c told both =
    let p = accepted_plan (head_of c.args.book.now) c.args.plan.now both.1 in
    absurd (c.in_default.ensures (omega (arith, p.short)))

pub returns : goal.returns
unfolding is_access
returns c told both =
    let a = c.args in
    let filled = c.fill_reach in
    let given = c.gathered in
    let head = head_of a.book.now in
    let b = accepted_head a.book.now both.0 in
    let p = accepted_plan head a.plan.now both.1 in
    let sound = plan_sound head a.plan.now b p in
    let table : Reached head a.plan.now (row_count a.plan.now) filled.new.reach =
    (rw (c.head_of.ensures, c.in-Ok.ensures.1) at filled.ensures) told sound (omega (arith, p.short)) refl in
    access_words_law head a.plan.now given.result (search rules)
    (λ w h. let f : Fits w64 (get_or given.result w 0) = search rules in f.fits)
    ((rw c.in-Ok.ensures.1 at given.ensures) head sound table (plan_given head a.plan.now b p))
