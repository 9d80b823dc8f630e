-- Each number is the field of its definition; the law `proper_all` says what its test is. Assumes nothing.
use Rattle.std.proofs.Common.{◌∙◌}
use Rattle.book.specs.Head.{user_count, user_parent}
use Rattle.book.specs.Refusals.{user_numbers_hold}
use Rattle.book.proofs.References.{proper_all}
use Rattle.book.proofs.rule_tests.user_numbers_hold.Goals as goal

pub returns : goal.returns
unfolding user_numbers_hold
returns c head w =
    let all =
    c.all_proper.ensures
    ∙ proper_all (user_count head) (user_parent head) c.user_category-c.result c.under.result
    c.excluded_users.result.now w.counts.users (c.under.ensures (user_count head) (user_parent head) w.told.users) in
    rw (← c.user_category-c.ensures.0, ← c.excluded_users.ensures, ← all, c.from.ensures, w.told.users.number)
