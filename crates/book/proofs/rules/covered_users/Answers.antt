-- The definition, opened: the users that the rule's category covers. Assumes nothing.
use Rattle.book.specs.Head.{is_user, user_count, user_parent}
use Rattle.book.specs.Rule.{covers_user}
use Rattle.book.proofs.rules.covered_users.Goals as goal

pub returns : goal.returns
unfolding covers_user is_user
returns c head w =
    rw (c.user_category.ensures.0, c.excluded_users.ensures)
    at (c.covered_leaves.ensures (user_count head) (user_parent head) w.users)
