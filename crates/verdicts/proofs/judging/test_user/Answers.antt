-- The code's test is the definition's (`user_test`). Assumes nothing.
use Rattle.book.specs.Head.{is_user}
use Rattle.verdicts.specs.Answers.{user_tests}
use Rattle.verdicts.proofs.Users.{user_test}
use Rattle.verdicts.proofs.judging.test_user.Goals as goal

pub returns : goal.returns
unfolding user_tests is_user
returns c head held few =
    let a = c.args in
    rw (← (user_test head a.user a.words.now.users.leaves c.contains.result few c.contains.ensures held.users.leaves))
    c.ensure.ensures
