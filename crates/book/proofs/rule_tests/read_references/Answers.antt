-- The three references are all that a rule may have (`references_three`). Assumes nothing.
use Rattle.std.proofs.Common.{rules, ◌∙◌, sym}
use Rattle.book.proofs.References.{none_read, unread, unread_users, all_read}
use Rattle.book.proofs.rule_tests.read_references.Goals as goal

pub returns-then-not-user_numbers_hold : goal.returns-then-not-user_numbers_hold
returns-then-not-user_numbers_hold c head w few =
    unread_users head c.args.rule.now (sym (c.user_numbers_hold.ensures head w) ∙ c.if-not-user_numbers_hold.true)

pub returns-in_err-a : goal.returns-in_err-a
returns-in_err-a c head w few =
    none_read head c.args.rule.now _ (search rules)
    (unread head c.args.rule.now 0 (rw c.in_err-a.was at (c.read_reference.ensures head w)))

pub returns-in_err-b : goal.returns-in_err-b
returns-in_err-b c head w few =
    none_read head c.args.rule.now _ (search rules)
    (unread head c.args.rule.now 1 (rw c.in_err-b.was at (c.read_reference-2.ensures head w)))

pub returns-in_err-c : goal.returns-in_err-c
returns-in_err-c c head w few =
    none_read head c.args.rule.now _ (search rules)
    (unread head c.args.rule.now 2 (rw c.in_err-c.was at (c.read_reference-3.ensures head w)))

pub returns : goal.returns
returns c head w few =
    let a = rw c.in_ok-a.was at (c.read_reference.ensures head w) in
    let b = rw c.in_ok-b.was at (c.read_reference-2.ensures head w) in
    let d = rw c.in_ok-c.was at (c.read_reference-3.ensures head w) in (
      all_read head c.args.rule.now few
          (sym (c.user_numbers_hold.ensures head w) ∙ c.if-not-user_numbers_hold.false)
          a.0 b.0 d.0,
      a.1,
      b.1,
      d.1,
    )
