-- An accepted book has at most 32 rules. Assumes nothing.
use Rattle.book.proofs.Accepted.{accepted_length}
use Rattle.book.proofs.books.Book.rule_count.Goals as goal

pub returns : goal.returns
returns c =
    let book = c.args.self.now in
    c.rule_count.ensures.0 (accepted_length book.bytes.now book.accepted).1
