-- The book's words are those of its head, and the joined words hold the union (`mask_joined`).
use Rattle.ledger.proofs.CallLaws.{mask_joined}
use Rattle.ledger.proofs.asking.mask_with.Goals as goal

pub returns : goal.returns
returns c =
    let book = c.args.book.now in
    mask_joined _ _ _ _ _ _ _ _ _ _ (c.broken_by.ensures book.told book.accepted) c.words_of-all.ensures
    c.held_words-held.ensures c.join.ensures c.join-2.ensures
