-- Each block's outcome is that of its tests, once the lower blocks have passed (`contents_known`). Assumes nothing.
use Rattle.std.proofs.Common.{rules}
use Rattle.book.specs.Blocks.{head_of, block_at}
use Rattle.book.specs.Refusals.{content_tests}
use Rattle.book.specs.Inner.Testing.{ContentsAt}
use Rattle.book.proofs.Answers.{walked}
use Rattle.book.proofs.Tests.{contents_known}
use Rattle.book.proofs.checking.test_blocks.Goals as goal

pub returns : goal.returns
returns c w =
    let book = c.args.book.now in
    let words = c.args.words.now in
    walked (content_tests book) c.args.n (λ i r. ContentsAt (head_of book) words (block_at book i) i r)
    (λ i r l low at. contents_known book words w i r low at) c.first_refusal.result
    c.first_refusal.ensures.passed c.first_refusal.ensures.refused
    (λ f i h. let e = f i h in search rules)
    (λ r f. (f.0, f.1, let e = f.2 in search rules, λ j l. let e = f.3 j l in search rules))
