-- One pass over the categories; the law `supported_more` is its step. Assumes nothing.
use Rattle.std.proofs.Common.{arith}
use Rattle.book.specs.Head.{is_data_leaf}
use Rattle.book.proofs.Support.{supported_none, supported_more, supported_end}
use Rattle.book.proofs.words.Words.supporters.Goals as goal

pub loop-c-init : goal.loop-c-init
loop-c-init c = (omega (arith, c.min-n.ensures), λ head w. supported_none head)

pub loop-c-preserved : goal.loop-c-preserved
unfolding is_data_leaf
loop-c-preserved c =
    let one = c.single in
    let mask = c.word_if-mask in
    let found = c.contains in
    let at = c.from-at in
    let l = c.loop-c in
    let categories = c.args.self.now.categories in (
      l.invariant.0,
      λ head w.
          supported_more head l.c categories.leaves one.result mask.result l.words c.add_set.new.words
          (l.invariant.1 head w) w.categories.leaves (rw at.ensures at one.ensures)
          (rw (
            ← at.ensures,
            ← (c.support.ensures head w (omega (arith, at.ensures)) (omega (arith, at.ensures, w.categories.number, c.min-n.ensures))),
            ← found.ensures,
          ) mask.ensures)
          c.add_set.ensures,
    )

pub returns : goal.returns
returns c head w =
    let l = c.loop-c in
    let m = c.min-n in
    supported_end head c.args.self.now.categories.count m.result l.c l.words (l.invariant.1 head w)
    (omega arith) w.categories.number m.ensures
