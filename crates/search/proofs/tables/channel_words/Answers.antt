-- One word of each channel a turn (`Channels`). Assumes nothing.
use mathlib.Core.Path.{refl}
use lib.ListN.{replicate}
use Rattle.search.proofs.RuleWords.{channels_none, channels_more, channels_end}
use borrow.Author.Rules.{rules}
use Rattle.search.proofs.tables.channel_words.Goals as goal

pub loop-w-init : goal.loop-w-init
loop-w-init c =
    let a = c.args in
    channels_none a.leaves a.projected a.tested (replicate 33 0) refl refl

pub loop-w-preserved : goal.loop-w-preserved
loop-w-preserved c =
    let a = c.args in
    let loop = c.loop-w in
    let word = c.spread-word in
    let one = c.word_if in
    channels_more a.leaves a.projected a.tested loop.words loop.w word.result one.result
    c.word_if-in-loop-w.result c.loop-w-test.true word.ensures one.ensures
    c.word_if-in-loop-w.ensures loop.invariant

pub returns : goal.returns
returns c =
    let a = c.args in
    channels_end a.leaves a.projected a.tested c.loop-w.words c.loop-w.w (search rules)
    c.loop-w.invariant
