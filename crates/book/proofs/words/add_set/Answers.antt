-- The set is added to the words of the mask below k: the invariant `Added`. Assumes nothing.
use Rattle.std.proofs.Common.{rules, arith, sym}
use lib.ListN.{get_or, length-set}
use lib.Bits.{or_zero_r}
use borrow.Author.Tests.{lt-ltb}
use Rattle.book.proofs.Members.{has_zero, added_none, added_here, added_not, added_yet}
use Rattle.book.proofs.words.add_set.Goals.{else-contains, then-contains}
use Rattle.book.proofs.words.add_set.Goals as goal

pub returns-then-mask-eq0 : goal.returns-then-mask-eq0
returns-then-mask-eq0 c k l =
    rw (c.if-mask-eq0.true, has_zero k) (sym (or_zero_r (get_or c.args.words.now k 0)))

pub loop-k-init : goal.loop-k-init
loop-k-init c = (search rules, added_none c.args.words.now c.args.set c.args.mask)

pub loop-k-preserved : goal.loop-k-preserved
loop-k-preserved c =
    let at = c.loop-k in
    let args = c.args in
    elim c.if-contains.branch [
      | then-contains w ↦ rw (w.words-is, added_yet args.words.now args.set args.mask at.words at.k at.invariant.1) (
        simp length-set at.invariant.0,
        added_here args.words.now args.set args.mask at.words at.k (search rules) (cc) at.invariant.1,
      )
      | else-contains w ↦ rw w.words-is (
        at.invariant.0,
        added_not args.words.now args.set args.mask at.words at.k (cc) at.invariant.1,
      )
    ]

pub returns : goal.returns
returns c k l = rw (lt-ltb k c.loop-k.k (omega arith)) at (c.loop-k.invariant.1 k)
