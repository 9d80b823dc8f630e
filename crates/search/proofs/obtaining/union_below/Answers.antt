-- One word more a turn (`gather_more`). Assumes nothing.
use native.Mathlib.Omega.{arith}
use Rattle.search.proofs.Obtained.{gather_none, gather_more, gather_end}
use Rattle.search.proofs.obtaining.union_below.Goals as goal

pub loop-q-init : goal.loop-q-init
loop-q-init g c = (omega arith, λ f h. gather_none f)

pub loop-q-preserved : goal.loop-q-preserved
loop-q-preserved g c =
    let l = c.loop-q in
    let one = c.word-found in (
      omega arith,
      λ f h. gather_more f l.q l.found one.result (l.invariant.1 f h) (h l.q one.result (omega arith) one.ensures),
    )

pub returns : goal.returns
returns g c f h =
    let l = c.loop-q in
    gather_end f l.q c.args.n l.found (l.invariant.1 f h) (omega arith) (omega arith)
