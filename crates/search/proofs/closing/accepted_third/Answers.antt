-- The third reference beside the first two. Assumes nothing.
use Rattle.search.proofs.closing.accepted_third.Goals as goal

pub returns : goal.returns
returns c =
    rw (c.reference_at-first.ensures.0, c.reference_at-second.ensures.0, c.reference_at-third.ensures.0) at
    c.accepted_beside.ensures
