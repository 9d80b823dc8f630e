-- One pass over the categories; the law `supported_more` is its step. Assumes nothing.
use Rattle.std.proofs.Common.{ℕ, ◌≤◌, List}
use Rattle.book.specs.Inner.Words.{HeadWords}
use Rattle.book.proofs.Support.{Supported}
use Rattle.book.proofs.words.Words.supporters.Given as goal

abbrev pub invariant-loop-c : goal.invariant-loop-c
invariant-loop-c l =
    (l.n ≤ 64) × ((head : List ℕ) → HeadWords head l.self → Supported head l.c l.words)
