-- Laws of the loops that fill words. Assumes nothing.
pub use Rattle.book.proofs.Loops.{Filled, fill_none, fill_more}
