pub mod Rows
pub mod Paths
pub mod Accesses
pub mod Answers
pub mod Inner
