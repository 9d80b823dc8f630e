pub mod Actions
pub mod Accesses
pub mod ActionCases
pub mod Breaking
pub mod Semantics
pub mod Demand
pub mod Answers
pub mod Inner
