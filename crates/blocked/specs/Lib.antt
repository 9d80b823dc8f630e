pub mod Associations
pub mod Open
pub mod Few
pub mod Answers
pub mod Demand
pub mod Minimal
pub mod Plans
pub mod Inner
