pub mod Trees
pub mod Text
pub mod Answers
pub mod Demand
pub mod Inner
