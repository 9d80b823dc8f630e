pub mod Obtainable
pub mod Choices
pub mod Shown
pub mod Alone
pub mod Answers
pub mod Demand
pub mod Inner
