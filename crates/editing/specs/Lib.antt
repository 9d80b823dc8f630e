pub mod Books
pub mod Marks
pub mod Record
pub mod Answers
pub mod Edits
pub mod Demand
pub mod Inner
