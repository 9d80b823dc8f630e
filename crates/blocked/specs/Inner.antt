-- What the inner functions promise each other. No call's promise leans on these files.
pub mod Cells
pub mod Pairs
pub mod Rows
pub mod Users
pub mod Few
pub mod First
pub mod Tables
pub mod Start
