-- What the inner functions promise each other. No call's promise leans on these files.
pub mod Places
pub mod Table
pub mod Closing
pub mod Search
pub mod Weight
pub mod First
