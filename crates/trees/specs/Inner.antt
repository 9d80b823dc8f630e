-- What the inner functions promise each other. No call's promise leans on these files.
pub mod Walks
