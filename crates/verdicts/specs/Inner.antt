pub mod Words
pub mod Masks
