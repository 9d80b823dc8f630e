pub mod Reading
pub mod Words
pub mod Faults
pub mod Testing
