pub mod Reading
pub mod Table
