pub mod Bounds
pub mod Masks
pub mod PackedLaws
pub mod Unpacking
pub mod Headline
pub mod Edits
pub mod RecordSteps
