-- What the contracts of this crate cite beside the definition.
pub mod Faults
pub mod Index
pub mod Answers
pub mod Entries
pub mod Relations
