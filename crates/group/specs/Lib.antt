-- What the contracts of this crate cite beside the definition.
pub mod Sections
pub mod Index
pub mod Answers
pub mod Lookups
pub mod Views
pub mod Written
