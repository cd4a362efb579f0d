-- Laws of this crate.
pub mod Whole
pub mod Entries
pub mod Carrying
pub mod Basing
pub mod News
pub mod Printing
pub mod Reached
