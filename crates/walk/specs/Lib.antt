-- What the contracts of this crate cite beside the definition.
pub mod Tables
pub mod Walks
pub mod Left
pub mod Ended
pub mod Went
pub mod Linked
pub mod Walked
pub mod Reached
