-- What the contracts of this crate cite beside the definition.
pub mod Yielding
pub mod Elements
pub mod Added
pub mod Steps
pub mod Edges
