-- What the contracts of this crate cite beside the definition.
pub mod Variables
pub mod Bases
pub mod Maps
