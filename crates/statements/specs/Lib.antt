-- What the contracts of this crate cite beside the definition.
pub mod Said
pub mod Structures
pub mod Parts
pub mod Equalities
