-- What the contracts of this crate cite beside the definition.
pub mod Table
pub mod Kernel
pub mod Morphisms
pub mod Morphism
pub mod Links
pub mod Arguments
pub mod Members
