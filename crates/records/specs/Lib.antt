-- What the contracts of this crate cite beside the definition.
pub mod Places
pub mod Held
pub mod Iter
pub mod Buffer
pub mod Refusals
