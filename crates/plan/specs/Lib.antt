-- What the contracts of this crate cite beside the definition.
pub mod Plan
pub mod Sources
pub mod Table
