-- What the contracts of this crate cite beside the definition.
pub mod Numbered
pub mod Rules
