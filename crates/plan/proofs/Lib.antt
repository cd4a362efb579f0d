-- Laws behind the walked kinds.
pub mod Chains
pub mod Incoming
pub mod TableLaws
pub mod Storing
pub mod Walked
