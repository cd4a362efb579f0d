pub mod Groups
pub mod Measuring
pub mod Naming
pub mod Premises
pub mod Ruling
