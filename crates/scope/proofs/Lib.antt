-- Laws of scope.
pub mod Prefixes
pub mod Settling
pub mod InOrder
pub mod Whole
