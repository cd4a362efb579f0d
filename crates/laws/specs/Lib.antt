-- Definitions about the definition's values that contracts cite.
pub mod Bytes
pub mod Numbering
pub mod KindTable
pub mod Steps
pub mod Sound
