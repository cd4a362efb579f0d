-- Laws of this crate.
pub mod KernelLaws
pub mod TableLaws
pub mod MemberLaws
pub mod OrderLaws
pub mod Several
pub mod Ascending
pub mod ArgumentLaws
pub mod Whole
pub mod Kept
pub mod Places
pub mod Between
pub mod LinkLaws
