-- Laws of this crate.
pub mod Masks
pub mod Seeking
pub mod Fresh
pub mod New
pub mod Keys
pub mod Flagging
pub mod Answers
pub mod Domains
