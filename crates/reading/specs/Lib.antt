pub mod Verdicts
pub mod Answers
