pub mod Block
pub mod Answers
