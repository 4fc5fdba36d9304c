pub mod Answers
pub mod helpers
