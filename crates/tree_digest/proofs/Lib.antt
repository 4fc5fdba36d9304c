pub mod Messages
pub mod Answers
pub mod Front
