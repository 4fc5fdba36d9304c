pub mod Questions
pub mod PartQuestions
pub mod Gammas
