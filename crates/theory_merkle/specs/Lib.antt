pub mod Message
pub mod Tree
pub mod Digests
pub mod Shape
pub mod Binding
pub mod Questions
pub mod PartQuestions
pub mod Numbers
